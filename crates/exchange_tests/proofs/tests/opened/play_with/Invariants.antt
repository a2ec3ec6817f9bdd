use Rattle.exchange_tests.proofs.tests.opened.play_with.Given as goal

abbrev pub ghosts-play_named-O-Ledger : goal.ghosts-play_named-O-Ledger
ghosts-play_named-O-Ledger g a = record { name = a.octets.name; parts = a.octets.parts }

abbrev pub ghosts-play_named-T-Ledger : goal.ghosts-play_named-T-Ledger
ghosts-play_named-T-Ledger g a = record { name = a.steps.name; parts = a.steps.parts }

abbrev pub ghosts-play_named-P-PlanBrand : goal.ghosts-play_named-P-PlanBrand
ghosts-play_named-P-PlanBrand g a = record { plan = a.plan }
