use Rattle.exchange_tests.proofs.tests.losses.losses_are_told_by_kind.Given as goal

abbrev pub ghosts-losses_over-O-Ledger : goal.ghosts-losses_over-O-Ledger
ghosts-losses_over-O-Ledger g a = record { name = a.octets.name; parts = a.octets.parts }

abbrev pub ghosts-losses_over-T-Ledger : goal.ghosts-losses_over-T-Ledger
ghosts-losses_over-T-Ledger g a = record { name = a.steps.name; parts = a.steps.parts }
