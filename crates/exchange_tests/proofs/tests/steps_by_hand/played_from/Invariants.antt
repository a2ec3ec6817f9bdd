use Rattle.exchange_tests.proofs.tests.steps_by_hand.played_from.Given as goal

abbrev pub ghosts-played-O-Ledger : goal.ghosts-played-O-Ledger
ghosts-played-O-Ledger g a = record { name = a.locked.octets.name; parts = a.locked.octets.parts }

abbrev pub ghosts-played-T-Ledger : goal.ghosts-played-T-Ledger
ghosts-played-T-Ledger g a = record { name = a.locked.steps.name; parts = a.locked.steps.parts }

abbrev pub ghosts-played-P-Ledger : goal.ghosts-played-P-Ledger
ghosts-played-P-Ledger g a = record { name = a.plain.octets.name; parts = a.plain.octets.parts }

abbrev pub ghosts-played-Q-Ledger : goal.ghosts-played-Q-Ledger
ghosts-played-Q-Ledger g a = record { name = a.plain.steps.name; parts = a.plain.steps.parts }
