use Rattle.exchange_tests.proofs.tests.steps_by_hand.drained_at.Given as goal

abbrev pub ghosts-beside_drained-O-Ledger : goal.ghosts-beside_drained-O-Ledger
ghosts-beside_drained-O-Ledger g a = record { name = a.calm.octets.name; parts = a.calm.octets.parts }

abbrev pub ghosts-beside_drained-T-Ledger : goal.ghosts-beside_drained-T-Ledger
ghosts-beside_drained-T-Ledger g a = record { name = a.calm.steps.name; parts = a.calm.steps.parts }

abbrev pub ghosts-beside_drained-P-Ledger : goal.ghosts-beside_drained-P-Ledger
ghosts-beside_drained-P-Ledger g a = record { name = a.drained.octets.name; parts = a.drained.octets.parts }

abbrev pub ghosts-beside_drained-Q-Ledger : goal.ghosts-beside_drained-Q-Ledger
ghosts-beside_drained-Q-Ledger g a = record { name = a.drained.steps.name; parts = a.drained.steps.parts }
