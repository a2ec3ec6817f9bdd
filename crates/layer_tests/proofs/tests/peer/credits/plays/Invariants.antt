use Rattle.layer_tests.proofs.tests.peer.credits.plays.Given as goal

abbrev pub ghosts-lent-O-Ledger : goal.ghosts-lent-O-Ledger
ghosts-lent-O-Ledger g a = record { name = a.octets.name; parts = a.octets.parts }

abbrev pub ghosts-lent-S-Ledger : goal.ghosts-lent-S-Ledger
ghosts-lent-S-Ledger g a = record { name = a.steps.name; parts = a.steps.parts }
