use Rattle.layer_tests.proofs.tests.ledger.ledger_supply_too_much.Given as goal

abbrev pub ghosts-is_too_much : goal.ghosts-is_too_much
ghosts-is_too_much g a = record { name = a.blank.name; parts = a.blank.parts }
