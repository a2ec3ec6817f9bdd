use Rattle.exchange_commands.proofs.serving.serve.Given as goal

abbrev pub ghosts-serve_with_exchange-O-Ledger : goal.ghosts-serve_with_exchange-O-Ledger
ghosts-serve_with_exchange-O-Ledger g a = record { name = a.opening.octets.name; parts = a.opening.octets.parts }

abbrev pub ghosts-serve_with_exchange-S-Ledger : goal.ghosts-serve_with_exchange-S-Ledger
ghosts-serve_with_exchange-S-Ledger g a = record { name = a.opening.steps.name; parts = a.opening.steps.parts }

abbrev pub ghosts-serve_with_exchange-P-PlanBrand : goal.ghosts-serve_with_exchange-P-PlanBrand
ghosts-serve_with_exchange-P-PlanBrand g a = record { plan = a.opening.plan }
