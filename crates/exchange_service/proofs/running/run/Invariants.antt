use Rattle.exchange_service.proofs.running.run.Given as goal

abbrev pub ghosts-run_with_exchange-O-Ledger : goal.ghosts-run_with_exchange-O-Ledger
ghosts-run_with_exchange-O-Ledger g a = record { name = a.opening.octets.name; parts = a.opening.octets.parts }

abbrev pub ghosts-run_with_exchange-S-Ledger : goal.ghosts-run_with_exchange-S-Ledger
ghosts-run_with_exchange-S-Ledger g a = record { name = a.opening.steps.name; parts = a.opening.steps.parts }

abbrev pub ghosts-run_with_exchange-P-PlanBrand : goal.ghosts-run_with_exchange-P-PlanBrand
ghosts-run_with_exchange-P-PlanBrand g a = record { plan = a.opening.plan }
