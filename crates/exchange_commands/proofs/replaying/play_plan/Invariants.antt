use Rattle.exchange_commands.proofs.replaying.play_plan.Given as goal

abbrev pub ghosts-play-O-Ledger : goal.ghosts-play-O-Ledger
ghosts-play-O-Ledger g a = record { name = a.octets.name; parts = a.octets.parts }

abbrev pub ghosts-play-S-Ledger : goal.ghosts-play-S-Ledger
ghosts-play-S-Ledger g a = record { name = a.steps.name; parts = a.steps.parts }
