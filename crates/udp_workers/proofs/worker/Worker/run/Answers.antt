use Rattle.std.proofs.Common.{◌≡◌, ℕ, ◌<◌, ◌^◌, ◌⊎◌, inl, inr, arith}
use Rattle.std.specs.Prelude.{min}
use Rattle.exchange_core.specs.declared.watch.ServiceStage.TheVariants.{Ended, Serving}
use Rattle.udp_workers.proofs.worker.Worker.run.Goals as goal

-- nobody ends an unwatched run
all_made : (turns made : ℕ) → turns < 2 ^ 32 → (made ≡ min turns (2 ^ 48)) ⊎ (Ended ≡ Serving) → made ≡ turns
all_made turns made few (inl all) = omega arith
all_made turns made few (inr never) = absurd cc

pub returns-clause-received : goal.returns-clause-received
returns-clause-received g c =
    let made = c.run_until.ensures.turns in
    let all = all_made c.from-most.result made.turns (omega arith) made.ended in
    omega arith

pub returns-clause-emptied : goal.returns-clause-emptied
returns-clause-emptied g c =
    let made = c.run_until.ensures.turns in
    let all = all_made c.from-most.result made.turns (omega arith) made.ended in
    omega arith

pub returns-clause-turns : goal.returns-clause-turns
returns-clause-turns g c =
    let made = c.run_until.ensures.turns in
    let all = all_made c.from-most.result made.turns (omega arith) made.ended in
    omega arith
