use Rattle.std.proofs.Common.{◌≡◌, arith}
use Rattle.std.proofs.lemmas.Grind.{common_steps}
use Rattle.peer_plan.proofs.PlaceLaws.{named_at}
use Rattle.peer_plan.proofs.peer_names.peer_named.Goals as goal

pub returns-then-eq-clause-place : goal.returns-then-eq-clause-place
returns-then-eq-clause-place c =
    let at = named_at c.args.name.now c.name.result.now c.args.plan.now.peers c.loop-place.place
    (rw c.new-peer.ensures at c.name.ensures) in
    let is = c.new-peer.ensures in
    grind (arith, common_steps)

pub loop-place-preserved : goal.loop-place-preserved
loop-place-preserved c =
    let at = named_at c.args.name.now c.name.result.now c.args.plan.now.peers c.loop-place.place
    (rw c.new-peer.ensures at c.name.ensures) in
    let is = c.new-peer.ensures in
    grind (arith, common_steps)
