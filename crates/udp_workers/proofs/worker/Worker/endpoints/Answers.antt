use Rattle.std.proofs.Common.{◌<◌, ◌∙◌, subst, sym, length}
use Rattle.std.proofs.lemmas.List.Elements.{All-get_or}
use Rattle.std.specs.Prelude.{All}
use Rattle.udp_workers.proofs.ServedLaws.{peers_below}
use Rattle.udp_workers.proofs.worker.Worker.endpoints.Goals as goal

pub endpoint-requires : goal.endpoint-requires
endpoint-requires c =
    let self = c.args.self.now in
    let plan = c.args.plan.now in
    let peers = c.peers-peer-items.result.now in
    rw c.new.ensures (All-get_or (λ peer. peer < length plan.peers) peers c.loop-peer.peer-index 0 c.loop-peer-test.true
    (subst (All (λ peer. peer < length plan.peers)) (sym (c.peers-peer-items.ensures.peers ∙ c.requires))
    (peers_below plan self.place)))
