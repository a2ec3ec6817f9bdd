use Rattle.laws_of_peers.proofs.OrderlyTrails.{follow_carries}
use Rattle.laws_of_peers.proofs.trails.trails_keep_their_order.Goals as goal

pub returns : goal.returns
returns c =
    let law = c.steps_keep_their_order.ensures in
    follow_carries law.datagrams law.calls_in law.rejected_calls law.calls_out law.orders law.ticks law.retiring law.none
    law.together
