use Rattle.std.proofs.Common.{◌≡◌, [], drop}
use Rattle.toml.specs.View.{items_view}
use Rattle.peer_plan.specs.declared.key.Key.TheVariants as key
use Rattle.peer_plan.specs.Fields.{each}
use Rattle.peer_plan.specs.Reading.{peer_in}
use Rattle.peer_plan.proofs.reading.peers.each_peer.Given as goal

-- the peers read so far, and the remaining tables
abbrev pub invariant-loop-item : goal.invariant-loop-item
invariant-loop-item l =
    each key.Peer (λ _. peer_in l.format l.limits l.workers) l.peers.items (items_view (drop l.item-index l.items))
    ≡ each key.Peer (λ _. peer_in l.format l.limits l.workers) [] (items_view l.items)
