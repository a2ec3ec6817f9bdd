use Rattle.std.proofs.Common.{◌≡◌, ◌<◌, ◌∷◌, [], length, rules}
use Rattle.outbox.specs.Outbox.{put, extended}
use Rattle.outbox.proofs.Puts.{put_fits}
use Rattle.peer_lock.proofs.Packing.{packed_kept}
use Rattle.peer_lock.proofs.state.PeerState.pack_one.Goals as goal

pub invariant_of-self-2 : goal.invariant_of-self-2
invariant_of-self-2 g c = packed_kept _ c.args.now _ _ _ _ _ c.self.invariant c.in_ok-out.ensures.packed
    c.in_ok-out.ensures.counted c.pack-2.ensures.queued

pub returns-clause-some : goal.returns-clause-some
returns-clause-some g c =
    let room : length c.args.self.now.outbox.waiting < 256 = search rules in
    let fits : extended c.args.self.now.outbox (c.in_ok-out.out ∷ []) ≡ put c.args.self.now.outbox (c.in_ok-out.out ∷ []) =
    put_fits c.args.self.now.outbox c.in_ok-out.out room in
    record {
      datagram = c.in_ok-out.out;
      front = search rules;
      media = search rules;
      shorter = search rules;
      rest = search rules;
    }
