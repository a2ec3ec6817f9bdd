use Rattle.std.proofs.Common.{◌≡◌, ◌≤◌, ◌<◌, ◌+◌, true, ap, sym, subst, length}
use Rattle.iax_frames.specs.TrunkFrame.{head_len}
use Rattle.peer_accounts.specs.Accounts.{Accounts}
use Rattle.peer_lock.specs.Peer.{PeerView}
use Rattle.peer_lock.specs.Trunks.{most_entries, waits}
use Rattle.trunk_packer.specs.Queue.{QueueEntry, call_entries, trunk_octets}
use Rattle.peer_lock.proofs.Kept.{kept_queued}
use Rattle.peer_lock.proofs.Views.{view_of}
use Rattle.peer_lock.proofs.state.PeerState.queue_media.Goals as goal

pub invariant_of-self : goal.invariant_of-self
invariant_of-self g c =
    let view = view_of c.self.view_is in
    let entry : QueueEntry = record { number = c.args.number; timestamp = c.args.timestamp; media = c.args.media.now } in
    kept_queued view c.queue.new.self c.oldest-since.result c.carry.new.self entry c.self.invariant c.in-Ok.ensures.queued
    c.in-Ok.ensures.counted
    (ap (λ (a : Accounts). a.queued) c.carry.ensures.counted)
    (subst (λ (v : PeerView). waits v.rules ≡ true → trunk_octets v.rules.trunk_timestamps v.queue + head_len
    v.rules.trunk_timestamps + length c.args.media.now ≤ 1400) (sym c.self.view_is) c.requires.frame)
    (subst (λ (v : PeerView). waits v.rules ≡ true → call_entries c.args.number v.queue < most_entries v.rules.trunk_timestamps)
    (sym c.self.view_is) c.requires.entries)
