use Rattle.std.proofs.Common.{[], map}
use Rattle.iax_frames.specs.TrunkFrame.{entry_item, is_timed}
use Rattle.peer_lock.specs.Arrivals.{trunk_media}
use Rattle.peer_lock.specs.TrunkEntries.{drops_entries}
use Rattle.peer_lock.proofs.Entries.{AreLeft}
use Rattle.peer_lock.proofs.state.PeerState.take_entries.Given as goal

abbrev pub invariant-loop-entry : goal.invariant-loop-entry
invariant-loop-entry g l =
    (goal.iterator-loop-entry g).can_next l.left × (goal.iterator-loop-entry g).is_finite l.left
    × AreLeft g.J.LedgerSet.first_octets l.initial.self l.initial.pass (trunk_media g.J.LedgerSet.first_octets l.initial.self
    l.trunk)
    (drops_entries l.initial.self.legs l.initial.self.rules.is_hardened [] (map entry_item l.trunk.entries))
    (is_timed l.trunk.command_data) l.at (map entry_item l.left) l.counts l.drops l.self l.pass l.onwards
