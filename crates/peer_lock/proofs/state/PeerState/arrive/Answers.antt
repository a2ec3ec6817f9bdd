use Rattle.std.proofs.Common.{map, rules, subst}
use Rattle.iax_frames.specs.TrunkFrame.{entry_item, is_timed}
use Rattle.peer_lock.specs.Unworked.{IsShortDatagram}
use Rattle.peer_lock.proofs.Entries.{few_entries}
use Rattle.peer_lock.proofs.state.PeerState.arrive.Goals as goal

pub take_entries-requires-clause-room : goal.take_entries-requires-clause-room
take_entries-requires-clause-room g c κs within =
    let short = subst IsShortDatagram c.in-Trunk.is c.requires.short in
    let few = few_entries (is_timed c.in-Trunk.trunk.command_data) (map entry_item c.in-Trunk.trunk.entries) short in search rules
