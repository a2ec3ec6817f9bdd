-- What contracts see of a peer's fields.
use Rattle.std.proofs.Common.{◌≡◌}
use Rattle.peer_lock.specs.Peer.{PeerView}

-- the left side of the equation by which an answer knows the fields
abbrev pub view_of : {view peer : PeerView} → view ≡ peer → PeerView
view_of {view} is = view
