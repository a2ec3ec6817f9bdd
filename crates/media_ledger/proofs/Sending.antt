-- A share may go to another thread, and any thread may read the supply. The search at a use tries too little for that in types
-- that hold a share.
use denote.Param.Send.{IsSend, IsSync, sendable}
use denote.RattleType.{RattleType}
use Rattle.core.proofs.ledger.Sent.{share_send, total_send, total_sync}
use Rattle.media_ledger.specs.contracts.share.Share as share
use Rattle.media_ledger.specs.contracts.supplied.Supply as supply
use Rattle.std.proofs.Crossing.{crosses}
use Rattle.std.specs.declared.sync.ledger.Ledger.{Ghosts}

pub part_send : (L : RattleType) (l : Ghosts L.Denot) → IsSend (share.the_row L l)
part_send L l = search (share_send, total_send, total_sync, sendable, crosses) parts 8 depth 40 fits 50000

pub supply_sync : (L : RattleType) (l : Ghosts L.Denot) → IsSync (supply.the_row L l)
supply_sync L l = search (total_send, total_sync, sendable, crosses) parts 8 depth 40 fits 50000
