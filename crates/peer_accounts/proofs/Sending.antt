-- The accounts of a peer, and a token, may go to another thread.
use denote.Param.Send.{IsSend, sendable}
use denote.RattleType.{RattleType}
use Rattle.media_ledger.proofs.Sending.{part_send}
use Rattle.peer_accounts.specs.contracts.account.Account as account
use Rattle.peer_accounts.specs.contracts.onwards.Onwards as onwards
use Rattle.peer_accounts.specs.contracts.pass.Pass as pass
use Rattle.peer_accounts.specs.declared.ledger_set.LedgerSet.{Ghosts}
use Rattle.std.proofs.Crossing.{crosses}
use Rattle.std.specs.declared.sync.ledger.Ledger as ledger

pub account_send : (J O S : RattleType) (n : Ghosts J.Denot O.Denot S.Denot) (o : ledger.Ghosts O.Denot)
    (s : ledger.Ghosts S.Denot) → IsSend (account.the_row J O S n o s)
account_send J O S n o s = search (part_send, sendable, crosses) parts 8 depth 40 fits 50000

onwards_send : IsSend onwards.the_row
onwards_send = search (sendable, crosses) parts 8 depth 40 fits 50000

pub credits_send : (J O S : RattleType) (n : Ghosts J.Denot O.Denot S.Denot) (o : ledger.Ghosts O.Denot)
    (s : ledger.Ghosts S.Denot) → IsSend (pass.the_row J O S n o s)
credits_send J O S n o s = search (part_send, onwards_send, sendable, crosses) parts 8 depth 40 fits 50000
