-- Any thread may use an exchange. The search at its use tries too little for that.
use denote.Param.Send.{IsSend, IsSync, sendable}
use denote.RattleType.{RattleType}
use Rattle.exchange_core.specs.contracts.exchange.Exchange as exchange
use Rattle.exchange_core.specs.contracts.locked.Locked as locked
use Rattle.media_ledger.proofs.Sending.{supply_sync}
use Rattle.step_log.proofs.Sending.{book_send, peer_send}
use Rattle.peer_accounts.specs.declared.ledger_set.LedgerSet as ledger_set
use Rattle.peer_plan.specs.contracts.plan.Plan as plan
use Rattle.std.proofs.Crossing.{crosses}
use Rattle.std.specs.declared.sync.ledger.Ledger as ledger

plan_sync : IsSync plan.the_row
plan_sync = search (sendable, crosses) parts 8 depth 40 fits 50000

locked_sync : (T : RattleType) → IsSend T → IsSync (locked.the_row T)
locked_sync T s = search (sendable, crosses) parts 8 depth 40 fits 50000

pub exchange_sync : (G J O S : RattleType) (n : ledger_set.Ghosts J.Denot O.Denot S.Denot) (o : ledger.Ghosts O.Denot)
    (s : ledger.Ghosts S.Denot) → IsSync G → IsSync (exchange.the_row G J O S n o s)
exchange_sync G J O S n o s y =
    search (plan_sync, locked_sync, book_send, peer_send, supply_sync, sendable, crosses) parts 8 depth 40 fits 50000
