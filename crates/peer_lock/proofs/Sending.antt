-- The state of a peer may go to another thread.
use denote.Param.Send.{IsSend, sendable}
use denote.RattleType.{RattleType}
use Rattle.call_signals.specs.contracts.reply.Replies as replies
use Rattle.call_signals.specs.contracts.rules.PeerRules as rules
use Rattle.outbox.proofs.Sending.{outbox_send}
use Rattle.peer_accounts.proofs.Sending.{account_send}
use Rattle.peer_accounts.specs.declared.ledger_set.LedgerSet.{Ghosts}
use Rattle.peer_legs.proofs.Sending.{legs_send}
use Rattle.peer_lock.specs.contracts.pokes.Pokes as pokes
use Rattle.peer_lock.specs.contracts.state.PeerState.{the_row}
use Rattle.std.proofs.Crossing.{crosses}
use Rattle.std.specs.declared.sync.ledger.Ledger as ledger
use Rattle.trunk_packer.proofs.Sending.{packer_send}

rules_send : IsSend rules.the_row
rules_send = search (sendable, crosses) parts 8 depth 40 fits 50000

replies_send : IsSend replies.the_row
replies_send = search (sendable, crosses) parts 8 depth 40 fits 50000

pokes_send : IsSend pokes.the_row
pokes_send = search (sendable, crosses) parts 8 depth 40 fits 50000

pub state_send : (J O S : RattleType) (n : Ghosts J.Denot O.Denot S.Denot) (o : ledger.Ghosts O.Denot) (s : ledger.Ghosts S.Denot)
    → IsSend (the_row J O S n o s)
state_send J O S n o s =
    search (legs_send, outbox_send, packer_send, rules_send, replies_send, pokes_send, account_send, sendable, crosses)
    parts 8 depth 40 fits 50000
