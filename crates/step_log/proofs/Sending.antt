-- A peer, the book and a pass may go to another thread.
use denote.Param.Send.{IsSend, sendable}
use denote.RattleType.{RattleType}
use Rattle.step_log.specs.contracts.noted_book.NotedBook as book
use Rattle.step_log.specs.contracts.noted_peer.NotedPeer as peer
use Rattle.step_log.specs.contracts.pass.Pass as pass
use Rattle.step_log.proofs.Trails.{trail_send}
use Rattle.peer_accounts.proofs.Sending.{credits_send}
use Rattle.peer_accounts.specs.declared.ledger_set.LedgerSet.{Ghosts}
use Rattle.peer_lock.proofs.Sending.{state_send}
use Rattle.std.proofs.Crossing.{crosses}
use Rattle.std.specs.declared.sync.ledger.Ledger as ledger

pub book_send : IsSend book.the_row
book_send = search (sendable, crosses) parts 8 depth 40 fits 50000

pub peer_send : (J O S : RattleType) (n : Ghosts J.Denot O.Denot S.Denot) (o : ledger.Ghosts O.Denot) (s : ledger.Ghosts S.Denot)
    → IsSend (peer.the_row J O S n o s)
peer_send J O S n o s = search (state_send, sendable, crosses) parts 8 depth 40 fits 50000

pub pass_send : (J O S : RattleType) (n : Ghosts J.Denot O.Denot S.Denot) (o : ledger.Ghosts O.Denot) (s : ledger.Ghosts S.Denot)
    → IsSend (pass.the_row J O S n o s)
pass_send J O S n o s = search (credits_send, trail_send, sendable, crosses) parts 8 depth 40 fits 50000
