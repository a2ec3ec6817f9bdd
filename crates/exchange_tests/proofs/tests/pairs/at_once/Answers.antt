use denote.Exit.{no}
use denote.Param.{param}
use denote.Param.Send.{IsSend, IsSync, arg_send, mut_send, param_send, sendable, shr_send}
use denote.Param.SendFields.{as_row_send, declared_send}
use denote.RattleType.{RattleType}
use denote.Ref.{MutRef, NamedLft, ShrRef}
use denote.Struct.Field.{row_field}
use denote.Struct.Tuple.{TupleAt, type_at}
use mir.Syntax.{Sym}
use Rattle.exchange_core.proofs.Sending.{exchange_sync}
use Rattle.exchange_tests.specs.contracts.tests.desk.Desk as desk
use Rattle.exchange_tests.specs.contracts.tests.pairs.Pair as pair
use Rattle.peer_accounts.specs.declared.ledger_set.LedgerSet as ledger_set
use Rattle.std.proofs.Common.{[], ◌∷◌}
use Rattle.std.proofs.Crossing.{crosses}
use Rattle.std.specs.declared.sync.ledger.Ledger as ledger
use Rattle.step_log.proofs.Sending.{pass_send}
use Rattle.exchange_tests.proofs.tests.pairs.at_once.Goals as goal

-- A closure that refers to the handle of the system, a desk and what the threads do may go to another thread. The search at the
-- use tries too little for that.
looks_sync : (a : NamedLft) → IsSync (pair.the_row a)
looks_sync a = search (sendable, crosses) parts 8 depth 40 fits 50000

module _ (J O S : RattleType) (n : ledger_set.Ghosts J.Denot O.Denot S.Denot) (o : ledger.Ghosts O.Denot)
    (s : ledger.Ghosts S.Denot) where
  desk_send : (t : NamedLft) (R G : RattleType) → IsSync R → IsSync G → IsSend (desk.the_row t R G J O S n o s)
  desk_send t R G of_r of_g = search (exchange_sync, pass_send, sendable, crosses) parts 8 depth 40 fits 50000

  -- the closure of a thread, by the name of its type
  lent_send : (name : Sym) (b c d e f : NamedLft) (R G : RattleType) → IsSync R → IsSync G
      → IsSend (TupleAt name (ShrRef c.mir c.lft R ∷ MutRef d.mir d.lft (desk.the_row e R G J O S n o s)
      ∷ ShrRef f.mir f.lft (pair.the_row b) ∷ []))
  lent_send name b c d e f R G of_r of_g =
      let seen : RattleType = pair.the_row b in
      let lent : RattleType = desk.the_row e R G J O S n o s in
      let of_lent = as_row_send (row_field (MutRef d.mir d.lft lent)) (mut_send d.mir d.lft lent (desk_send e R G of_r of_g)) in
      declared_send (type_at name (ShrRef c.mir c.lft R ∷ MutRef d.mir d.lft lent ∷ ShrRef f.mir f.lft seen ∷ [])) (
        shr_send c.mir c.lft R of_r,
        (of_lent, (shr_send f.mir f.lft seen (looks_sync b), tt)),
      )

-- each parameter under the number that the function gives it
pub join-requires-send-F : goal.join-requires-send-F
join-requires-send-F g c κs within =
    let may = c.type_bounds in
    param_send 1 _ (arg_send _ no _ (
    lent_send (param 2 g.row.J) (param 3 g.row.J-Octets) (param 4 g.row.J-Steps) g.J.LedgerSet g.J.Octets.Ledger
    g.J.Steps.Ledger _ _ _ _ _ _ (param 0 g.row.R) (param 1 g.row.G) may.sync-R may.sync-G))
