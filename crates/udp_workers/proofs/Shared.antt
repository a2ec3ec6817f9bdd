-- The thread of a seat may be lent the seat and the service. The search at the use tries too little for that.
use denote.Param.Send.{IsSend, IsSync, sendable, shr_send}
use denote.Param.SendFields.{declared_send}
use denote.RattleType.{RattleType}
use denote.Ref.{NamedLft, ShrRef}
use denote.Struct.Tuple.{TupleAt, type_at}
use mir.Syntax.{Sym}
use Rattle.exchange_core.proofs.Sending.{exchange_sync}
use Rattle.step_log.proofs.Sending.{pass_send}
use Rattle.peer_accounts.specs.declared.ledger_set.LedgerSet as ledger_set
use Rattle.std.proofs.Common.{[], ◌∷◌}
use Rattle.std.proofs.Crossing.{crosses}
use Rattle.std.specs.declared.sync.ledger.Ledger as ledger
use Rattle.udp_wires.specs.declared.wire.Wire as wire
use Rattle.udp_workers.specs.contracts.seat.SeatState as place
use Rattle.udp_workers.specs.contracts.seat.Seat as seat
use Rattle.udp_workers.specs.contracts.seat.WatchedExchange as watched
use Rattle.udp_workers.specs.declared.seat.PlanBrand as post
use Rattle.udp_workers.specs.declared.sources.Challenges as challenges
use Rattle.udp_workers.specs.declared.sources.TurnClock as clock
use Rattle.exchange_core.specs.declared.watch.Watch as watch

module _ (J P O S : RattleType) (n : ledger_set.Ghosts J.Denot O.Denot S.Denot) (p : post.Ghosts P.Denot)
    (o : ledger.Ghosts O.Denot)
    (s : ledger.Ghosts S.Denot) where
  watched_sync : (t : NamedLft) (V G : RattleType) (v : watch.Ghosts V.Denot) → IsSync V → IsSync G
      → IsSync (watched.the_row t V G J P O S v n p o s)
  watched_sync t V G v of_v of_g = search (exchange_sync, sendable, crosses) parts 8 depth 40 fits 50000

  place_send : (W M C B : RattleType) (w : wire.Ghosts W.Denot) (m : clock.Ghosts M.Denot) (h : challenges.Ghosts C.Denot)
      → IsSend W → IsSend M → IsSend C → IsSend B
      → IsSend (place.the_row W M C B J P O S w m h n p o s)
  place_send W M C B w m h of_w of_m of_c of_b = search (pass_send, sendable, crosses) parts 8 depth 40 fits 50000

  seat_sync : (W M C B : RattleType) (w : wire.Ghosts W.Denot) (m : clock.Ghosts M.Denot) (h : challenges.Ghosts C.Denot)
      → IsSend W → IsSend M → IsSend C → IsSend B
      → IsSync (seat.the_row W M C B J P O S w m h n p o s)
  seat_sync W M C B w m h of_w of_m of_c of_b = search (place_send, sendable, crosses) parts 8 depth 40 fits 50000

  -- the closure of a seat's thread, by the name of its type: it has the seat, the handle of the system and the service
  pub lent_send : (name : Sym) (a b c d : NamedLft) (V G W M C B R : RattleType) (v : watch.Ghosts V.Denot)
      (w : wire.Ghosts W.Denot) (m : clock.Ghosts M.Denot) (h : challenges.Ghosts C.Denot) → IsSync V → IsSync G → IsSend W →
      IsSend M → IsSend C → IsSend B → IsSync R
      → IsSend (TupleAt name (ShrRef a.mir a.lft (seat.the_row W M C B J P O S w m h n p o s) ∷ ShrRef b.mir b.lft R
      ∷ ShrRef c.mir c.lft (watched.the_row d V G J P O S v n p o s) ∷ []))
  lent_send name a b c d V G W M C B R v w m h of_v of_g of_w of_m of_c of_b of_r =
      let taken : RattleType = seat.the_row W M C B J P O S w m h n p o s in
      let service : RattleType = watched.the_row d V G J P O S v n p o s in
      declared_send (type_at name (ShrRef a.mir a.lft taken ∷ ShrRef b.mir b.lft R ∷ ShrRef c.mir c.lft service ∷ [])) (
        shr_send a.mir a.lft taken (seat_sync W M C B w m h of_w of_m of_c of_b),
        (shr_send b.mir b.lft R of_r, (shr_send c.mir c.lft service (watched_sync d V G v of_v of_g), tt)),
      )
