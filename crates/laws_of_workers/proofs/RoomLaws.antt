-- The steps that follow a datagram put no more at each peer than the datagram weighs.
use Rattle.std.proofs.Common.{◌≡◌, ◌≤◌, ℕ, ◌+◌, ◌==◌, ◌&&◌, ◌⊎◌, Bool, true, false, cond, List, [], ◌∷◌, ◌++◌, Option}
use Rattle.std.proofs.Common.{None, Some, Ok, Err, length, refl, sym, ap, subst, ◌∙◌, inl, inr}
use Rattle.std.proofs.Common.{append-nil, arith}
use Rattle.std.proofs.lemmas.Bool.{cases_Bool}
use Rattle.std.proofs.lemmas.List.{append_cancel_left}
use Rattle.call_book.specs.declared.errors.ReserveError.TheVariants as reserve_errors
use Rattle.call_book.specs.declared.leg_name.LegName.{LegName}
use Rattle.call_signals.specs.Codes.{FRAME_IAX, IAX_VNAK}
use Rattle.call_signals.specs.Message.{is_vnak, message_of}
use Rattle.laws_of_calls.specs.DatagramsLeft.{OpensFew, brought_by, datagrams_left, is_first, need_puts}
use Rattle.laws_of_calls.specs.DatagramsLeft.{signals_put, step_puts, touched_puts}
use Rattle.call_control.specs.Work.{Work, after_told, at, next_of, nothing_left, of_datagram}
use Rattle.call_control.specs.WorkState.{WorkState, begun, offer_in}
use Rattle.call_control.specs.declared.need.Need.{Need}
use Rattle.call_control.specs.declared.need.Need.TheVariants as needs
use Rattle.call_control.specs.declared.place.Place.TheVariants as places
use Rattle.call_control.specs.declared.reply.Reply.{Reply}
use Rattle.call_control.specs.declared.reply.Reply.TheVariants as replies
use Rattle.exchange_core.specs.Traces.{Call, IsHeard, IsMade, IsTrace, IsUnasked, told}
use Rattle.iax_frames.specs.Datagram.{Spells}
use Rattle.iax_frames.specs.FullFrame.{FullFrame, SpellsFull}
use Rattle.iax_frames.specs.MiniFrame.{MiniFrame}
use Rattle.iax_frames.specs.TrunkFrame.{TrunkFrame}
use Rattle.iax_frames.specs.VideoFrame.{VideoFrame}
use Rattle.iax_frames.specs.declared.datagram.Datagram.{Datagram}
use Rattle.iax_frames.specs.declared.datagram.Datagram.TheVariants.{Full, Mini, Video, Trunk}
use Rattle.laws_of_peers.specs.Followed.{AreSound, Follow, loads_at}
use Rattle.step_log.specs.Notes.{Noted}
use Rattle.step_log.specs.declared.made.Made.{Made}
use Rattle.step_log.specs.declared.made.Made.TheVariants as mades
use Rattle.peer_lock.specs.Arrivals.{datagram_step}
use Rattle.peer_lock.specs.HandedUp.{HandedUp}
use Rattle.laws_of_peers.specs.Loads.{datagram_load, no_load}
use Rattle.peer_lock.specs.Openings.{opens_in}
use Rattle.peer_lock.specs.Peer.{PeerView}
use Rattle.peer_lock.specs.SoundPeer.{IsSoundPeer}
use Rattle.peer_lock.specs.declared.errors.PeerError.TheVariants as peer_errors
use Rattle.peer_lock.specs.declared.steps.Step.{Step}
use Rattle.peer_plan.specs.Plan.{PlanView}
use Rattle.peer_plan.specs.declared.endpoint.Endpoint.{Endpoint}
use Rattle.udp_workers.specs.Intake.{DatagramWeight, IsWeightOf, weight_of}
use Rattle.laws_of_workers.proofs.VnakFrames.{vnak_is}
use Rattle.laws_of_workers.proofs.StepRoom.{at_most, is_begun, next_later, made_few}

-- ---- the steps of a call

-- a NEW that opens a leg is a full frame
spelled_full : (call : Call) (handed : Option HandedUp) (need : Need) (reply : Reply) (step : Made) (name : LegName)
    → IsMade call (offer_in handed) need reply step → need ≡ needs.OpenIn name
    → (frame : FullFrame) × SpellsFull call.octets frame
spelled_full call handed need reply (mades.OpenIn peer other head payload now challenge answer onwards) name is opens =
    (record { head = head; payload = payload }, is.3)
spelled_full call handed need reply (mades.Datagram peer octets now answer onwards) name is opens = let same = is.0 in cc
spelled_full call handed need reply (mades.RejectNew peer head payload answer) name is opens = let same = is.0 in cc
spelled_full call handed need reply (mades.OpenOut peer other called caller format now answer) name is opens = let same = is.0 in
    cc
spelled_full call handed need reply (mades.Order peer other kind media now answer) name is opens = let same = is.1 in cc
spelled_full call handed need reply (mades.Tick peer now answer) name is opens = let same = is.0 in cc
spelled_full call handed need reply (mades.Look peer number answer) name is opens = let same = is.0 in cc
spelled_full call handed need reply (mades.Retire peer other leg) name is opens = let same = is.0 in cc
spelled_full call handed need reply (mades.Reserve peer answer) name is opens = let same = is.0 in cc
spelled_full call handed need reply (mades.Bridge one other answer) name is opens = let same = is.0 in cc
spelled_full call handed need reply (mades.Partner other answer) name is opens = let same = is.0 in cc
spelled_full call handed need reply (mades.Release other answer) name is opens = let same = is.0 in cc
spelled_full call handed need reply mades.Unasked name is opens =
    absurd (subst (λ (n : Need). IsUnasked call (offer_in handed) n reply) opens is)
spelled_full call handed need reply step name is opens = absurd is

-- so is one that is rejected
spelled_rejected : (call : Call) (handed : Option HandedUp) (need : Need) (reply : Reply) (step : Made) (at_peer : ℕ)
    → IsMade call (offer_in handed) need reply step → need ≡ needs.RejectNew at_peer
    → (frame : FullFrame) × SpellsFull call.octets frame
spelled_rejected call handed need reply (mades.RejectNew peer head payload answer) at_peer is rejects =
    (record { head = head; payload = payload }, is.2)
spelled_rejected call handed need reply (mades.OpenIn peer other head payload now challenge answer onwards) at_peer is rejects =
    let same = is.0 in cc
spelled_rejected call handed need reply (mades.Datagram peer octets now answer onwards) at_peer is rejects = let same = is.0 in cc
spelled_rejected call handed need reply (mades.OpenOut peer other called caller format now answer) at_peer is rejects = let same =
    is.0 in cc
spelled_rejected call handed need reply (mades.Order peer other kind media now answer) at_peer is rejects = let same = is.1 in cc
spelled_rejected call handed need reply (mades.Tick peer now answer) at_peer is rejects = let same = is.0 in cc
spelled_rejected call handed need reply (mades.Look peer number answer) at_peer is rejects = let same = is.0 in cc
spelled_rejected call handed need reply (mades.Retire peer other leg) at_peer is rejects = let same = is.0 in cc
spelled_rejected call handed need reply (mades.Reserve peer answer) at_peer is rejects = let same = is.0 in cc
spelled_rejected call handed need reply (mades.Bridge one other answer) at_peer is rejects = let same = is.0 in cc
spelled_rejected call handed need reply (mades.Partner other answer) at_peer is rejects = let same = is.0 in cc
spelled_rejected call handed need reply (mades.Release other answer) at_peer is rejects = let same = is.0 in cc
spelled_rejected call handed need reply mades.Unasked at_peer is rejects =
    absurd (subst (λ (n : Need). IsUnasked call (offer_in handed) n reply) rejects is)
spelled_rejected call handed need reply step at_peer is rejects = absurd is

-- a full frame weighs four at least
four : (b : Bool) → 4 ≤ cond b 128 4
four true = omega arith
four false = omega arith

full_weighs : (frame : FullFrame) (octets : List ℕ) (weight : DatagramWeight) → SpellsFull octets frame → IsWeightOf octets weight
    → 4 ≤ weight.entries
full_weighs frame octets weight spelled is =
    let same : weight ≡ weight_of (Full frame) = is.spelled (Full frame) spelled in
    subst (λ (w : DatagramWeight). 4 ≤ w.entries) (sym same)
    (four (frame.head.frame_type == FRAME_IAX && frame.head.subclass == IAX_VNAK))

module _ (steps_few : (work : Work) (reply : Reply) → OpensFew reply → datagrams_left (after_told work reply) + need_puts
    (next_of work) ≤ datagrams_left work + brought_by reply)
    (first_no : (work : Work) (reply : Reply) → is_first (after_told work reply).place ≡ false)
    (opening : (peer : PeerView) (name : LegName) (frame : FullFrame) (now : ℕ) (challenge : List ℕ)
    → step_puts (opens_in peer name frame now challenge) ≤ 3) where
  begins_not : (work : Work) (need : Need) → next_of work ≡ Some need → is_first work.place ≡ false → is_begun (Some need) ≡ false
  begins_not work need next later = ap is_begun (sym next) ∙ next_later work.place later

  onward_few : (call : Call) (place : ℕ) (steps : List Made) (from to : WorkState) (old new : List PeerView)
      (follow : Follow steps old new)
      → IsTrace call from steps to → is_first from.work.place ≡ false → (loads_at place steps old new follow).datagrams
      ≤ datagrams_left from.work
  onward_few call place [] from to old new follow trace later = omega arith
  onward_few call place (step ∷ rest) from to old new follow trace later =
      let one = made_few opening call from.onwards trace.0 trace.1 step place old follow.0 follow.1 trace.3
      (begins_not from.work trace.0 trace.2 later) in
      let left = steps_few from.work trace.1 one.opens in
      let same : need_puts (next_of from.work) ≡ need_puts (Some trace.0) = ap need_puts trace.2 in
      let others = onward_few call place rest (told from trace.1) to follow.0 new follow.2 trace.4 (first_no from.work trace.1) in
      omega (arith, one.few, one.brings, left, same, others)

  opening_few : (call : Call) (place : ℕ) (weight : DatagramWeight) (name : LegName) (steps : List Made) (from to : WorkState)
      (old new : List PeerView) (follow : Follow steps old new)
      → IsTrace call from steps to → from.work ≡ at (places.OpenIn name) nothing_left → IsWeightOf call.octets weight
      → (loads_at place steps old new follow).datagrams ≤ weight.entries
  opening_few call place weight name [] from to old new follow trace here weighs = omega arith
  opening_few call place weight name (step ∷ rest) from to old new follow trace here weighs =
      let all = onward_few call place (step ∷ rest) from to old new follow trace (ap (λ (w : Work). is_first w.place) here) in
      let left : datagrams_left from.work ≡ 4 = ap datagrams_left here in
      let next : Some trace.0 ≡ Some (needs.OpenIn name) = sym trace.2 ∙ ap next_of here in
      let opens : trace.0 ≡ needs.OpenIn name = cc in
      let full = spelled_full call from.onwards trace.0 trace.1 step name trace.3 opens in
      omega (arith, all, left, full_weighs full.0 call.octets weight full.1 weighs)

  rejecting_few : (call : Call) (place : ℕ) (weight : DatagramWeight) (peer : ℕ) (steps : List Made) (from to : WorkState)
      (old new : List PeerView) (follow : Follow steps old new)
      → IsTrace call from steps to → from.work ≡ at (places.RejectNew peer) nothing_left → IsWeightOf call.octets weight
      → (loads_at place steps old new follow).datagrams ≤ weight.entries
  rejecting_few call place weight peer [] from to old new follow trace here weighs = omega arith
  rejecting_few call place weight peer (step ∷ rest) from to old new follow trace here weighs =
      let all = onward_few call place (step ∷ rest) from to old new follow trace (ap (λ (w : Work). is_first w.place) here) in
      let left : datagrams_left from.work ≡ 1 = ap datagrams_left here in
      let next : Some trace.0 ≡ Some (needs.RejectNew peer) = sym trace.2 ∙ ap next_of here in
      let rejects : trace.0 ≡ needs.RejectNew peer = cc in
      let full = spelled_rejected call from.onwards trace.0 trace.1 step peer trace.3 rejects in
      omega (arith, all, left, full_weighs full.0 call.octets weight full.1 weighs)

  -- the peer that the book's answer names
  reserved : (peer : ℕ) (reply : Reply)
      → (datagrams_left (after_told (at (places.ReserveIn peer) nothing_left) reply) ≤ 0)
      ⊎ (((name : LegName) × (after_told (at (places.ReserveIn peer) nothing_left) reply ≡ at (places.OpenIn name) nothing_left))
      ⊎ (after_told (at (places.ReserveIn peer) nothing_left) reply ≡ at (places.RejectNew peer) nothing_left))
  reserved peer (replies.Reserve (Ok name)) = inr (inl (name, refl))
  reserved peer (replies.Reserve (Err reserve_errors.NoNumber)) = inr (inr refl)
  reserved peer reply = inl (omega arith)

  reserving_few : (call : Call) (place : ℕ) (weight : DatagramWeight) (peer : ℕ) (steps : List Made) (from to : WorkState)
      (old new : List PeerView) (follow : Follow steps old new)
      → IsTrace call from steps to → from.work ≡ at (places.ReserveIn peer) nothing_left → IsWeightOf call.octets weight
      → (loads_at place steps old new follow).datagrams ≤ weight.entries
  reserving_few call place weight peer [] from to old new follow trace here weighs = omega arith
  reserving_few call place weight peer (step ∷ rest) from to old new follow trace here weighs =
      let later : is_first from.work.place ≡ false = ap (λ (w : Work). is_first w.place) here in
      let one = made_few opening call from.onwards trace.0 trace.1 step place old follow.0 follow.1 trace.3
      (begins_not from.work trace.0 trace.2 later) in
      let none : need_puts (Some trace.0) ≡ 0 = ap need_puts (sym trace.2 ∙ ap next_of here) in
      let then_is : after_told from.work trace.1 ≡ after_told (at (places.ReserveIn peer) nothing_left) trace.1 =
      ap (λ (w : Work). after_told w trace.1) here in
      elim (reserved peer trace.1) [
        | inl ended ↦
            let others = onward_few call place rest (told from trace.1) to follow.0 new follow.2 trace.4
            (first_no from.work trace.1) in
            omega (arith, one.few, none, others, ended, ap datagrams_left then_is)
        | inr (inl opens) ↦
            let others = opening_few call place weight opens.0 rest (told from trace.1) to follow.0 new follow.2 trace.4
            (then_is ∙ opens.1) weighs in
            omega (arith, one.few, none, others)
        | inr (inr rejects) ↦
            let others = rejecting_few call place weight peer rest (told from trace.1) to follow.0 new follow.2 trace.4
            (then_is ∙ rejects) weighs in
            omega (arith, one.few, none, others)
      ]

-- ---- a datagram

module _ (answers : (peer : PeerView) (frame : FullFrame) (now : ℕ) → is_vnak (message_of frame.head) ≡ false
    → (datagram_load peer (Full frame) now).datagrams ≤ 1)
    (vnak_answers : (peer : PeerView) (frame : FullFrame) (now : ℕ) → IsSoundPeer peer
    → (datagram_load peer (Full frame) now).datagrams ≤ 127)
    (full : (first : ℕ) (peer : PeerView) (frame : FullFrame) (now : ℕ) → step_puts (datagram_step first peer (Full frame) now)
    ≤ 3)
    (vnaks : (first : ℕ) (peer : PeerView) (frame : FullFrame) (now : ℕ) → is_vnak (message_of frame.head) ≡ true
    → step_puts (datagram_step first peer (Full frame) now) ≤ 1)
    (mini : (first : ℕ) (peer : PeerView) (frame : MiniFrame) (now : ℕ) → step_puts (datagram_step first peer (Mini frame) now)
    ≤ 1)
    (video : (first : ℕ) (peer : PeerView) (frame : VideoFrame) (now : ℕ) → step_puts (datagram_step first peer (Video frame) now)
    ≤ 0)
    (trunk : (first : ℕ) (peer : PeerView) (frame : TrunkFrame) (now : ℕ) → step_puts (datagram_step first peer (Trunk frame) now)
    ≤ length frame.entries) where
  -- its replies, and the datagrams that it causes
  pub arrival_few : (first : ℕ) (peer : PeerView) (d : Datagram) (now : ℕ) → IsSoundPeer peer
      → (datagram_load peer d now).datagrams + step_puts (datagram_step first peer d now) ≤ (weight_of d).entries
  arrival_few first peer (Full frame) now sound = elim (cases_Bool (is_vnak (message_of frame.head))) [
    | inl is ↦ rw (vnak_is frame.head is) (omega (arith, vnak_answers peer frame now sound, vnaks first peer frame now is))
    | inr other ↦
        omega (
          arith,
          answers peer frame now other,
          full first peer frame now,
          four (frame.head.frame_type == FRAME_IAX && frame.head.subclass == IAX_VNAK),
        )
  ]
  arrival_few first peer (Mini frame) now sound = omega (arith, mini first peer frame now)
  arrival_few first peer (Video frame) now sound = omega (arith, video first peer frame now)
  arrival_few first peer (Trunk frame) now sound = omega (arith, trunk first peer frame now)

-- ---- a received datagram

-- nothing was noted
pub none_noted : (first steps : List Made) → first ≡ first ++ steps → steps ≡ []
none_noted first steps is = sym (append_cancel_left first [] steps (append-nil first ∙ is))

pub none_few : (steps : List Made) (place n : ℕ) (old new : List PeerView) (follow : Follow steps old new) → steps ≡ []
    → (loads_at place steps old new follow).datagrams ≤ n
none_few [] place n old new follow none = omega arith
none_few (step ∷ rest) place n old new follow none = cc

module _ (steps_few : (work : Work) (reply : Reply) → OpensFew reply → datagrams_left (after_told work reply) + need_puts
    (next_of work) ≤ datagrams_left work + brought_by reply)
    (first_no : (work : Work) (reply : Reply) → is_first (after_told work reply).place ≡ false)
    (opening : (peer : PeerView) (name : LegName) (frame : FullFrame) (now : ℕ) (challenge : List ℕ)
    → step_puts (opens_in peer name frame now challenge) ≤ 3)
    (arrival : (first : ℕ) (peer : PeerView) (d : Datagram) (now : ℕ) → IsSoundPeer peer
    → (datagram_load peer d now).datagrams + step_puts (datagram_step first peer d now) ≤ (weight_of d).entries) where
  -- the need of the first step
  first_is : (peer : ℕ) (need other : Need) → Some (needs.Datagram peer) ≡ Some need → need ≡ other → needs.Datagram peer ≡ other
  first_is peer need other next is = let same : needs.Datagram peer ≡ need = cc in same ∙ is

  -- the steps after a datagram that was refused, not for want of a number
  refused_few : (call : Call) (place peer : ℕ) (reply : Reply) (rest : List Made) (to : WorkState) (mid new : List PeerView)
      (follow : Follow rest mid new)
      → IsTrace call (told (begun (of_datagram peer)) reply) rest to → OpensFew reply → brought_by reply ≡ 0
      → (loads_at place rest mid new follow).datagrams ≤ 0
  refused_few call place peer reply rest to mid new follow trace opens brings =
      let others = onward_few steps_few first_no opening call place rest (told (begun (of_datagram peer)) reply) to mid new follow
      trace (first_no (of_datagram peer) reply) in
      omega (arith, others, steps_few (of_datagram peer) reply opens, brings)

  call_few : (call : Call) (peer place : ℕ) (weight : DatagramWeight) (steps : List Made) (to : WorkState) (old new : List
      PeerView)
      (follow : Follow steps old new)
      → IsTrace call (begun (of_datagram peer)) steps to → IsWeightOf call.octets weight → AreSound old
      → (loads_at place steps old new follow).datagrams ≤ weight.entries
  call_few call peer place weight [] to old new follow trace weighs sound = omega arith
  call_few call peer place weight (mades.Datagram p octets now (Ok step) onwards ∷ rest) to old new follow trace weighs sound =
      let leads = follow.1 in
      let reply_is = trace.3.1 in
      let opens : OpensFew trace.1 = subst OpensFew (sym reply_is) tt in
      let others = onward_few steps_few first_no opening call place rest (told (begun (of_datagram peer)) trace.1) to follow.0 new
      follow.2 trace.4 (first_no (of_datagram peer) trace.1) in
      let left = steps_few (of_datagram peer) trace.1 opens in
      let brings : brought_by trace.1 ≡ signals_put onwards.signals + touched_puts step.touched = ap brought_by reply_is in
      let load = datagram_load leads.before leads.leads.datagram now in
      let here = at_most place p load load.datagrams (omega arith) in
      let few = arrival leads.leads.first leads.before leads.leads.datagram now (sound p leads.before leads.was) in
      let weight_is = ap (λ (w : DatagramWeight). w.entries)
      (weighs.spelled leads.leads.datagram (subst (λ (o : List ℕ). Spells o leads.leads.datagram) trace.3.2
      leads.leads.spelled)) in
      omega (
        arith,
        others,
        left,
        brings,
        here,
        few,
        weight_is,
        ap signals_put leads.leads.signals,
        ap (λ (s : Step). touched_puts s.touched) leads.leads.answers,
      )
  call_few call peer place weight (mades.Datagram p octets now (Err peer_errors.NeedsNumber) onwards ∷ rest) to old new follow
      trace weighs sound =
      let here = at_most place p no_load 0 (omega arith) in
      let work : after_told (of_datagram peer) trace.1 ≡ at (places.ReserveIn peer) nothing_left =
      ap (λ (r : Reply). after_told (of_datagram peer) r) trace.3.1 in
      let others = reserving_few steps_few first_no opening call place weight peer rest (told (begun (of_datagram peer)) trace.1)
      to follow.0 new follow.2 trace.4 work weighs in
      omega (arith, here, others)
  call_few call peer place weight (mades.Datagram p octets now (Err error) onwards ∷ rest) to old new follow trace weighs sound =
      let here = at_most place p no_load 0 (omega arith) in
      let others = refused_few call place peer trace.1 rest to follow.0 new follow.2 trace.4 (subst OpensFew (sym trace.3.1) tt)
      (ap brought_by trace.3.1) in
      omega (arith, here, others)
  call_few call peer place weight (mades.OpenIn p name head payload now challenge answer onwards ∷ rest) to old new follow trace
      weighs sound =
      let same = first_is peer trace.0 _ trace.2 trace.3.0 in cc
  call_few call peer place weight (mades.RejectNew p head payload answer ∷ rest) to old new follow trace weighs sound =
      let same = first_is peer trace.0 _ trace.2 trace.3.0 in cc
  call_few call peer place weight (mades.OpenOut p name called caller format now answer ∷ rest) to old new follow trace weighs
      sound =
      let same = first_is peer trace.0 _ trace.2 trace.3.0 in cc
  call_few call peer place weight (mades.Order p name kind media now answer ∷ rest) to old new follow trace weighs sound =
      let same = first_is peer trace.0 _ trace.2 trace.3.1 in cc
  call_few call peer place weight (mades.Tick p now answer ∷ rest) to old new follow trace weighs sound = let same =
      first_is peer trace.0 _ trace.2 trace.3.0 in cc
  call_few call peer place weight (mades.Look p number answer ∷ rest) to old new follow trace weighs sound = let same =
      first_is peer trace.0 _ trace.2 trace.3.0 in cc
  call_few call peer place weight (mades.Retire p name leg ∷ rest) to old new follow trace weighs sound = let same =
      first_is peer trace.0 _ trace.2 trace.3.0 in cc
  call_few call peer place weight (mades.Reserve p answer ∷ rest) to old new follow trace weighs sound = let same =
      first_is peer trace.0 _ trace.2 trace.3.0 in cc
  call_few call peer place weight (mades.Bridge one other answer ∷ rest) to old new follow trace weighs sound = let same =
      first_is peer trace.0 _ trace.2 trace.3.0 in cc
  call_few call peer place weight (mades.Partner name answer ∷ rest) to old new follow trace weighs sound = let same =
      first_is peer trace.0 _ trace.2 trace.3.0 in cc
  call_few call peer place weight (mades.Release name answer ∷ rest) to old new follow trace weighs sound = let same =
      first_is peer trace.0 _ trace.2 trace.3.0 in cc
  call_few call peer place weight (mades.Unasked ∷ rest) to old new follow trace weighs sound =
      let same : needs.Datagram peer ≡ trace.0 = cc in
      absurd (subst (λ (n : Need). IsUnasked call (offer_in None) n trace.1) (sym same) trace.3)
  call_few call peer place weight (step ∷ rest) to old new follow trace weighs sound = absurd trace.3

  pub heard_few : (plan : PlanView) (from : Endpoint) (call : Call) (weight : DatagramWeight) (old new : Noted) (trail : List
      Made)
      (before after : List PeerView)
      (follow : Follow trail before after) (place : ℕ) → IsHeard plan from call old new → new.made ≡ old.made ++ trail
      → IsWeightOf call.octets weight → AreSound before
      → (loads_at place trail before after follow).datagrams ≤ weight.entries
  heard_few plan from call weight old new trail before after follow place (inl stranger) noted weighs sound =
      none_few trail place weight.entries before after follow
      (none_noted old.made trail (sym (ap (λ (n : Noted). n.made) stranger.1) ∙ noted))
  heard_few plan from call weight old new trail before after follow place (inr known) noted weighs sound =
      let all = known.2 in
      let same : all.traces.steps ≡ trail = append_cancel_left old.made all.traces.steps trail (sym all.traces.noted ∙ noted) in
      call_few call known.0 place weight trail all.to before after follow
      (subst (λ (s : List Made). IsTrace call (begun (of_datagram known.0)) s all.to) same all.traces.trace) weighs sound
