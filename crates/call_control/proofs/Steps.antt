-- The step of each request: the ways in which it can end, and the changes that it makes.
use Rattle.call_control.specs.declared.need.Need.TheVariants as needs
use Rattle.call_control.specs.declared.reply.Reply.TheVariants as replies
use Rattle.call_signals.specs.declared.stage.Stage.TheVariants as stages
use Rattle.peer_lock.specs.declared.errors.OpenError.TheVariants as open_errors
use Rattle.peer_lock.specs.declared.errors.OrderError.TheVariants as order_errors
use Rattle.call_control.specs.Scene.{opens_in}
use Rattle.call_signals.specs.declared.openings.Opening.TheVariants.{Offers}
use Rattle.peer_lock.specs.declared.errors.OpenError.{OpenError}
use Rattle.peer_lock.specs.declared.errors.PeerError.{PeerError}
use Rattle.call_control.proofs.Prelude.{◌≡◌, Some, None, Bool, true, false, refl, ℕ, ◌≤◌, List, [], ◌∷◌, ap, arith, inl, inr}
use Rattle.call_control.proofs.Prelude.{Option, sym, subst, cond_both, cases_Bool, Ok, Err, Result, is_same, has_name}
use Rattle.call_control.proofs.Prelude.{reserve_answer, bridge_answer, IsBook, BridgeError, ReserveError, LegName, kind_of}
use Rattle.call_control.proofs.Prelude.{times, names_of, Leg, Scene, Choice, RefusesDatagram, RefusesOpening, RefusesOrder}
use Rattle.call_control.proofs.Prelude.{RefusesTick, KeepsLeg, Brings, HasMedia, Lapses, Opens, leg_at, leg_named, Answer, answer}
use Rattle.call_control.proofs.Prelude.{brings, all_media, at_datagram, all_lapsed, at_tick, dropped, opened, at_open_in}
use Rattle.call_control.proofs.Prelude.{opens_out, at_open_out, refused, obeys, at_leg, at_order, is_done, retires, keeps}
use Rattle.call_control.proofs.Prelude.{at_retire, reserves, bridges, releases, at_release, answered, heard, Rest, next_at}
use Rattle.call_control.proofs.Prelude.{told_at, in_hand, Need, Place, Reply, Opening, Kind, MediaSpan, Stage, SeenFrame}
use Rattle.call_control.proofs.Prelude.{opening_effect, stage_after, Lapse, OrderError, IsReserved, reserved, IsBridged}
use Rattle.call_control.proofs.Prelude.{bridged_by, release_keeps, lost, is_same_itself, same_name, bit, has_name_is}
use Rattle.call_control.proofs.Held.{IsHeld, some_bit, bit_most, names_replaced, names_lapsed, found_named, leased_own}
use Rattle.call_control.proofs.Held.{dropped_own, without_times}
use Rattle.call_control.proofs.Onward.{onward_hand}

-- ---- the ways in which a step can end: what holds for each of them holds for the step

module _ (P : Answer → Type 0) (s : Scene) where
  pub order_ways : (name : LegName) (kind : Kind) (choice : Choice) → ((error : OrderError) → P (refused s error))
      → ((leg : Leg) (stage : Stage) → leg_named s.legs name ≡ Some leg → stage_after kind leg.seen.stage ≡ Some stage
      → P (obeys s kind leg (Some stage))) → P (at_order s name kind choice)
  order_ways name kind choice refused_so obeyed = go choice
    where
      obeys_so : (leg : Leg) (o : Option Stage) → leg_named s.legs name ≡ Some leg → stage_after kind leg.seen.stage ≡ o
          → P (obeys s kind leg o)
      obeys_so leg None found is = refused_so order_errors.WrongStage
      obeys_so leg (Some stage) found is = obeyed leg stage found is

      at_leg_so : (o : Option Leg) (choice : Choice) → leg_named s.legs name ≡ o → P (at_leg s kind o choice)
      at_leg_so None choice found = refused_so order_errors.Gone
      at_leg_so (Some leg) (RefusesOrder error) found = cond_both _ _ _ P (λ _. refused_so error) (λ _. obeys_so leg _ found refl)
      at_leg_so (Some leg) choice found = obeys_so leg _ found refl

      go : (choice : Choice) → P (at_order s name kind choice)
      go (RefusesOrder order_errors.StepsSpent) = refused_so order_errors.StepsSpent
      go choice = at_leg_so (leg_named s.legs name) choice refl

  pub open_in_ways : (name : LegName) (choice : Choice) → ((error : OpenError) → P (answer s (replies.OpenIn (Err error))))
      → ((opening : Opening) → P (opens_in s name opening)) → P (at_open_in s name choice)
  open_in_ways name (RefusesOpening error) refused_so opened_so = refused_so error
  open_in_ways name (Opens opening) refused_so opened_so = cond_both _ _ _ P (λ _. opened_so opening)
      (λ _. refused_so open_errors.NumberBusy)
  open_in_ways name choice refused_so opened_so = cond_both _ _ _ P (λ _. opened_so Offers)
      (λ _. refused_so open_errors.NumberBusy)

  pub open_out_ways : (name : LegName) (called : Bool) (choice : Choice)
      → ((error : OpenError) → P (answer s (replies.OpenOut (Err error)))) → P (opens_out s name called)
      → P (at_open_out s name called choice)
  open_out_ways name called (RefusesOpening error) refused_so opened_so = refused_so error
  open_out_ways name called choice refused_so opened_so = cond_both _ _ _ P (λ _. opened_so)
      (λ _. refused_so open_errors.NumberBusy)

  pub retire_ways : (name : LegName) (choice : Choice) → P (keeps s)
      → (is_done (leg_named s.legs name) ≡ true → P (retires s name)) → P (at_retire s name choice)
  retire_ways name KeepsLeg kept retired = kept
  retire_ways name choice kept retired = cond_both _ _ _ P retired (λ _. kept)

  pub datagram_ways : (peer : ℕ) (choice : Choice) → ((error : PeerError) → P (answer s (replies.Datagram (Err error))))
      → ((media : List (ℕ × MediaSpan)) → P (answer s (replies.Datagram (Ok (heard None (all_media s.legs peer media))))))
      → ((leg : Leg) (number : ℕ) (frame : SeenFrame) → leg_at s.legs peer number ≡ Some leg → P (brings s (Some leg) frame))
      → P (at_datagram s peer choice)
  datagram_ways peer (RefusesDatagram error) refused_so media_so brought_so = refused_so error
  datagram_ways peer (HasMedia media) refused_so media_so brought_so = media_so media
  datagram_ways peer (Brings number frame) refused_so media_so brought_so = go (leg_at s.legs peer number) refl
    where
      go : (o : Option Leg) → leg_at s.legs peer number ≡ o → P (brings s o frame)
      go None is = media_so []
      go (Some leg) is = brought_so leg number frame is
  datagram_ways peer choice refused_so media_so brought_so = media_so []

  pub tick_ways : (peer : ℕ) (choice : Choice) → P (answer s (replies.Tick (Err (record {}))))
      → P (answer s (replies.Tick (Ok false))) → ((lapses : List (ℕ × Lapse)) (quiet : Bool)
      → P (answer (record s { legs = all_lapsed peer lapses s.legs }) (replies.Tick (Ok quiet)))) → P (at_tick s peer choice)
  tick_ways peer RefusesTick refused_so none lapsed_so = refused_so
  tick_ways peer (Lapses lapses quiet) refused_so none lapsed_so = lapsed_so lapses quiet
  tick_ways peer choice refused_so none lapsed_so = none

-- the book has the name of the caller's lease
pub release_made : (s : Scene) (name : LegName) → s.leases ≡ name ∷ [] → has_name s.book name ≡ true
    → at_release s name ≡ releases s name
release_made s name own known = rw (own, leased_own name, known) refl

-- ---- changes of the book, the legs and the caller's leases

-- the leases of a caller that needs this step
abbrev pub hand_for : Option Need → List LegName → List LegName
hand_for (Some (needs.OpenIn name)) leases = name ∷ []
hand_for (Some (needs.OpenOut name)) leases = name ∷ []
hand_for (Some (needs.Release name)) leases = name ∷ []
hand_for (Some (needs.Reserve peer)) leases = []
hand_for (Some (needs.Retire name)) leases = []
hand_for need leases = leases

-- .. and once it has this answer
abbrev pub hand_after : Option Need → Reply → List LegName → List LegName
hand_after (Some (needs.Reserve peer)) (replies.Reserve (Ok name)) leases = name ∷ []
hand_after (Some (needs.Retire name)) (replies.Retire true) leases = name ∷ []
hand_after (Some (needs.OpenIn name)) (replies.OpenIn (Ok heard)) leases = []
hand_after (Some (needs.OpenOut name)) (replies.OpenOut (Ok done)) leases = []
hand_after (Some (needs.Release name)) reply leases = []
hand_after need reply leases = leases

pub needed : (place : Place) (need : Need) → next_at place ≡ Some need → in_hand place ≡ hand_for (Some need) (in_hand place)
needed place need is = grind arith

pub hand_on : (place : Place) (need : Need) (reply : Reply) (rest : Rest) → next_at place ≡ Some need
    → in_hand (told_at place reply rest).place ≡ hand_after (Some need) reply (in_hand place)
hand_on place need reply rest is = grind (arith, onward_hand)

-- ---- steps

abbrev pub moves_book : Need → Bool
moves_book (needs.Reserve peer) = true
moves_book (needs.Bridge a b) = true
moves_book (needs.Release name) = true
moves_book need = false

abbrev pub moves_names : Need → Bool
moves_names (needs.OpenIn name) = true
moves_names (needs.OpenOut name) = true
moves_names (needs.Retire name) = true
moves_names need = moves_book need

abbrev pub moves_legs : Need → Bool
moves_legs (needs.Datagram peer) = true
moves_legs (needs.OpenIn name) = true
moves_legs (needs.OpenOut name) = true
moves_legs (needs.Order name command) = true
moves_legs (needs.Tick peer) = true
moves_legs (needs.Retire name) = true
moves_legs need = false

module _ (s : Scene) where
  pub same_book : (need : Need) (called : Bool) (choice : Choice) → moves_book need ≡ false
      → (answered s need called choice).scene.book ≡ s.book
  same_book need called choice stays = grind arith

  pub same_names : (need : Need) (called : Bool) (choice : Choice) → moves_names need ≡ false
      → names_of (answered s need called choice).scene.legs ≡ names_of s.legs
  same_names need called choice stays = grind (arith, names_replaced, names_lapsed)

  pub same_legs : (need : Need) (called : Bool) (choice : Choice) → moves_legs need ≡ false
      → (answered s need called choice).scene.legs ≡ s.legs
  same_legs need called choice stays = grind arith

  pub leases_after : (need : Need) (called : Bool) (choice : Choice) → s.leases ≡ hand_for (Some need) s.leases
      → (answered s need called choice).scene.leases ≡ hand_after (Some need) (answered s need called choice).reply s.leases
  leases_after (needs.OpenIn name) called choice own = open_in_ways
      (λ a. a.scene.leases ≡ hand_after (Some (needs.OpenIn name)) a.reply s.leases) s name choice (λ error. refl)
      (λ opening. rw own (dropped_own name))
  leases_after (needs.OpenOut name) called choice own = open_out_ways
      (λ a. a.scene.leases ≡ hand_after (Some (needs.OpenOut name)) a.reply s.leases) s name called choice (λ error. refl)
      (rw own (dropped_own name))
  leases_after (needs.Order name command) called choice own =
      order_ways (λ a. a.scene.leases ≡ s.leases) s name (kind_of command) choice
      (λ error. refl) (λ leg stage found is. refl)
  leases_after (needs.Retire name) called choice own = retire_ways
      (λ a. a.scene.leases ≡ hand_after (Some (needs.Retire name)) a.reply s.leases) s name choice refl
      (λ done. ap (λ ls. name ∷ ls) own)
  leases_after (needs.Datagram peer) called choice own = grind arith
  leases_after need called choice own = grind (arith, dropped_own)

-- ---- each step leaves the names held once

module _ (others : LegName → ℕ) where
  -- the book has the name of a lease that a caller holds
  pub own_known : (s : Scene) (name : LegName) → s.leases ≡ name ∷ [] → IsHeld others s → has_name s.book name ≡ true
  own_known s name own h = some_bit (has_name s.book name) (omega (
    arith,
    h.once name,
    ap (times name) own,
    ap bit (is_same_itself name),
  ))

  module _ (s : Scene) (h : IsHeld others s) where
    reserves_held : (peer : ℕ) (r : Result LegName ReserveError) → reserve_answer s.book peer ≡ r
        → IsHeld others (reserves s peer r).scene
    reserves_held peer (Err e) is = h
    reserves_held peer (Ok name) is =
        let did : IsReserved s.book peer name = reserved s.book peer name h.sound is in
        record { sound = did.sound; once = λ x. omega (arith, h.once x, did.gained x) }

    bridges_held : (a b : LegName) (r : Result (Unit {0}) BridgeError) → bridge_answer s.book a b ≡ r
        → IsHeld others (bridges s a b r).scene
    bridges_held a b (Err e) is = h
    bridges_held a b (Ok tt) is =
        let did : IsBridged s.book a b = bridged_by s.book a b h.sound is in record { sound = did.sound; once = h.once }

    releases_held : (name : LegName) → s.leases ≡ name ∷ [] → IsHeld others (at_release s name).scene
    releases_held name own =
        let known : has_name s.book name ≡ true = own_known s name own h in
        let at_number = has_name_is s.book name known in
        subst (λ a. IsHeld others a.scene) (sym (release_made s name own known)) (record {
          sound = release_keeps s.book name h.sound at_number;
          once = λ x.
              let gone : dropped s.leases name ≡ [] = rw own (dropped_own name) in
              omega (arith, h.once x, ap (times x) gone, ap (times x) own, lost s.book name h.sound at_number x);
        })

    retires_held : (name : LegName) → s.leases ≡ [] → is_done (leg_named s.legs name) ≡ true
        → IsHeld others (retires s name).scene
    retires_held name own done = record {
      sound = h.sound;
      once = λ x.
          let less = without_times s.legs name x in
          let most : bit (has_name s.book x) ≤ 1 = bit_most (has_name s.book x) in
          elim (cases_Bool (is_same name x)) [
            | inl hit ↦
                let here : 1 ≤ times x (names_of s.legs) = subst (λ n. 1 ≤ times n (names_of s.legs)) (same_name name x hit)
                (there (leg_named s.legs name) refl done) in
                let few = rw hit at less in
                omega (arith, h.once x, ap (times x) own, ap bit hit)
            | inr miss ↦
                let few = rw miss at less in
                omega (arith, h.once x, ap (times x) own, ap bit miss)
          ];
    }
      where
        there : (o : Option Leg) → leg_named s.legs name ≡ o → is_done o ≡ true → 1 ≤ times name (names_of s.legs)
        there None is done = absurd (cc)
        there (Some leg) is done = (found_named s.legs name leg is).1

    opened_held : (name : LegName) (stage : Stage) (called : Bool) → s.leases ≡ name ∷ []
        → IsHeld others (opened s name stage called)
    opened_held name stage called own =
        let gone : dropped s.leases name ≡ [] = rw own (dropped_own name) in
        record { sound = h.sound; once = λ x. omega (arith, h.once x, ap (times x) own, ap (times x) gone) }

    pub step_held : (need : Need) (called : Bool) (choice : Choice) → s.leases ≡ hand_for (Some need) s.leases
        → IsHeld others (answered s need called choice).scene
    step_held (needs.Reserve peer) called choice own = reserves_held peer (reserve_answer s.book peer) refl
    step_held (needs.Bridge a b) called choice own = bridges_held a b (bridge_answer s.book a b) refl
    step_held (needs.Release name) called choice own = releases_held name own
    step_held (needs.Retire name) called choice own = retire_ways (λ a. IsHeld others a.scene) s name choice h
        (retires_held name own)
    step_held (needs.OpenIn name) called choice own = open_in_ways (λ a. IsHeld others a.scene) s name choice (λ error. h)
        (λ opening. opened_held name (opening_effect opening).stage false own)
    step_held (needs.OpenOut name) called choice own = open_out_ways (λ a. IsHeld others a.scene) s name called choice
        (λ error. h)
        (opened_held name stages.Waiting called own)
    step_held need called choice own =
        let book = same_book s need called choice refl in
        record {
          sound = subst IsBook (sym book) h.sound;
          once = λ x. omega (
            arith,
            h.once x,
            ap (λ b. bit (has_name b x)) book,
            ap (times x) (same_names s need called choice refl),
            ap (times x) (leases_after s need called choice own),
          );
        }
