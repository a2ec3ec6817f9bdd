-- Which datagrams need a number for their leg.
use Rattle.std.proofs.Common.{◌≡◌, ◌⊎◌, ℕ, Bool, true, false, List, Option, None, Some, Result, Ok, Err, inl, inr, refl, subst}
use Rattle.std.proofs.Common.{arith, if◌then◌else◌}
use Rattle.std.specs.Prelude.{◌==◌, ◌&&◌, option_map, IfErr}
use Rattle.std.proofs.lemmas.Bool.Decides.{nat_tests}
use Rattle.call_control.specs.declared.reply.Reply.TheVariants as replies
use Rattle.iax_frames.specs.FullFrame.{FullFrame}
use Rattle.iax_frames.specs.declared.datagram.Datagram.{Datagram}
use Rattle.iax_frames.specs.declared.full_frame.FullHead.{FullHead}
use Rattle.iax_frames.specs.declared.datagram.Datagram.TheVariants.{Full, Mini, Video, Trunk}
use Rattle.call_signals.specs.declared.rules.PeerRules.{PeerRules}
use Rattle.call_signals.specs.declared.outcomes.StepError.{StepError}
use Rattle.call_signals.specs.declared.outcomes.StepError.TheVariants as step_errors
use Rattle.leg_machine.specs.Message.{message_of, is_numbered}
use Rattle.leg_machine.specs.Working.{frame_refused}
use Rattle.peer_lock.specs.Arrivals.{datagram_refused, mini_refused}
use Rattle.peer_lock.specs.Delivery.{Delivery, Gets, NoCall, Pongs, closed_to_calls, delivered, delivery_refused, found}
use Rattle.peer_lock.specs.Delivery.{found_refused, inval_for, is_new}
use Rattle.peer_lock.specs.Delivery.{is_poke, is_registration, pong_for, regrej_for, unknown_call}
use Rattle.peer_lock.specs.Delivery.{newcomer as newcomer_at}
use Rattle.peer_lock.specs.Legs.{NamedLeg, leg_of_remote}
use Rattle.peer_lock.specs.Makes.{IsDue}
use Rattle.peer_lock.specs.Errors.{from_step}
use Rattle.peer_lock.specs.Peer.{PeerView}
use Rattle.peer_lock.specs.Pokes.{answers_poke, is_own_pong}
use Rattle.peer_lock.specs.declared.pokes.Pokes.{Pokes}
use Rattle.peer_lock.specs.Unworked.{IsUnworked, IsWorked}
use Rattle.peer_lock.specs.declared.errors.PeerError.{PeerError}
use Rattle.peer_lock.specs.declared.errors.PeerError.TheVariants as errors
use Rattle.peer_lock.specs.declared.steps.Rejection.{Rejection}
use Rattle.peer_lock.specs.declared.steps.Step.{Step}
use Rattle.exchange_core.specs.FirstSteps.{IsOpeningDue}
use Rattle.exchange_core.specs.Newcomers.{SpellsOpening}

record IsNewcomer (frame : FullFrame) : Type 0 where
  destination : frame.head.destination ≡ 0
  first : frame.head.oseqno ≡ 0
  new : is_new (message_of frame.head) ≡ true

-- at a leg it needs none
at_leg : (refused : Option StepError) → IsDue (option_map from_step refused) errors.NeedsNumber → ⊥
at_leg None why = grind (arith, why)
at_leg (Some step_errors.RecordFull) why = grind (arith, why)
at_leg (Some step_errors.Unaddressed) why = grind (arith, why)
at_leg (Some step_errors.NewUnacknowledged) why = grind (arith, why)
at_leg (Some step_errors.Memory) why = grind (arith, why)

mini_needs_none : (leg : Option NamedLeg) → IsDue (mini_refused leg) errors.NeedsNumber → ⊥
mini_needs_none None why = grind (arith, why)
mini_needs_none (Some named) why = grind (arith, why)

-- the delivery of a frame that no leg has, by the results of these tests
abbrev unknown : (nowhere new first poked registers numbered : Bool) (head : FullHead) (comes : Delivery) → Delivery
unknown nowhere new first poked registers numbered head comes =
    if nowhere
    then (if new && first then comes else if poked then Gets (pong_for head) else if registers then Gets (regrej_for head)
    else NoCall)
    else (if numbered then Gets (inval_for head) else NoCall)

tests : (nowhere new first poked registers numbered : Bool) (head : FullHead) (comes : Delivery)
    → IsDue (delivery_refused (unknown nowhere new first poked registers numbered head comes)) errors.NeedsNumber
    → (nowhere ≡ true) × (new ≡ true) × (first ≡ true)
tests true true true poked registers numbered head comes why = (refl, refl, refl)
tests true true false true registers numbered head comes why = grind (arith, why)
tests true true false false true numbered head comes why = grind (arith, why)
tests true true false false false numbered head comes why = grind (arith, why)
tests true false first true registers numbered head comes why = grind (arith, why)
tests true false first false true numbered head comes why = grind (arith, why)
tests true false first false false numbered head comes why = grind (arith, why)
tests false new first poked registers true head comes why = grind (arith, why)
tests false new first poked registers false head comes why = grind (arith, why)

number_of : (n : ℕ) → (n == 0) ≡ true → n ≡ 0
number_of n is = grind (arith, nat_tests, is)

-- a PONG to a POKE needs none
no_pong : (own counts : Bool) (rest : Delivery)
    → IsDue (delivery_refused (if own then (if counts then Pongs else NoCall) else rest)) errors.NeedsNumber
    → IsDue (delivery_refused rest) errors.NeedsNumber
no_pong true true rest why = grind (arith, why)
no_pong true false rest why = grind (arith, why)
no_pong false counts rest why = why

newcomer : (closed : Option Rejection) (rules : PeerRules) (pokes : Pokes) (frame : FullFrame) (now : ℕ) (at : Option NamedLeg)
    → IsDue (found_refused at (delivered closed rules pokes at frame now) frame) errors.NeedsNumber → IsNewcomer frame
newcomer closed rules pokes frame now (Some named) why = absurd (at_leg (frame_refused named.leg frame) why)
newcomer closed rules pokes frame now None why =
    let other = no_pong (is_own_pong rules frame.head) (answers_poke rules pokes frame.head) (unknown_call closed rules frame now)
    why in
    let are = tests (frame.head.destination == 0) (is_new (message_of frame.head)) (frame.head.oseqno == 0)
    (rules.poke && is_poke (message_of frame.head))
    (rules.is_hardened && is_registration frame.head) (is_numbered (message_of frame.head)) frame.head
    (newcomer_at closed rules.call_tokens frame now) other in
    record { destination = number_of frame.head.destination are.0; first = number_of frame.head.oseqno are.2; new = are.1 }

module _ (credit made : ℕ) (octets : List ℕ) (peer : PeerView) (now : ℕ) where
  unworked : IsUnworked credit made octets errors.NeedsNumber → ⊥
  unworked (spare, short, (Full frame, spelled, none)) = none
  unworked (spare, short, (Mini mini, spelled, none)) = none
  unworked (spare, short, (Video video, spelled, none)) = none
  unworked (spare, short, (Trunk trunk, spelled, none)) = none

  opens : (d : Datagram) → IsWorked credit made octets d → IsDue (datagram_refused peer d now) errors.NeedsNumber
      → SpellsOpening octets
  opens (Full frame) worked why =
      let is = newcomer (closed_to_calls peer) peer.rules peer.pokes frame now (found peer.legs frame) why in
      record {
        frame = frame;
        spelled = worked.spelled;
        opening = record { sound = worked.sound; destination = is.destination; first = is.first; new = is.new };
      }
  opens (Mini mini) worked why = absurd (mini_needs_none (leg_of_remote peer.legs mini.source) why)
  opens (Video video) worked why = absurd (at_leg None why)
  opens (Trunk trunk) worked why = absurd (at_leg None why)

  of_refusal : IsUnworked credit made octets errors.NeedsNumber ⊎ ((d : Datagram) × IsWorked credit made octets d ×
      IsDue (datagram_refused peer d now) errors.NeedsNumber)
      → SpellsOpening octets
  of_refusal (inl why) = absurd (unworked why)
  of_refusal (inr why) = opens why.0 why.1 why.2

  -- a datagram that needs a number spells a NEW that opens a leg
  pub needs_opening : (result : Result Step PeerError)
      → IfErr result (λ e. IsUnworked credit made octets e ⊎ ((d : Datagram) × IsWorked credit made octets d ×
      IsDue (datagram_refused peer d now) e))
      → IfErr result (λ e. e ≡ errors.NeedsNumber → SpellsOpening octets)
  needs_opening (Ok step) there = there
  needs_opening (Err e) there =
      λ same. of_refusal (subst (λ (x : PeerError). IsUnworked credit made octets x ⊎
      ((d : Datagram) × IsWorked credit made octets d × IsDue (datagram_refused peer d now) x)) same there)

-- an answer for which an opening is due comes of a datagram that needs a number
pub due_opening : (octets : List ℕ) (e : PeerError) → (e ≡ errors.NeedsNumber → SpellsOpening octets)
    → IsOpeningDue (replies.Datagram (Err e)) → SpellsOpening octets
due_opening octets e spells due = grind (arith, spells, due)
