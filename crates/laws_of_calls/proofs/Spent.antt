-- A step that isn't refused because a peer's steps are spent has a choice that isn't such a refusal.
use Rattle.std.specs.Prelude.{Ok, Err}
use Rattle.std.proofs.Common.{◌≡◌, Bool, true, false, Option, Some, None, refl, sym, ◌⊎◌, inl, inr}
use Rattle.call_signals.specs.Order.{kind_of, Kind}
use Rattle.call_control.specs.Law.{is_spent as is_spent_choice}
use Rattle.call_control.specs.Scene.{Leg, Scene, Choice, Goes, RefusesDatagram, RefusesRejecting, RefusesOpening, RefusesOrder}
use Rattle.call_control.specs.Scene.{RefusesTick, Answer, answered, at_leg, leg_named}
use Rattle.call_control.specs.SeenReply.{seen_reply}
use Rattle.call_control.specs.declared.need.Need.{Need}
use Rattle.call_control.specs.declared.need.Need.TheVariants as needs
use Rattle.call_control.specs.declared.reply.Reply.{Reply}
use Rattle.call_control.specs.declared.reply.Reply.TheVariants as replies
use Rattle.peer_lock.specs.declared.errors.OpenError.TheVariants as open_errors
use Rattle.peer_lock.specs.declared.errors.OrderError.TheVariants as order_errors
use Rattle.peer_lock.specs.declared.errors.PeerError.TheVariants as peer_errors
use Rattle.peer_lock.specs.declared.errors.RejectError.TheVariants as reject_errors
use Rattle.laws_of_calls.specs.Spent.{is_spent}

-- a refusal that belongs to another step has no effect
abbrev PlaysNoPart : Scene → Need → Bool → Choice → Type 0
PlaysNoPart scene need called choice =
    (is_spent (answered scene need called choice).reply ≡ true)
    ⊎ (answered scene need called choice ≡ answered scene need called Goes)

at_datagram : (scene : Scene) (kind : Kind) (o : Option Leg)
    → at_leg scene kind o (RefusesDatagram peer_errors.StepsSpent) ≡ at_leg scene kind o Goes
at_datagram scene kind None = refl
at_datagram scene kind (Some leg) = refl

at_rejecting : (scene : Scene) (kind : Kind) (o : Option Leg)
    → at_leg scene kind o (RefusesRejecting reject_errors.StepsSpent) ≡ at_leg scene kind o Goes
at_rejecting scene kind None = refl
at_rejecting scene kind (Some leg) = refl

at_opening : (scene : Scene) (kind : Kind) (o : Option Leg)
    → at_leg scene kind o (RefusesOpening open_errors.StepsSpent) ≡ at_leg scene kind o Goes
at_opening scene kind None = refl
at_opening scene kind (Some leg) = refl

at_tick : (scene : Scene) (kind : Kind) (o : Option Leg) → at_leg scene kind o RefusesTick ≡ at_leg scene kind o Goes
at_tick scene kind None = refl
at_tick scene kind (Some leg) = refl

of_datagram : (scene : Scene) (need : Need) (called : Bool)
    → PlaysNoPart scene need called (RefusesDatagram peer_errors.StepsSpent)
of_datagram scene (needs.Datagram peer) called = inl refl
of_datagram scene (needs.Order name command) called = inr (at_datagram scene (kind_of command) (leg_named scene.legs name))
of_datagram scene need called = inr refl

of_rejecting : (scene : Scene) (need : Need) (called : Bool)
    → PlaysNoPart scene need called (RefusesRejecting reject_errors.StepsSpent)
of_rejecting scene (needs.RejectNew peer) called = inl refl
of_rejecting scene (needs.Order name command) called = inr (at_rejecting scene (kind_of command) (leg_named scene.legs name))
of_rejecting scene need called = inr refl

of_opening : (scene : Scene) (need : Need) (called : Bool) → PlaysNoPart scene need called (RefusesOpening open_errors.StepsSpent)
of_opening scene (needs.OpenIn name) called = inl refl
of_opening scene (needs.OpenOut name) called = inl refl
of_opening scene (needs.Order name command) called = inr (at_opening scene (kind_of command) (leg_named scene.legs name))
of_opening scene need called = inr refl

of_order : (scene : Scene) (need : Need) (called : Bool) → PlaysNoPart scene need called (RefusesOrder order_errors.StepsSpent)
of_order scene (needs.Order name command) called = inl refl
of_order scene need called = inr refl

of_tick : (scene : Scene) (need : Need) (called : Bool) → PlaysNoPart scene need called RefusesTick
of_tick scene (needs.Tick peer) called = inl refl
of_tick scene (needs.Order name command) called = inr (at_tick scene (kind_of command) (leg_named scene.legs name))
of_tick scene need called = inr refl

plays : (scene : Scene) (need : Need) (called : Bool) (choice : Choice) → is_spent_choice choice ≡ true
    → PlaysNoPart scene need called choice
plays scene need called (RefusesDatagram peer_errors.StepsSpent) e = of_datagram scene need called
plays scene need called (RefusesRejecting reject_errors.StepsSpent) e = of_rejecting scene need called
plays scene need called (RefusesOpening open_errors.StepsSpent) e = of_opening scene need called
plays scene need called (RefusesOrder order_errors.StepsSpent) e = of_order scene need called
plays scene need called RefusesTick e = of_tick scene need called
plays scene need called choice e = absurd (cc)

-- the unseen part of an answer doesn't change that
pub spent_seen : (reply : Reply) → is_spent (seen_reply reply) ≡ is_spent reply
spent_seen (replies.Datagram (Ok step)) = refl
spent_seen (replies.Datagram (Err error)) = refl
spent_seen (replies.OpenIn (Ok step)) = refl
spent_seen (replies.OpenIn (Err error)) = refl
spent_seen (replies.Look None) = refl
spent_seen (replies.Look (Some status)) = refl
spent_seen reply = refl

-- the same step, by a choice that is such a refusal only if the answer is
pub record IsPlain (scene : Scene) (need : Need) (called : Bool) (left : Answer) : Type 0 where
  pub choice : Choice
  pub same : answered scene need called choice ≡ left
  pub within : is_spent left.reply ≡ false → is_spent_choice choice ≡ false

pub plain : (scene : Scene) (need : Need) (called : Bool) (choice : Choice)
    → IsPlain scene need called (answered scene need called choice)
plain scene need called choice = go (is_spent_choice choice) refl
  where
    go : (b : Bool) → is_spent_choice choice ≡ b → IsPlain scene need called (answered scene need called choice)
    go false e = record { choice = choice; same = refl; within = λ unspent. e }
    go true e = elim (plays scene need called choice e) [
      | inl spent ↦ record { choice = choice; same = refl; within = λ unspent. absurd (cc) }
      | inr same ↦ record { choice = Goes; same = sym same; within = λ unspent. refl }
    ]
