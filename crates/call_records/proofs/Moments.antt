-- The frames of a call that its moments imply.
use Rattle.std.proofs.Common.{◌≡◌, Bool, true, false, cond, ◌||◌, List, [], ◌∷◌, ◌++◌, Option, Some, None, is_some, refl, sym, ap}
use Rattle.std.proofs.Common.{◌∙◌, subst, append_assoc, ◌⊎◌, inl, inr}
use Rattle.std.specs.Prelude.{IsSome}
use Rattle.std.specs.List.{AllByRecursion}
use Rattle.call_signals.specs.declared.message.Message.{Message}
use Rattle.call_signals.specs.declared.message.Message.TheVariants as messages
use Rattle.call_records.specs.SideFrames.{SideFrame, meaning_of}
use Rattle.call_records.specs.Courses.{accepts, answers, peer_rejection, ending_by, ending_of, moment_of, accepted_of}
use Rattle.call_records.specs.Courses.{answered_from, answered_of, end_by, end_or, end_from}
use Rattle.call_records.specs.CourseFacts.{GoesOn, Placed, HasFrame, HasEnding, HasAccept, HasAnswer, HasAcceptAndAnswer}
use Rattle.call_records.specs.CourseFacts.{HasNoHangup, IsHangup}
use Rattle.call_records.specs.declared.side.Side.{Side}
use Rattle.call_records.specs.declared.side.Side.TheVariants.{Peer, Exchange}
use Rattle.call_records.specs.declared.leg_moment.LegMoment.{LegMoment}
use Rattle.call_records.specs.declared.call_end.Ending.{Ending}
use Rattle.call_records.specs.declared.call_end.CallEnd.{CallEnd}

-- a frame at the front of others, and one behind it
abbrev at_front : (f : SideFrame) (frames : List SideFrame) → Placed (f ∷ frames)
at_front f frames = record { before = []; frame = f; later = frames; all = refl }

abbrev behind : (f : SideFrame) {frames : List SideFrame} → Placed frames → Placed (f ∷ frames)
behind f p = record { before = f ∷ p.before; frame = p.frame; later = p.later; all = ap (λ fs. f ∷ fs) p.all }

-- ---- the first frame of a kind, if none ends the call before

not_some : (moment : Option LegMoment) → moment ≡ None → IsSome moment → ⊥
not_some None none h = cc
not_some (Some moment) none h = cc

some_if : (b : Bool) (moment : LegMoment) (later : Option LegMoment) → IsSome later → IsSome (cond b (Some moment) later)
some_if true moment later h = refl
some_if false moment later h = h

module _ (opener : Option Side) (accepted : Bool) (is_one : SideFrame → Bool) (first : List SideFrame → Option LegMoment)
    (none : first [] ≡ None)
    (step : (f : SideFrame) (frames : List SideFrame)
    → first (f ∷ frames) ≡ cond (is_some (ending_of opener accepted f)) None
    (cond (is_one f) (Some (moment_of f)) (first frames))) where
  found-step : (f : SideFrame) (frames : List SideFrame) (ending : Option Ending) (is : Bool)
      → ending_of opener accepted f ≡ ending → is_one f ≡ is
      → (IsSome (first frames) → HasFrame opener accepted is_one frames)
      → IsSome (cond (is_some ending) None (cond is (Some (moment_of f)) (first frames)))
      → HasFrame opener accepted is_one (f ∷ frames)
  found-step f frames (Some ending) is e a rest h = absurd cc
  found-step f frames None true e a rest h = record { placed = at_front f frames; is = a; go_on = (e, tt) }
  found-step f frames None false e a rest h =
      let found = rest h in record { placed = behind f found.placed; is = found.is; go_on = (e, found.go_on) }

  found : (frames : List SideFrame) → IsSome (first frames) → HasFrame opener accepted is_one frames
  found [] h = absurd (not_some (first []) none h)
  found (f ∷ frames) h =
      found-step f frames (ending_of opener accepted f) (is_one f) refl refl (found frames) (subst IsSome (step f frames) h)

  counts : (before : List SideFrame) (one : SideFrame) (later : List SideFrame)
      → is_one one ≡ true → AllByRecursion (GoesOn opener accepted) (before ++ one ∷ []) → IsSome (first (before ++ one ∷ later))
  counts [] one later a go_on = rw (step one later, go_on.0, a) refl
  counts (f ∷ before) one later a go_on =
      rw (step f (before ++ one ∷ later), go_on.0) (some_if (is_one f) (moment_of f) _ (counts before one later a go_on.1))

  where_found : (frames : List SideFrame) → HasFrame opener accepted is_one frames → IsSome (first frames)
  where_found frames has =
      subst (λ (fs : List SideFrame). IsSome (first fs)) (sym has.placed.all)
      (counts has.placed.before has.placed.frame has.placed.later has.is has.go_on)

module _ (opener : Option Side) where
  pub accept-found : (frames : List SideFrame) → IsSome (accepted_of opener frames) → HasAccept opener frames
  accept-found = found opener false (accepts opener) (accepted_of opener) refl (λ f frames. refl)

  pub accepted-where : (frames : List SideFrame) → HasAccept opener frames → IsSome (accepted_of opener frames)
  accepted-where = where_found opener false (accepts opener) (accepted_of opener) refl (λ f frames. refl)

  answer-found : (frames : List SideFrame) → IsSome (answered_from opener true frames) → HasAnswer opener frames
  answer-found = found opener true (answers opener) (answered_from opener true) refl (λ f frames. refl)

  answered-where : (frames : List SideFrame) → HasAnswer opener frames → IsSome (answered_from opener true frames)
  answered-where = where_found opener true (answers opener) (answered_from opener true) refl (λ f frames. refl)

-- ---- both

both-step : (opener : Option Side) (f : SideFrame) (frames : List SideFrame) (ending : Option Ending) (accepting : Bool)
    → ending_of opener false f ≡ ending → accepts opener f ≡ accepting
    → (IsSome (answered_from opener false frames) → HasAcceptAndAnswer opener frames)
    → IsSome (cond (is_some ending) None (answered_from opener accepting frames))
    → HasAcceptAndAnswer opener (f ∷ frames)
both-step opener f frames (Some ending) accepting e a rest h = absurd cc
both-step opener f frames None true e a rest h =
    record { accepted = record { placed = at_front f frames; is = a; go_on = (e, tt) }; answered = answer-found opener frames h }
both-step opener f frames None false e a rest h =
    let found = rest h in
    let accept = found.accepted in
    record {
      accepted = record { placed = behind f accept.placed; is = accept.is; go_on = (e, accept.go_on) };
      answered = found.answered;
    }

pub both-found : (opener : Option Side) (frames : List SideFrame)
    → IsSome (answered_of opener frames) → HasAcceptAndAnswer opener frames
both-found opener [] h = absurd cc
both-found opener (f ∷ frames) h =
    both-step opener f frames (ending_of opener false f) (accepts opener f) refl refl (both-found opener frames) h

-- a frame that doesn't end a call before it is accepted doesn't end it afterwards either
rejection_goes_on : (opener : Option Side) → peer_rejection opener true ≡ None
rejection_goes_on None = refl
rejection_goes_on (Some Peer) = refl
rejection_goes_on (Some Exchange) = refl

goes_on_by : (opener : Option Side) (side : Side) (message : Message)
    → ending_by opener false side message ≡ None → ending_by opener true side message ≡ None
goes_on_by opener Exchange messages.Hangup h = absurd cc
goes_on_by opener Peer messages.Hangup h = absurd cc
goes_on_by opener Exchange messages.Reject h = absurd cc
goes_on_by opener Peer messages.Reject h = rejection_goes_on opener
goes_on_by opener side message h = h

goes_on : (opener : Option Side) (f : SideFrame) → GoesOn opener false f → GoesOn opener true f
goes_on opener f h = goes_on_by opener f.by (meaning_of f) h

-- frames that don't end the call, in front of those that answer
passed : (opener : Option Side) (frames later : List SideFrame) → AllByRecursion (GoesOn opener false) frames
    → IsSome (answered_from opener true later) → IsSome (answered_from opener true (frames ++ later))
passed opener [] later go_on h = h
passed opener (f ∷ frames) later go_on h =
    rw (goes_on opener f go_on.0) (some_if (answers opener f) (moment_of f) _ (passed opener frames later go_on.1 h))

both_if : (opener : Option Side) (accepted : Bool) (frames : List SideFrame)
    → IsSome (answered_from opener true frames) → IsSome (answered_from opener false frames)
    → IsSome (answered_from opener accepted frames)
both_if opener true frames h k = h
both_if opener false frames h k = k

both-counts : (opener : Option Side) (before : List SideFrame) (accept : SideFrame) (later : List SideFrame)
    → accepts opener accept ≡ true → AllByRecursion (GoesOn opener false) (before ++ accept ∷ [])
    → IsSome (answered_from opener true later) → IsSome (answered_from opener false (before ++ accept ∷ later))
both-counts opener [] accept later a go_on h = rw (go_on.0, a) h
both-counts opener (f ∷ before) accept later a go_on h =
    rw go_on.0
    (both_if opener (accepts opener f) (before ++ accept ∷ later)
    (subst (λ (fs : List SideFrame). IsSome (answered_from opener true fs)) (append_assoc before (accept ∷ []) later)
    (passed opener (before ++ accept ∷ []) later go_on.1 h))
    (both-counts opener before accept later a go_on.1 h))

pub both-where : (opener : Option Side) (frames : List SideFrame)
    → HasAcceptAndAnswer opener frames → IsSome (answered_of opener frames)
both-where opener frames has =
    let accept = has.accepted in
    subst (λ (fs : List SideFrame). IsSome (answered_of opener fs)) (sym accept.placed.all)
    (both-counts opener accept.placed.before accept.placed.frame accept.placed.later accept.is accept.go_on
    (answered-where opener accept.placed.later has.answered))

-- ---- HANGUP

hangup_ends : (opener : Option Side) (accepted : Bool) (side : Side) → ending_by opener accepted side messages.Hangup ≡ None → ⊥
hangup_ends opener accepted Peer h = cc
hangup_ends opener accepted Exchange h = cc

no_ending : (ending : Option Ending) (f : SideFrame) (later : Option CallEnd)
    → end_or ending f later ≡ None → (ending ≡ None) × (later ≡ None)
no_ending None f later h = (refl, h)
no_ending (Some ending) f later h = absurd cc

pub not_hung_up : (opener : Option Side) (accepted : Bool) (frames : List SideFrame)
    → end_from opener accepted frames ≡ None → HasNoHangup frames
not_hung_up opener accepted [] h = tt
not_hung_up opener accepted (f ∷ frames) h =
    let none = no_ending (ending_of opener accepted f) f (end_from opener (accepted || accepts opener f) frames) h in (
      λ hangup. hangup_ends opener accepted f.by
          (subst (λ (m : Message). ending_by opener accepted f.by m ≡ None) hangup none.0),
      not_hung_up opener (accepted || accepts opener f) frames none.1,
    )

-- ---- the end

ending_is : (opener : Option Side) (accepted : Bool) (side : Side) (message : Message) (how : Ending)
    → ending_by opener accepted side message ≡ Some how → (message ≡ messages.Hangup) ⊎ (message ≡ messages.Reject)
ending_is opener accepted Exchange messages.Hangup how e = inl refl
ending_is opener accepted Peer messages.Hangup how e = inl refl
ending_is opener accepted Exchange messages.Reject how e = inr refl
ending_is opener accepted Peer messages.Reject how e = inr refl
ending_is opener accepted side message how e = absurd cc

-- a frame that ends nothing is no HANGUP
no_hangup : (opener : Option Side) (accepted : Bool) (f : SideFrame) → ending_of opener accepted f ≡ None → IsHangup f → ⊥
no_hangup opener accepted f e hangup =
    hangup_ends opener accepted f.by (subst (λ (m : Message). ending_by opener accepted f.by m ≡ None) hangup e)

same_end : (x y : CallEnd) → Some x ≡ Some y → x ≡ y
same_end x y e = cc

end-step : (opener : Option Side) (accepted : Bool) (f : SideFrame) (frames : List SideFrame) (end : CallEnd)
    (ending : Option Ending) (later : Option CallEnd)
    → ending_of opener accepted f ≡ ending → (later ≡ Some end → HasEnding frames end)
    → end_or ending f later ≡ Some end → HasEnding (f ∷ frames) end
end-step opener accepted f frames end (Some how) later e rest h =
    let is : end_by f how ≡ end = same_end (end_by f how) end h in record {
      placed = at_front f frames;
      is_ending = ending_is opener accepted f.by (meaning_of f) how e;
      end_is = sym is ∙ ap (λ (x : CallEnd). end_by f x.how) is;
      first = tt;
    }
end-step opener accepted f frames end None later e rest h =
    let found = rest h in record {
      placed = behind f found.placed;
      is_ending = found.is_ending;
      end_is = found.end_is;
      first = (no_hangup opener accepted f e, found.first);
    }

pub end-found : (opener : Option Side) (accepted : Bool) (frames : List SideFrame) (end : CallEnd)
    → end_from opener accepted frames ≡ Some end → HasEnding frames end
end-found opener accepted [] end h = absurd cc
end-found opener accepted (f ∷ frames) end h =
    end-step opener accepted f frames end (ending_of opener accepted f)
    (end_from opener (accepted || accepts opener f) frames) refl
    (end-found opener (accepted || accepts opener f) frames end) h
