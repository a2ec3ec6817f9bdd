-- The rejections of a call's steps, and of one more step.
use Rattle.std.specs.Prelude.{◌≡◌, ℕ, ◌+◌, ◌≤◌, List, [], ◌∷◌, ◌++◌, Bool, true, false, Option, None, Some, Ok, Err, IsSome, refl}
use Rattle.std.proofs.Common.{append_assoc, append-nil, ap, arith, sym, ◌∙◌}
use Rattle.std.specs.Option.{option_or}
use Rattle.call_control.specs.Beginnings.{is_made}
use Rattle.call_control.specs.declared.need.Need.{Need}
use Rattle.call_control.specs.declared.need.Need.TheVariants as needs
use Rattle.call_control.specs.declared.reply.Reply.{Reply}
use Rattle.call_control.specs.declared.reply.Reply.TheVariants as replies
use Rattle.step_log.specs.Notes.{Noted}
use Rattle.step_log.specs.declared.made.Made.{Made}
use Rattle.step_log.specs.declared.made.Made.TheVariants as mades
use Rattle.peer_accounts.specs.Accounts.{Credit}
use Rattle.peer_accounts.specs.declared.onwards.Offer.{Offer}
use Rattle.peer_lock.specs.declared.steps.Rejection.{Rejection}
use Rattle.exchange_core.proofs.Tracing.{last_longer, noted_is}
use Rattle.exchange_core.specs.Rejections.{rejected_since, rejection_by, rejection_of}
use Rattle.exchange_core.specs.Since.{last_of}
use Rattle.exchange_core.specs.Traces.{Call, IsMade, IsUnasked, Makes}

-- the rejection since then, which was a step
pub record RejectedSince (first now : Noted) (rejected : Option Rejection) : Type 0 where
  pub steps : List Made
  pub noted : now.made ≡ first.made ++ steps
  pub last : rejected ≡ last_of rejection_by steps None
  pub grown : first.credit.steps ≤ now.credit.steps
  pub counted : IsSome rejected → first.credit.steps + 1 ≤ now.credit.steps

-- an empty option has no value
no_some : IsSome {T = Rejection} None → ⊥
no_some some = cc

pub none_rejected : (pass : Noted) → RejectedSince pass pass None
none_rejected pass = record {
  steps = [];
  noted = sym (append-nil pass.made);
  last = refl;
  grown = omega arith;
  counted = λ some. absurd (no_some some);
}

-- .. it is the rejection in the steps that the pass has noted
pub rejected_is : (first now : Noted) (rejected : Option Rejection) → RejectedSince first now rejected
    → rejected ≡ rejected_since first now
rejected_is first now rejected since =
    since.last ∙ ap (λ steps. last_of rejection_by steps None) (sym (noted_is first now since.steps since.noted))

pub none_since : (pass : Noted) → None ≡ rejected_since pass pass
none_since pass = rejected_is pass pass None (none_rejected pass)

-- ---- one step

unasked_rejects_none : (call : Call) (offer : Option Offer) (need : Need) (reply : Reply) → IsUnasked call offer need reply
    → None ≡ rejection_of reply
unasked_rejects_none call offer (needs.OpenOut name) reply is = sym (ap rejection_of is.0)
unasked_rejects_none call offer (needs.Order name command) reply is = sym (ap rejection_of is.0)
unasked_rejects_none call offer (needs.Look peer number) reply is = sym (ap rejection_of is.0)
unasked_rejects_none call offer (needs.Retire name) reply is = sym (ap rejection_of is.0)
unasked_rejects_none call offer (needs.Route name) (replies.Route route) is = refl
unasked_rejects_none call offer need reply is = absurd is

-- it is noted as the answer reports it
rejection_is : (call : Call) (offer : Option Offer) (need : Need) (reply : Reply) (step : Made)
    → IsMade call offer need reply step → rejection_by step ≡ rejection_of reply
rejection_is call offer need reply (mades.Datagram peer octets now (Ok step) onwards) made = sym (ap rejection_of made.1)
rejection_is call offer need reply (mades.Datagram peer octets now (Err error) onwards) made = sym (ap rejection_of made.1)
rejection_is call offer need reply (mades.OpenIn peer name head payload now challenge (Ok step) onwards) made =
    sym (ap rejection_of made.1)
rejection_is call offer need reply (mades.OpenIn peer name head payload now challenge (Err error) onwards) made =
    sym (ap rejection_of made.1)
rejection_is call offer need reply (mades.RejectNew peer head payload (Ok step)) made = sym (ap rejection_of made.1)
rejection_is call offer need reply (mades.RejectNew peer head payload (Err error)) made = sym (ap rejection_of made.1)
rejection_is call offer need reply (mades.OpenOut peer name called caller format now answer) made = sym (ap rejection_of made.1)
rejection_is call offer need reply (mades.Order peer name kind media now answer) made = sym (ap rejection_of made.2)
rejection_is call offer need reply (mades.Tick peer now answer) made = sym (ap rejection_of made.1)
rejection_is call offer need reply (mades.Look peer number answer) made = sym (ap rejection_of made.1)
rejection_is call offer need reply (mades.Retire peer name answer) made = sym (ap rejection_of made.1)
rejection_is call offer need reply (mades.Reserve peer answer) made = sym (ap rejection_of made.1)
rejection_is call offer need reply (mades.Bridge one other answer) made = sym (ap rejection_of made.1)
rejection_is call offer need reply (mades.Partner name answer) made = sym (ap rejection_of made.1)
rejection_is call offer need reply (mades.Release name answer) made = sym (ap rejection_of made.1)
rejection_is call offer need reply mades.Unasked made = unasked_rejects_none call offer need reply made
rejection_is call offer need reply step made = absurd made

-- an answer that rejects something is a step
rejecting_is_made : (reply : Reply) → IsSome (rejection_of reply) → is_made reply ≡ true
rejecting_is_made (replies.Datagram (Ok heard)) some = refl
rejecting_is_made (replies.OpenIn (Ok heard)) some = refl
rejecting_is_made (replies.RejectNew (Ok done)) some = refl
rejecting_is_made reply some = cc

-- ---- through the steps of a call

still_counted : (first old new : ℕ) (made : Bool) (reported before : Option Rejection) → first ≤ old
    → (IsSome before → first + 1 ≤ old)
    → (made ≡ true → new ≡ old + 1) → old ≤ new → (IsSome reported → made ≡ true) → IsSome (option_or reported before)
    → first + 1 ≤ new
still_counted first old new made None before grown counted steps more is some = let were = counted some in omega arith
still_counted first old new made (Some reported) before grown counted steps more is some = let one = steps (is refl) in
    omega arith

not_fewer : (old new : Credit) (made : Bool) → (made ≡ true → new.steps ≡ old.steps + 1) → (made ≡ false → new ≡ old)
    → old.steps ≤ new.steps
not_fewer old new true steps same = let one = steps refl in omega arith
not_fewer old new false steps same = let none = ap (λ (c : Credit). c.steps) (same refl) in omega arith

pub one_more : (call : Call) (offer : Option Offer) (need : Need) (reply : Reply) (first old new : Noted)
    (before after : Option Rejection)
    → RejectedSince first old before → Makes call offer need reply old new
    → (is_made reply ≡ true → new.credit.steps ≡ old.credit.steps + 1) → (is_made reply ≡ false → new.credit ≡ old.credit)
    → after ≡ option_or (rejection_of reply) before → RejectedSince first new after
one_more call offer need reply first old new before after since makes steps same is =
    let more = not_fewer old.credit new.credit (is_made reply) steps same in
    rw is (record {
      steps = since.steps ++ makes.step ∷ [];
      noted = makes.noted.made ∙ ap (λ made. made ++ makes.step ∷ []) since.noted ∙ append_assoc first.made since.steps
          (makes.step ∷ []);
      last = (λ i. option_or (sym (rejection_is call offer need reply makes.step makes.made) i) (since.last i))
          ∙ sym (last_longer rejection_by since.steps makes.step None);
      grown = let were = since.grown in omega arith;
      counted = still_counted first.credit.steps old.credit.steps new.credit.steps (is_made reply) (rejection_of reply) before
          since.grown since.counted steps more
          (rejecting_is_made reply);
    })
