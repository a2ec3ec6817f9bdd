-- The steps of a call, and one step more.
use Rattle.std.specs.Option.{option_or}
use Rattle.std.specs.Prelude.{◌≡◌, List, [], ◌∷◌, ◌++◌, Option, None, Some, refl}
use Rattle.std.proofs.Common.{append_assoc, append-nil, ap, drop, length, sym, ◌∙◌}
use Rattle.std.proofs.Math.Seq.{drop-append_seam}
use Rattle.call_control.specs.Work.{next_of}
use Rattle.call_control.specs.WorkState.{WorkState, offer_in}
use Rattle.call_control.specs.declared.need.Need.{Need}
use Rattle.call_control.specs.declared.reply.Reply.{Reply}
use Rattle.step_log.specs.Notes.{Noted}
use Rattle.step_log.specs.declared.made.Made.{Made}
use Rattle.exchange_core.specs.Since.{last_of, noted_since}
use Rattle.exchange_core.specs.Traces.{Call, IsMade, IsTrace, Makes, Traces, told}

trace_longer : (call : Call) (from : WorkState) (steps : List Made) (to : WorkState) (need : Need) (reply : Reply) (step : Made)
    → IsTrace call from steps to → next_of to.work ≡ Some need → IsMade call (offer_in to.onwards) need reply step
    → IsTrace call from (steps ++ step ∷ []) (told to reply)
trace_longer call from [] to need reply step is next made = rw is (need, reply, next, made, refl)
trace_longer call from (first ∷ rest) to need reply step is next made =
    (is.0, is.1, is.2, is.3, trace_longer call (told from is.1) rest to need reply step is.4 next made)

pub traces_none : (call : Call) (from : WorkState) (pass : Noted) → Traces call from from pass pass
traces_none call from pass = record { steps = []; noted = sym (append-nil pass.made); begun = refl; trace = refl }

pub traces_longer : (call : Call) (from to : WorkState) (need : Need) (reply : Reply) (first old new : Noted)
    → Traces call from to first old → next_of to.work ≡ Some need → Makes call (offer_in to.onwards) need reply old new
    → Traces call from (told to reply) first new
traces_longer call from to need reply first old new traces next makes = record {
  steps = traces.steps ++ makes.step ∷ [];
  noted = makes.noted.made ∙ ap (λ made. made ++ makes.step ∷ []) traces.noted ∙ append_assoc first.made traces.steps
      (makes.step ∷ []);
  begun = makes.noted.begun ∙ traces.begun;
  trace = trace_longer call from traces.steps to need reply makes.step traces.trace next makes.made;
}

-- ---- the steps noted since

pub noted_is : (first now : Noted) (steps : List Made) → now.made ≡ first.made ++ steps → noted_since first now ≡ steps
noted_is first now steps noted = ap (drop (length first.made)) noted ∙ drop-append_seam first.made steps

pub last_longer : {A : Type 0} (report : Made → Option A) (steps : List Made) (step : Made) (before : Option A)
    → last_of report (steps ++ step ∷ []) before ≡ option_or (report step) (last_of report steps before)
last_longer report [] step before = refl
last_longer report (first ∷ rest) step before = last_longer report rest step (option_or (report first) before)

-- the last report in the steps noted since then
pub record LastSince {A : Type 0} (report : Made → Option A) (first now : Noted) (last : Option A) : Type 0 where
  pub steps : List Made
  pub noted : now.made ≡ first.made ++ steps
  pub is : last ≡ last_of report steps None

pub none_yet : {A : Type 0} (report : Made → Option A) (pass : Noted) → LastSince report pass pass None
none_yet report pass = record { steps = []; noted = sym (append-nil pass.made); is = refl }

pub last_since : {A : Type 0} (report : Made → Option A) (first now : Noted) (last : Option A) → LastSince report first now last
    → last ≡ last_of report (noted_since first now) None
last_since report first now last since =
    since.is ∙ ap (λ steps. last_of report steps None) (sym (noted_is first now since.steps since.noted))

pub last_more : {A : Type 0} (report : Made → Option A) (first old new : Noted) (step : Made) (before after : Option A)
    → LastSince report first old before → new.made ≡ old.made ++ step ∷ [] → after ≡ option_or (report step) before
    → LastSince report first new after
last_more report first old new step before after since noted is = record {
  steps = since.steps ++ step ∷ [];
  noted = noted ∙ ap (λ made. made ++ step ∷ []) since.noted ∙ append_assoc first.made since.steps (step ∷ []);
  is = is ∙ ap (option_or (report step)) since.is ∙ sym (last_longer report since.steps step None);
}
