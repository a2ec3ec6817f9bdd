-- The names that the book gives in a call's steps, and in one more step.
use Rattle.std.specs.Prelude.{◌≡◌, Option, None, Ok, Err, refl}
use Rattle.std.specs.Option.{option_or}
use Rattle.std.proofs.Common.{ap, sym, ◌∙◌}
use Rattle.call_book.specs.declared.leg_name.LegName.{LegName}
use Rattle.call_control.specs.declared.need.Need.{Need}
use Rattle.call_control.specs.declared.need.Need.TheVariants as needs
use Rattle.call_control.specs.declared.reply.Reply.{Reply}
use Rattle.call_control.specs.declared.reply.Reply.TheVariants as replies
use Rattle.step_log.specs.Notes.{Noted}
use Rattle.step_log.specs.declared.made.Made.{Made}
use Rattle.step_log.specs.declared.made.Made.TheVariants as mades
use Rattle.peer_accounts.specs.declared.onwards.Offer.{Offer}
use Rattle.exchange_core.proofs.Tracing.{LastSince, last_more}
use Rattle.exchange_core.specs.FirstSteps.{named_after}
use Rattle.exchange_core.specs.Names.{named_by, named_of}
use Rattle.exchange_core.specs.Traces.{Call, IsMade, IsUnasked, Makes}

unasked_names_none : (call : Call) (offer : Option Offer) (need : Need) (reply : Reply) → IsUnasked call offer need reply
    → None ≡ named_of reply
unasked_names_none call offer (needs.OpenOut name) reply is = sym (ap named_of is.0)
unasked_names_none call offer (needs.Order name command) reply is = sym (ap named_of is.0)
unasked_names_none call offer (needs.Look peer number) reply is = sym (ap named_of is.0)
unasked_names_none call offer (needs.Retire name) reply is = sym (ap named_of is.0)
unasked_names_none call offer (needs.Route name) (replies.Route route) is = refl
unasked_names_none call offer need reply is = absurd is

-- it is noted as the answer has it
named_is : (call : Call) (offer : Option Offer) (need : Need) (reply : Reply) (step : Made) → IsMade call offer need reply step
    → named_by step ≡ named_of reply
named_is call offer need reply (mades.Datagram peer octets now answer onwards) made = sym (ap named_of made.1)
named_is call offer need reply (mades.OpenIn peer name head payload now challenge answer onwards) made =
    sym (ap named_of made.1)
named_is call offer need reply (mades.RejectNew peer head payload answer) made = sym (ap named_of made.1)
named_is call offer need reply (mades.OpenOut peer name called caller format now answer) made = sym (ap named_of made.1)
named_is call offer need reply (mades.Order peer name kind media now answer) made = sym (ap named_of made.2)
named_is call offer need reply (mades.Tick peer now answer) made = sym (ap named_of made.1)
named_is call offer need reply (mades.Look peer number answer) made = sym (ap named_of made.1)
named_is call offer need reply (mades.Retire peer name answer) made = sym (ap named_of made.1)
named_is call offer need reply (mades.Reserve peer (Ok name)) made = sym (ap named_of made.1)
named_is call offer need reply (mades.Reserve peer (Err error)) made = sym (ap named_of made.1)
named_is call offer need reply (mades.Bridge one other answer) made = sym (ap named_of made.1)
named_is call offer need reply (mades.Partner name answer) made = sym (ap named_of made.1)
named_is call offer need reply (mades.Release name answer) made = sym (ap named_of made.1)
named_is call offer need reply mades.Unasked made = unasked_names_none call offer need reply made
named_is call offer need reply step made = absurd made

pub named_more : (call : Call) (offer : Option Offer) (need : Need) (reply : Reply) (first old new : Noted)
    (before after : Option LegName) → LastSince named_by first old before → Makes call offer need reply old new
    → after ≡ named_after reply before → LastSince named_by first new after
named_more call offer need reply first old new before after since makes is =
    last_more named_by first old new makes.step before after since makes.noted.made
    (is ∙ ap (λ o. option_or o before) (sym (named_is call offer need reply makes.step makes.made)))
