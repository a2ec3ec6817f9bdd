-- The names that the book gives in a call's steps.
use Rattle.std.specs.Prelude.{Option, None, Some, Ok}
use Rattle.call_book.specs.declared.leg_name.LegName.{LegName}
use Rattle.call_control.specs.declared.reply.Reply.{Reply}
use Rattle.call_control.specs.declared.reply.Reply.TheVariants as replies
use Rattle.step_log.specs.Notes.{Noted}
use Rattle.step_log.specs.declared.made.Made.{Made}
use Rattle.step_log.specs.declared.made.Made.TheVariants as mades
use Rattle.exchange_core.specs.Since.{last_of, noted_since}

-- the name that a step gives, by its answer
abbrev pub named_of : Reply → Option LegName
named_of (replies.Reserve (Ok name)) = Some name
named_of reply = None

-- .. and by its note
abbrev pub named_by : Made → Option LegName
named_by (mades.Reserve peer (Ok name)) = Some name
named_by made = None

-- the last name that was given in the steps that a pass has noted since, if one was
abbrev pub named_since : Noted → Noted → Option LegName
named_since old new = last_of named_by (noted_since old new) None
