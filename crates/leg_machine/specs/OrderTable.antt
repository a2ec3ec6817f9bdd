-- The table of orders: the effect of the orders of the layer above, row by row ("Call Setup", "Control Frames").
use Rattle.std.specs.Prelude.{◌≡◌, ◌≤◌, ℕ, not, ◌&&◌, ◌||◌, nat_le, length, Bool, true, false, List, [], ◌∷◌, map, Option, None}
use Rattle.std.specs.Prelude.{Some, if◌then◌else◌}
use Rattle.iax_frames.specs.FullFrame.{spelling}
use Rattle.iax_frames.specs.MiniFrame.{mini_spelling}
use Rattle.seq_window.specs.Window.{held_count}
use Rattle.leg_machine.specs.Leg.{LegState, obeyed, local_room, is_record_full}
use Rattle.leg_machine.specs.Media.{media_sent, after_media, media_frames}
use Rattle.leg_machine.specs.Replies.{reply_frame, outgoing, next_byte}
use Rattle.call_signals.specs.Stage.{is_offered, is_linked, is_talking, is_over}
use Rattle.leg_machine.specs.Working.{sent, agreed}
use Rattle.call_signals.specs.declared.cause.Cause.{Cause}
use Rattle.leg_machine.specs.declared.media.MediaSent.{MediaSent}
use Rattle.leg_machine.specs.declared.media.MediaSent.TheVariants.{Quelched, Voice, Mini}
use Rattle.call_signals.specs.Order.{Order}
use Rattle.call_signals.specs.declared.order.Command.TheVariants.{Accept, Reject, Indicate, Answer, Dtmf, Media, Hangup, Doom}
use Rattle.call_signals.specs.declared.order.Command.TheVariants.{Paid}
use Rattle.call_signals.specs.declared.order.OrderError.{OrderError}
use Rattle.call_signals.specs.declared.order.OrderError.TheVariants as errors
use Rattle.leg_machine.specs.declared.orders.Ordered.{Ordered}
use Rattle.call_signals.specs.declared.reply.ReplyFrame.{ReplyFrame}
use Rattle.call_signals.specs.declared.reply.ReplyFrame.TheVariants as replies
use Rattle.call_signals.specs.declared.stage.Stage.{Stage}
use Rattle.call_signals.specs.declared.stage.Stage.TheVariants as stages

-- this frame is sent while fewer than this number are held, and the leg enters this stage
abbrev pub ordered : ReplyFrame → Stage → ℕ → Ordered
ordered reply stage most = record { reply = reply; stage = stage; most = most }

abbrev pub when : Bool → Ordered → Option Ordered
when holds row = if holds then Some row else None

-- A doomed leg sends no more digits: a digit that found no room would leave a gap before those after it.
abbrev pub refuses_digits : LegState → Bool
refuses_digits leg = leg.rules.is_hardened && leg.doomed

-- The rows that send a numbered frame; none: the stage is a wrong one, or the leg refuses digits.
abbrev pub order_row : LegState → Order → Option Ordered
order_row leg (Accept format) = when (is_offered leg.stage) (ordered (replies.Accept format) stages.Linked leg.window.width)
order_row leg (Reject cause) = when (is_offered leg.stage) (ordered (replies.Reject cause) stages.Closing leg.window.width)
order_row leg (Indicate i) = when (is_linked leg.stage) (ordered (replies.Indicate i) stages.Linked (local_room leg.window.width))
order_row leg Answer = when (is_linked leg.stage) (ordered replies.Answer stages.Up (local_room leg.window.width))
order_row leg (Dtmf digit) =
    when (is_talking leg.stage && not (refuses_digits leg)) (ordered (replies.Dtmf digit) leg.stage (local_room leg.window.width))
order_row leg (Hangup cause) = when (not (is_over leg.stage)) (ordered (replies.Hangup cause) stages.Closing leg.window.width)
order_row leg (Media media) = None
order_row leg (Doom cause) = None
order_row leg Paid = None

-- ---- refusals

-- the reason why a numbered frame can't be sent now: its window, then its record
abbrev pub sending_refused : LegState → ℕ → Option OrderError
sending_refused leg most =
    if nat_le most (held_count leg.window) then Some errors.WindowFull
    else if is_record_full leg then Some errors.RecordFull
    else None

abbrev pub row_refused : LegState → Option Ordered → Option OrderError
row_refused leg None = Some errors.WrongStage
row_refused leg (Some row) = sending_refused leg row.most

abbrev pub media_refused_as : MediaSent → LegState → Option OrderError
media_refused_as Quelched leg = None
media_refused_as Voice leg = sending_refused leg (local_room leg.window.width)
media_refused_as (Mini timestamp) leg = None

-- only media that is sent as a full frame needs room
abbrev pub media_refused : LegState → ℕ → Option OrderError
media_refused leg now =
    if is_talking leg.stage then media_refused_as (media_sent leg now) leg else Some errors.WrongStage

-- the refusal of an order, memory aside
abbrev pub order_refused : LegState → Order → ℕ → Option OrderError
order_refused leg (Media media) now = media_refused leg now
order_refused leg (Doom cause) now = None
order_refused leg Paid now = None
order_refused leg (Accept format) now = row_refused leg (order_row leg (Accept format))
order_refused leg (Reject cause) now = row_refused leg (order_row leg (Reject cause))
order_refused leg (Indicate i) now = row_refused leg (order_row leg (Indicate i))
order_refused leg Answer now = row_refused leg (order_row leg Answer)
order_refused leg (Dtmf digit) now = row_refused leg (order_row leg (Dtmf digit))
order_refused leg (Hangup cause) now = row_refused leg (order_row leg (Hangup cause))

-- a refusal is the one that is due; if none is due, memory was refused
abbrev pub IsRefusal : Option OrderError → OrderError → Type 0
IsRefusal (Some due) e = e ≡ due
IsRefusal None e = e ≡ errors.Memory

abbrev pub is_voice : MediaSent → Bool
is_voice Voice = true
is_voice sent = false

-- only an order that sends a full frame needs memory
abbrev pub wants_memory : LegState → Order → ℕ → Bool
wants_memory leg (Media media) now = is_voice (media_sent leg now)
wants_memory leg (Doom cause) now = false
wants_memory leg Paid now = false
wants_memory leg order now = true

-- media of an order is 1 to 1,380 octets
abbrev pub IsShortMedia : Order → Type 0
IsShortMedia (Media media) = (1 ≤ length media.now) × (length media.now ≤ 1380)
IsShortMedia _ = Unit {0}

-- ---- effects

-- the leg after an order, and its datagrams
pub record Carried : Type 0 where
  pub leg : LegState
  pub datagrams : List (List ℕ)

abbrev pub row_carried : LegState → Option Ordered → ℕ → Carried
row_carried leg None now = record { leg = leg; datagrams = [] }
row_carried leg (Some row) now =
    let leg_in = agreed (obeyed leg row.stage now) row.reply in
    let frame = reply_frame leg_in now row.reply in
    record { leg = sent leg_in frame now; datagrams = spelling (outgoing leg_in false (next_byte leg_in) frame) ∷ [] }

-- media that isn't quelched is sent as a full frame or as a mini frame
abbrev pub media_datagrams : MediaSent → LegState → List ℕ → ℕ → List (List ℕ)
media_datagrams Quelched leg media now = []
media_datagrams Voice leg media now = map spelling (media_frames Voice leg media now)
media_datagrams (Mini timestamp) leg media now =
    mini_spelling (record { source = leg.number; timestamp = timestamp; media = media }) ∷ []

-- the leg is doomed, unless it is over
abbrev pub doomed : LegState → Cause → LegState
doomed leg cause = record leg {
  doomed = leg.doomed || not (is_over leg.stage);
  cause = if is_over leg.stage then leg.cause else cause;
}

-- a leg that is over owes nothing
abbrev pub paid : LegState → LegState
paid leg = record leg { owes = leg.owes && not (is_over leg.stage) }

abbrev pub order_carried : LegState → Order → ℕ → Carried
order_carried leg (Media media) now =
    record {
      leg = after_media (media_sent leg now) leg media.now now;
      datagrams = media_datagrams (media_sent leg now) leg media.now now;
    }
order_carried leg (Doom cause) now = record { leg = doomed leg cause; datagrams = [] }
order_carried leg Paid now = record { leg = paid leg; datagrams = [] }
order_carried leg (Accept format) now = row_carried leg (order_row leg (Accept format)) now
order_carried leg (Reject cause) now = row_carried leg (order_row leg (Reject cause)) now
order_carried leg (Indicate i) now = row_carried leg (order_row leg (Indicate i)) now
order_carried leg Answer now = row_carried leg (order_row leg Answer) now
order_carried leg (Dtmf digit) now = row_carried leg (order_row leg (Dtmf digit)) now
order_carried leg (Hangup cause) now = row_carried leg (order_row leg (Hangup cause)) now
