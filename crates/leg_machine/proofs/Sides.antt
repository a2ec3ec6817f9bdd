-- Each step of a leg is one of a network's side: its entries in the record, and its frames.
use Rattle.std.specs.Prelude.{◌&&◌, ◌<◌, ◌%◌, ◌^◌, map}
use Rattle.std.proofs.Common.{◌≡◌, ℕ, true, false, cond, List, [], ◌++◌, inr, None, Some, refl, ap, ◌∙◌, arith}
use Rattle.std.proofs.lemmas.List.Elements.{All-nil, All-cons}
use Rattle.iax_frames.specs.FullFrame.{FullFrame, spelling}
use Rattle.iax_frames.specs.MiniFrame.{MiniFrame, mini_spelling}
use Rattle.seq_window.specs.Entry.{Entry}
use Rattle.seq_window.specs.Turn.{entries_for_reply}
use Rattle.seq_window.specs.Window.{judged_number, entries_for_number, is_full}
use Rattle.leg_machine.specs.Effects.{is_reply}
use Rattle.leg_machine.specs.Leg.{LegState}
use Rattle.leg_machine.specs.Media.{media_sent, after_media, media_frames, is_voice_due}
use Rattle.leg_machine.specs.Openings.{opening_of, opening_effect, leg_for_new, open_in_step, open_out_step}
use Rattle.leg_machine.specs.OrderTable.{order_row, order_carried, media_datagrams, doomed, paid}
use Rattle.leg_machine.specs.Replies.{present_of}
use Rattle.leg_machine.specs.Steps.{Step, taken_step, taken, answered, no_room}
use Rattle.leg_machine.specs.Tie.{TakesFirstTurn, HasSentAtMostOne, SendsNumbered, IsNumberedFrame, IsSendingOrMini, HasSent}
use Rattle.leg_machine.specs.Tie.{HasSentOrMini}
use Rattle.leg_machine.specs.Working.{stored}
use Rattle.call_signals.specs.declared.effects.Effect.{Effect}
use Rattle.call_signals.specs.declared.format.Format.{Format}
use Rattle.call_signals.specs.declared.message.Message.TheVariants.{New}
use Rattle.call_signals.specs.Order.{Order}
use Rattle.call_signals.specs.declared.order.Command.TheVariants.{Accept, Reject, Indicate, Answer, Dtmf, Media, Hangup, Doom}
use Rattle.call_signals.specs.declared.order.Command.TheVariants.{Paid}
use Rattle.call_signals.specs.declared.rules.PeerRules.{PeerRules}
use Rattle.leg_machine.specs.declared.media.MediaSent.{MediaSent}
use Rattle.leg_machine.specs.declared.media.MediaSent.TheVariants as media
use Rattle.leg_machine.proofs.Sendings.{AllSent}
use Rattle.leg_machine.proofs.SendingSteps.{spelled, or-mini, row-sent, media-sent, taken-sent, written}
use Rattle.leg_machine.proofs.Tied.{either, taken-history, replied-adds}

-- the full frames sent are spelled
pub has-sent : (leg : LegState) (frames : List FullFrame) → AllSent leg frames → HasSent leg (map spelling frames)
has-sent leg frames all = written leg leg frames (map spelling frames) all refl refl

-- ---- orders

orders-spelled : (leg : LegState) (frames : List FullFrame) → AllSent leg frames → HasSentOrMini leg (map spelling frames)
orders-spelled leg frames all = record {
  numbered = all.numbered;
  sendings = or-mini leg (map spelling frames) (spelled leg frames all);
}

-- no frame is sent
none-out : (leg : LegState) → SendsNumbered leg → HasSentOrMini leg []
none-out leg all = record { numbered = all; sendings = All-nil (IsSendingOrMini leg) }

-- media as a mini frame
mini-out : (leg : LegState) (timestamp : ℕ) (octets : List ℕ) → 0 < leg.number → leg.number < 2 ^ 15 → timestamp < 2 ^ 16
    → SendsNumbered leg
    → HasSentOrMini leg (media_datagrams (media.Mini timestamp) leg octets 0)
mini-out leg timestamp octets some few short all =
    let mini : MiniFrame = record { source = leg.number; timestamp = timestamp; media = octets } in
    record {
      numbered = all;
      sendings =
          All-cons (IsSendingOrMini leg) (mini_spelling mini) []
          (inr (mini, record { some_source = some; source = few; timestamp = short; whole = refl }))
          (All-nil (IsSendingOrMini leg));
    }

-- media, sent in any form
media-out : (leg : LegState) (octets : List ℕ) (now : ℕ) → 0 < leg.number → leg.number < 2 ^ 15 → SendsNumbered leg
    → HasSentOrMini (after_media (media_sent leg now) leg octets now) (media_datagrams (media_sent leg now) leg octets now)
media-out leg octets now some few all =
    let Out : MediaSent → Type 0 = λ how. HasSentOrMini (after_media how leg octets now) (media_datagrams how leg octets now) in
    let late = media.Mini (present_of leg now % 2 ^ 16) in
    let voice = after_media media.Voice leg octets now in
    either Out leg.quelched media.Quelched (cond (is_voice_due leg now) media.Voice late) (none-out leg all)
    (either Out (is_voice_due leg now) media.Voice late
    (orders-spelled voice (media_frames media.Voice leg octets now) (media-sent media.Voice leg octets now all))
    (mini-out leg (present_of leg now % 2 ^ 16) octets some few (omega arith) all))

pub order-sent : (leg : LegState) (order : Order) (now : ℕ) → 0 < leg.number → leg.number < 2 ^ 15 → SendsNumbered leg
    → HasSentOrMini (order_carried leg order now).leg (order_carried leg order now).datagrams
order-sent leg (Media octets) now some few all = media-out leg octets.now now some few all
order-sent leg (Doom cause) now some few all = none-out (doomed leg cause) all
order-sent leg Paid now some few all = none-out (paid leg) all
order-sent leg (Accept format) now some few all = row-sent leg (order_row leg (Accept format)) now all
order-sent leg (Reject cause) now some few all = row-sent leg (order_row leg (Reject cause)) now all
order-sent leg (Indicate i) now some few all = row-sent leg (order_row leg (Indicate i)) now all
order-sent leg Answer now some few all = row-sent leg (order_row leg Answer) now all
order-sent leg (Dtmf digit) now some few all = row-sent leg (order_row leg (Dtmf digit)) now all
order-sent leg (Hangup cause) now some few all = row-sent leg (order_row leg (Hangup cause)) now all

-- ---- openings

-- a frame is taken by a leg whose record is empty
pub first-turn : (effect : Effect) (leg : LegState) (frame : FullFrame) (now : ℕ) → leg.window.history ≡ []
    → TakesFirstTurn frame (taken_step effect leg frame New now).leg
first-turn effect leg frame now first =
    let next = taken effect leg frame New now in
    let one = replied-adds next now effect.answer in
    let takes = entries_for_number (judged_number [] frame.head.oseqno) (stored frame) in
    let before : next.window.history ≡ takes =
    taken-history effect leg frame New now
    ∙ ap (λ (h : List Entry). h ++ entries_for_number (judged_number h frame.head.oseqno) (stored frame)) first in
    either (λ (s : Step). TakesFirstTurn frame s.leg) (is_reply effect.answer && is_full leg.window) (no_room leg)
    (answered effect.answer next frame now effect.signal)
    (record { acknowledges = false; receives = false; reply = None }, first) (
      record { acknowledges = false; receives = true; reply = one.0 },
      one.1 ∙ ap (λ (entries : List Entry). entries ++ entries_for_reply one.0) before,
    )

pub opening-turn : (rules : PeerRules) (number : ℕ) (frame : FullFrame) (now : ℕ) (challenge : List ℕ)
    → TakesFirstTurn frame (open_in_step rules number frame now challenge).leg
opening-turn rules number frame now challenge =
    first-turn (opening_effect (opening_of rules frame)) (leg_for_new rules number frame now challenge) frame now refl

pub opening-sent : (rules : PeerRules) (number : ℕ) (frame : FullFrame) (now : ℕ) (challenge : List ℕ)
    → let s = open_in_step rules number frame now challenge in AllSent s.leg s.replies
opening-sent rules number frame now challenge =
    taken-sent (opening_effect (opening_of rules frame)) (leg_for_new rules number frame now challenge) frame New now
    (All-nil IsNumberedFrame)

pub call-sends : (rules : PeerRules) (number : ℕ) (called : List ℕ) (caller : List ℕ) (format : Format) (now : ℕ)
    → HasSentAtMostOne (open_out_step rules number called caller format now).leg
call-sends rules number called caller format now = (Some _, refl)
