-- Media at a leg ("Mini Frames", "Voice Frames").
use Rattle.std.specs.Prelude.{ℕ, ◌/◌, ◌%◌, ◌^◌, ◌≡◌, ◌+◌, length, ◌==◌, ◌&&◌, not, Bool, true, false, List, [], ◌∷◌, Option, None}
use Rattle.std.specs.Prelude.{Some, if◌then◌else◌}
use Rattle.iax_frames.specs.FullFrame.{FullFrame}
use Rattle.leg_machine.specs.LegTable.{is_media}
use Rattle.leg_machine.specs.Leg.{LegState}
use Rattle.leg_machine.specs.Replies.{present_of, voice_frame, outgoing, next_byte}
use Rattle.call_signals.specs.Format.{has_format}
use Rattle.call_signals.specs.Signal.{span_len}
use Rattle.call_signals.specs.Stage.{is_talking}
use Rattle.leg_machine.specs.Working.{sent}
use Rattle.leg_machine.specs.declared.media.MediaSent.{MediaSent}
use Rattle.leg_machine.specs.declared.media.MediaSent.TheVariants.{Quelched, Voice, Mini}
use Rattle.call_signals.specs.declared.signal.MediaSpan.{MediaSpan}
use Rattle.call_signals.specs.declared.signal.Signal.{Signal}
use Rattle.call_signals.specs.declared.signal.Signal.TheVariants as signals

-- a voice frame of the format that the call has now was taken
abbrev pub took_voice : LegState → Bool
took_voice leg = has_format leg.voice_taken leg.format

-- media of the other side counts in a talking leg that took voice of the call's format
abbrev pub accepts_media : LegState → MediaSpan → Bool
accepts_media leg span = is_talking leg.stage && took_voice leg && is_media (span_len span)

-- media that a full frame hands up is all of its data, 1 to 1,380 octets behind the head's twelve
abbrev pub IsMediaOf : FullFrame → Option Signal → Type 0
IsMediaOf frame (Some (signals.Media span)) =
    (span ≡ record { start = 12; end = 12 + length frame.payload }) × (is_media (length frame.payload) ≡ true)
IsMediaOf frame signal = Unit {0}

-- the high halves of two timestamps differ, or there is no last one
abbrev pub is_other_half : Option ℕ → ℕ → Bool
is_other_half None present = true
is_other_half (Some last) present = not (present / 2 ^ 16 == last / 2 ^ 16)

-- the first media, and the first of each 2 ^ 16 milliseconds, is sent as a full frame
abbrev pub is_voice_due : LegState → ℕ → Bool
is_voice_due leg now = is_other_half leg.voice_sent (present_of leg now)

-- how media is sent
abbrev pub media_sent : LegState → ℕ → MediaSent
media_sent leg now =
    if leg.quelched then Quelched
    else if is_voice_due leg now then Voice
    else Mini (present_of leg now % 2 ^ 16)

abbrev pub after_media : MediaSent → LegState → List ℕ → ℕ → LegState
after_media Quelched leg media now = leg
after_media Voice leg media now = record (sent leg (voice_frame leg now media) now) { voice_sent = Some (present_of leg now) }
after_media (Mini timestamp) leg media now = leg

-- the full frames that are sent
abbrev pub media_frames : MediaSent → LegState → List ℕ → ℕ → List FullFrame
media_frames Quelched leg media now = []
media_frames Voice leg media now = outgoing leg false (next_byte leg) (voice_frame leg now media) ∷ []
media_frames (Mini timestamp) leg media now = []
