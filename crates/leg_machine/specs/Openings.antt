-- How a leg begins: the rows of a NEW that comes, and a NEW that is sent ("Call Setup").
pub use Rattle.call_signals.specs.Openings.{bits_in, has_bit, is_common, common_formats, chosen_format, call_format}
pub use Rattle.call_signals.specs.Openings.{offered_formats, is_version_2, opening_of, opening_effect, challenge_sent}
use Rattle.std.specs.Prelude.{ℕ, false, List, [], ◌∷◌, Option, None, Some, unwrap_or}
use Rattle.iax_frames.specs.FullFrame.{FullFrame}
use Rattle.info_elements.specs.Element.{elements_of, last_of}
use Rattle.info_elements.specs.Numbers.{CALLED_NUMBER, CALLING_NUMBER}
use Rattle.seq_window.specs.Entry.{Entry, Sent, Acked, Taken}
use Rattle.leg_machine.specs.Leg.{LegState}
use Rattle.leg_machine.specs.Replies.{new_frame, outgoing, next_byte}
use Rattle.leg_machine.specs.Steps.{Step, taken_step}
use Rattle.leg_machine.specs.Working.{no_formats, sent}
use Rattle.call_signals.specs.Caller.{caller_by}
use Rattle.call_signals.specs.NewElements.{new_elements}
use Rattle.call_signals.specs.declared.cause.Cause.TheVariants.{NormalClearing}
use Rattle.call_signals.specs.declared.format.Format.{Format}
use Rattle.call_signals.specs.declared.format.Formats.{Formats}
use Rattle.call_signals.specs.declared.format.Format.TheVariants.{Gsm}
use Rattle.call_signals.specs.declared.message.Message.TheVariants.{New}
use Rattle.call_signals.specs.declared.outcomes.Judged.TheVariants.{Unnumbered}
use Rattle.call_signals.specs.declared.rules.PeerRules.{PeerRules}
use Rattle.call_signals.specs.declared.stage.Stage.TheVariants as stages

-- ---- the leg before its first frame

abbrev pub leg_for_call : PeerRules → ℕ → Format → ℕ → LegState
leg_for_call rules number format now = record {
  rules = rules;
  number = number;
  opened = now;
  stage = stages.Waiting;
  format = format;
  remote = None;
  is_named = false;
  is_acknowledged = false;
  owes = false;
  doomed = false;
  cause = NormalClearing;
  quelched = false;
  challenge = None;
  authenticated = false;
  voice_taken = no_formats;
  voice_sent = None;
  pinged = now;
  vnak_sent = None;
  vnak_answered = None;
  failure = None;
  resent = 0;
  moments = record { offered = None; accepted = None; answered = None; over = None };
  window = record { history = []; width = rules.window; limit = rules.record_limit; sendings = [] };
}

-- The other side's number is known, and the challenge is the one that is sent.
abbrev pub leg_for_new : PeerRules → ℕ → FullFrame → ℕ → List ℕ → LegState
leg_for_new rules number frame now challenge = record (leg_for_call rules number (unwrap_or (call_format rules.formats frame) Gsm)
    now) {
      stage = stages.Offered;
      remote = Some frame.head.source;
      challenge = challenge_sent (opening_of rules frame) challenge;
    }

-- a NEW comes
abbrev pub open_in_step : PeerRules → ℕ → FullFrame → ℕ → List ℕ → Step
open_in_step rules number frame now challenge =
    taken_step (opening_effect (opening_of rules frame)) (leg_for_new rules number frame now challenge) frame New now

-- a NEW is sent
abbrev pub open_out_step : PeerRules → ℕ → List ℕ → List ℕ → Format → ℕ → Step
open_out_step rules number called caller format now =
    let leg = leg_for_call rules number format now in
    let frame = new_frame leg now called caller in
    record {
      leg = sent leg frame now;
      replies = outgoing leg false (next_byte leg) frame ∷ [];
      judged = Unnumbered;
      signal = None;
    }

-- ---- what an offer asks for

-- the data of the NEW that opened a leg: its record begins with it
abbrev pub opening_data : List Entry → List ℕ
opening_data [] = []
opening_data (Taken frame ∷ entries) = frame.payload
opening_data (Sent frame ∷ entries) = []
opening_data (Acked count ∷ entries) = []

-- the data of the NEW with which a call began, whichever side sent it
abbrev pub new_data : List Entry → List ℕ
new_data [] = []
new_data (Taken frame ∷ entries) = frame.payload
new_data (Sent frame ∷ entries) = frame.payload
new_data (Acked count ∷ entries) = []

-- the called number, or the empty text if it is absent
abbrev pub called_of : LegState → List ℕ
called_of leg = unwrap_or (last_of CALLED_NUMBER (elements_of (opening_data leg.window.history))) []

-- the calling number
abbrev pub calling_of : LegState → Option (List ℕ)
calling_of leg = last_of CALLING_NUMBER (elements_of (opening_data leg.window.history))

-- .. and the other facts about the caller that are carried on
abbrev pub caller_of : LegState → List ℕ
caller_of leg = caller_by leg.rules.carries_caller (new_elements (opening_data leg.window.history))

-- .. and the formats that the call may have
abbrev pub formats_of : LegState → Formats
formats_of leg = offered_formats leg.rules (new_elements (opening_data leg.window.history)) leg.format
