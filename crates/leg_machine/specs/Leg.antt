-- A leg of a call, as its steps use it ("IAX Frames", "Message Transport").
use Rattle.std.specs.Prelude.{ℕ, ◌+◌, ◌-◌, ◌/◌, ◌%◌, ◌^◌, ◌≤◌, Bool, true, false, ◌||◌, ◌&&◌, not, nat_le, nat_lt, is_none}
use Rattle.std.specs.Prelude.{is_some, List, Option, None, Some, if◌then◌else◌, unwrap_or}
use Rattle.seq_window.specs.History.{data_octets}
use Rattle.seq_window.specs.Window.{WindowState, entry_count}
use Rattle.call_signals.specs.declared.cause.Cause.{Cause}
use Rattle.call_signals.specs.Endings.{failure_cause}
use Rattle.call_signals.specs.declared.failure.Failure.{Failure}
use Rattle.call_signals.specs.declared.format.Format.{Format}
use Rattle.call_signals.specs.declared.format.Formats.{Formats}
use Rattle.call_signals.specs.declared.rules.PeerRules.{PeerRules}
use Rattle.call_signals.specs.declared.stage.Stage.{Stage}
use Rattle.call_signals.specs.declared.failure.Failure.TheVariants as failures
use Rattle.call_signals.specs.declared.stage.Stage.TheVariants.{Challenged, Ended}
use Rattle.leg_machine.specs.declared.machine.AnsweredVnak.{AnsweredVnak}
use Rattle.leg_machine.specs.declared.machine.Machine.{Machine}
use Rattle.call_signals.specs.declared.moments.Moments.{Moments}
use Rattle.call_signals.specs.Stage.{is_ended, is_offered, is_over, is_talking, is_up}

pub record LegState : Type 0 where
  pub rules : PeerRules
  -- the local number, and the moment of the opening
  pub number : ℕ
  pub opened : ℕ
  pub stage : Stage
  pub format : Format
  -- the other side's number, once it is known
  pub remote : Option ℕ
  -- The other side knows the leg's number: a numbered frame with it was taken.
  pub is_named : Bool
  -- the other side acknowledged a numbered frame
  pub is_acknowledged : Bool
  -- the layer above isn't done with the end of the call
  pub owes : Bool
  -- to be hung up by a tick
  pub doomed : Bool
  -- the cause of its end, or of the hang-up that is due
  pub cause : Cause
  -- the other side quelched media
  pub quelched : Bool
  -- the challenge that was sent
  pub challenge : Option (List ℕ)
  -- an AUTHREQ was answered
  pub authenticated : Bool
  -- the formats of which a voice frame was taken, in any stage
  pub voice_taken : Formats
  -- the timestamp of the last voice frame that was sent
  pub voice_sent : Option ℕ
  -- the moment of the last PING, or of the opening
  pub pinged : ℕ
  -- the moment of the last VNAK, until a frame is taken: the next gap is then another one
  pub vnak_sent : Option ℕ
  -- the VNAK of the other side that was answered last
  pub vnak_answered : Option AnsweredVnak
  -- the failure that ended it, if no HANGUP or REJECT did
  pub failure : Option Failure
  -- the number of retransmitted full frames, modulo 2 ^ 64
  pub resent : ℕ
  -- when the call was offered, accepted, answered and over
  pub moments : Moments
  -- the record, and when each held frame was last sent
  pub window : WindowState

-- and the number of entries that its record takes without further memory
pub record Leg : Type 0 where
  pub state : LegState
  pub spare : ℕ

-- the leg without the memory that its record has left
abbrev pub leg_of : Machine → LegState
leg_of m = record {
  rules = m.rules;
  number = m.number;
  opened = m.opened;
  stage = m.stage;
  format = m.format;
  remote = m.remote;
  is_named = m.is_named;
  is_acknowledged = m.is_acknowledged;
  owes = m.owes;
  doomed = m.doomed;
  cause = m.cause;
  quelched = m.quelched;
  challenge = m.challenge;
  authenticated = m.authenticated;
  voice_taken = m.voice_taken;
  voice_sent = m.voice_sent;
  pinged = m.pinged;
  vnak_sent = m.vnak_sent;
  vnak_answered = m.vnak_answered;
  failure = m.failure;
  resent = m.resent;
  moments = m.moments;
  window = m.window.state;
}

abbrev pub whole_leg : Machine → Leg
whole_leg m = record { state = leg_of m; spare = m.window.spare }

-- the entries that fit in the memory of a leg's record: those that it has, and the spare ones
abbrev pub capacity_of : Leg → ℕ
capacity_of leg = entry_count leg.state.window + leg.spare

-- A leg changes its stage. It owes once it enters the first stage that is Closing or Ended.
abbrev pub staged : LegState → Stage → LegState
staged leg stage = record leg {
  stage = stage;
  owes = leg.owes || (is_over stage && not (is_over leg.stage));
}

-- the moment at which something was reached first
abbrev pub first_at : Bool → Option ℕ → ℕ → Option ℕ
first_at reached before now = if reached then Some (unwrap_or before now) else before

-- Only the called side accepts and answers a call. If the call was offered, that is the layer above by orders; otherwise it
-- is the other side by its frames.
abbrev pub is_of_called : Bool → Moments → Bool
is_of_called ordered moments = if ordered then is_some moments.offered else is_none moments.offered

-- the moments of a leg that enters a stage at this one, by an order, or by a frame or a tick
abbrev pub noted : Bool → Moments → Stage → ℕ → Moments
noted ordered moments stage now = record {
  offered = first_at (is_offered stage) moments.offered now;
  accepted = first_at (is_talking stage && is_of_called ordered moments) moments.accepted now;
  answered = first_at (is_up stage && is_of_called ordered moments) moments.answered now;
  over = first_at (is_over stage) moments.over now;
}

-- A leg enters a stage by a frame or a tick, and notes the moment if it is the first such.
abbrev pub entered : LegState → Stage → ℕ → LegState
entered leg stage now = record (staged leg stage) { moments = noted false leg.moments stage now }

-- .. and by an order
abbrev pub obeyed : LegState → Stage → ℕ → LegState
obeyed leg stage now = record (staged leg stage) { moments = noted true leg.moments stage now }

-- The leg ends because it can't continue. A leg that had ended keeps its failure.
abbrev pub failed : LegState → Failure → ℕ → LegState
failed leg why now = record (entered leg Ended now) {
  failure = if is_ended leg.stage then leg.failure else Some why;
  cause = if leg.rules.carries_cause && not (is_over leg.stage) then failure_cause why else leg.cause;
}

-- this many further full frames were retransmitted
abbrev pub resent_by : LegState → ℕ → LegState
resent_by leg frames = record leg { resent = (leg.resent + frames) % 2 ^ 64 }

abbrev pub with_window : LegState → WindowState → LegState
with_window leg window = record leg { window = window }

-- While fewer frames than this are held, the leg sends frames that no frame of the other side asks for.
abbrev pub local_room : ℕ → ℕ
local_room width = width - width / 4

-- ---- when a record is full

-- more octets of data than a rule allows, if there is one
abbrev pub exceeds : Option ℕ → ℕ → Bool
exceeds None octets = false
exceeds (Some most) octets = nat_lt most octets

-- fewer than four entries are free
abbrev pub is_short_of_entries : LegState → Bool
is_short_of_entries leg = nat_lt leg.window.limit (entry_count leg.window + 4)

-- fewer octets of data are left than a full frame and its answer may have: 1,388 each
abbrev pub is_short_of_octets : LegState → Bool
is_short_of_octets leg = exceeds leg.rules.record_octets (data_octets leg.window.history + 2776)

abbrev pub is_challenged : Stage → Bool
is_challenged Challenged = true
is_challenged _ = false

-- The other side of a leg that waits for the answer to its challenge isn't known. So the leg's record has at most 32
-- entries and 4,096 octets of data. Of these, 1,388 are reserved for a full frame, and 64 for its answer.
abbrev pub has_heard_enough : LegState → Bool
has_heard_enough leg =
    is_challenged leg.stage && is_some leg.rules.challenge_ms
    && (nat_lt 32 (entry_count leg.window + 4) || nat_lt 4096 (data_octets leg.window.history + 1452))

-- The record has no room for one more full frame and the entries that follow from it.
abbrev pub is_record_full : LegState → Bool
is_record_full leg = is_short_of_entries leg || is_short_of_octets leg || has_heard_enough leg

-- ---- when a leg ends without a frame or an order

-- this many milliseconds are over since a moment
abbrev pub is_over_since : Option ℕ → ℕ → ℕ → Bool
is_over_since None since now = false
is_over_since (Some ms) since now = nat_le (since + ms) now

-- its challenge wasn't answered in time
abbrev pub is_overdue : LegState → ℕ → Bool
is_overdue leg now = is_challenged leg.stage && is_over_since leg.rules.challenge_ms leg.opened now

-- the leg can't continue, or may not
abbrev pub must_end : LegState → ℕ → Bool
must_end leg now = is_record_full leg || is_overdue leg now

-- .. and the reason
abbrev pub end_failure : LegState → Failure
end_failure leg = if is_record_full leg then failures.RecordFull else failures.ChallengeTimeout

-- this many entries fit without further memory
pub record HasRoom (entries : ℕ) (m : Machine) : Type 0 where
  pub limit : entry_count m.window.state + entries ≤ m.window.state.limit
  pub spare : entries ≤ m.window.spare
