-- A window, and the effect of its calls ("Message Transport").
use Rattle.std.specs.Prelude.{ℕ, zero, suc, ◌+◌, ◌-◌, ◌<◌, ◌^◌, ◌&&◌, Bool, Option, None, Some, slice_get, map, position, min}
use Rattle.std.specs.Prelude.{List, [], ◌∷◌, ◌++◌, length, drop, nat_eq, nat_le, if◌then◌else◌}
use Rattle.iax_frames.specs.declared.stored_frame.Frame.{Frame}
use Rattle.resend_queue.specs.declared.held_frame.Held.{Held}
use Rattle.seq_window.specs.Entry.{Entry, Sent, Acked, Taken}
use Rattle.seq_window.specs.declared.judgements.Received.{Received}
use Rattle.seq_window.specs.declared.judgements.Received.TheVariants as received
use Rattle.seq_window.specs.declared.judgements.Acknowledged.{Acknowledged}
use Rattle.seq_window.specs.declared.judgements.Acknowledged.TheVariants as acknowledged
use Rattle.seq_window.specs.declared.judgements.Resent.{Resent}
use Rattle.seq_window.specs.declared.judgements.Resent.TheVariants as resents
use Rattle.seq_window.specs.History.{sent_count, taken_count, acked_count, held}
use Rattle.seq_window.specs.Sequence.{byte_of, acknowledgement_byte_judged, number_byte_judged}

-- the moment at which a held frame was last sent, and the number of times that it was retransmitted because it was due
pub record Sending : Type 0 where
  pub last : ℕ
  pub tries : ℕ

-- The record, its limits, and the sending of each held frame. The held frames and their numbers follow from the record.
pub record WindowState : Type 0 where
  pub history : List Entry
  pub width : ℕ
  pub limit : ℕ
  pub sendings : List Sending

-- and the number of entries that the record takes without further memory
pub record Window : Type 0 where
  pub state : WindowState
  pub spare : ℕ

abbrev pub held_count : WindowState → ℕ
held_count w = length w.sendings

abbrev pub entry_count : WindowState → ℕ
entry_count w = length w.history

-- as many frames are held as may be
abbrev pub is_full : WindowState → Bool
is_full w = nat_le w.width (held_count w)

-- ---- sending

abbrev pub after_sending : WindowState → Frame → ℕ → WindowState
after_sending w frame now = record w {
  history = w.history ++ Sent frame ∷ [];
  sendings = w.sendings ++ record { last = now; tries = 0 } ∷ [];
}

-- ---- acknowledgement

-- the next number that the other side expects, by an octet
abbrev pub judged_acknowledgement : List Entry → ℕ → Acknowledged
judged_acknowledgement history byte = acknowledgement_byte_judged (acked_count history) (sent_count history) byte

-- the number of frames that it removes
abbrev pub count_of : Acknowledged → ℕ
count_of (acknowledged.Acked count) = count
count_of acknowledged.Ignored = 0

-- the entry for it: none if it removes no frame
abbrev pub entries_for_count : ℕ → List Entry
entries_for_count count = if nat_eq count 0 then [] else Acked count ∷ []

abbrev pub after_count : WindowState → ℕ → WindowState
after_count w count = record w { history = w.history ++ entries_for_count count; sendings = drop count w.sendings }

abbrev pub after_acknowledgement : WindowState → ℕ → WindowState
after_acknowledgement w byte = after_count w (count_of (judged_acknowledgement w.history byte))

-- ---- taking

-- the judgement of a numbered frame with this octet of its number
abbrev pub judged_number : List Entry → ℕ → Received
judged_number history byte = number_byte_judged (taken_count history) byte

-- the entry for a numbered frame: only one that is taken has one
abbrev pub entries_for_number : Received → Frame → List Entry
entries_for_number received.Taken frame = Taken frame ∷ []
entries_for_number received.Repeat frame = []
entries_for_number received.Gap frame = []

abbrev pub after_receiving : WindowState → ℕ → Frame → WindowState
after_receiving w byte frame = record w { history = w.history ++ entries_for_number (judged_number w.history byte) frame }

-- ---- retransmission

-- frames with their sendings, each under the octet of its number
abbrev pub numbered_from : ℕ → List Frame → List Sending → List (Held Frame)
numbered_from first [] sendings = []
numbered_from first (frame ∷ frames) [] = []
numbered_from first (frame ∷ frames) (s ∷ sendings) =
    record { number = byte_of first; frame = frame; last = s.last; tries = s.tries } ∷ numbered_from (first + 1) frames sendings

-- the held frames, the oldest first: those that the record has as sent and not acknowledged
abbrev pub held_frames : WindowState → List (Held Frame)
held_frames w = numbered_from (acked_count w.history) (held w.history) w.sendings

abbrev pub held_at : WindowState → ℕ → Option (Held Frame)
held_at w place = slice_get (held_frames w) place

-- retransmitted, which is no try
abbrev pub touched : ℕ → Sending → Sending
touched now s = record { last = now; tries = s.tries }

-- .. with one try fewer, so that the next try replaces one before
abbrev pub hastened : ℕ → Sending → Sending
hastened moment s = record { last = moment; tries = s.tries - 1 }

-- the one at a place changed
abbrev pub change_at : (Sending → Sending) → ℕ → List Sending → List Sending
change_at change place [] = []
change_at change zero (s ∷ sendings) = change s ∷ sendings
change_at change (suc place) (s ∷ sendings) = s ∷ change_at change place sendings

abbrev pub after_hastening : WindowState → ℕ → ℕ → WindowState
after_hastening w place moment = record w { sendings = change_at (hastened moment) place w.sendings }

abbrev pub after_touching_all : WindowState → ℕ → WindowState
after_touching_all w now = record w { sendings = map (touched now) w.sendings }

-- ---- tries

-- it was last sent at least this long ago
abbrev pub is_due : ℕ → ℕ → Sending → Bool
is_due now retry_ms s = nat_le s.last now && nat_le retry_ms (now - s.last)

abbrev pub first_due : ℕ → ℕ → List Sending → Option ℕ
first_due now retry_ms sendings = position (is_due now retry_ms) sendings

abbrev pub tries_at : ℕ → List Sending → ℕ
tries_at place [] = 0
tries_at zero (s ∷ sendings) = s.tries
tries_at (suc place) (s ∷ sendings) = tries_at place sendings

-- retransmitted as one more try, of at most 2 ^ 32 - 1
abbrev pub marked : ℕ → Sending → Sending
marked now s = record { last = now; tries = min (s.tries + 1) (2 ^ 32 - 1) }

abbrev pub mark_at : ℕ → ℕ → List Sending → List Sending
mark_at place now sendings = change_at (marked now) place sendings

abbrev pub after_marking : WindowState → ℕ → ℕ → WindowState
after_marking w place now = record w { sendings = mark_at place now w.sendings }

-- the first due frame is retransmitted, if it has tries left
abbrev pub resent_if : Option ℕ → WindowState → ℕ → Resent
resent_if None w max_retries = resents.Nothing
resent_if (Some place) w max_retries = if nat_le max_retries (tries_at place w.sendings) then
    resents.Spent else resents.Again place

abbrev pub resent : WindowState → ℕ → ℕ → ℕ → Resent
resent w now retry_ms max_retries = resent_if (first_due now retry_ms w.sendings) w max_retries

abbrev pub after_resent : Resent → WindowState → ℕ → WindowState
after_resent resents.Nothing w now = w
after_resent (resents.Again place) w now = after_marking w place now
after_resent resents.Spent w now = w

abbrev pub IsPlaceBelow : ℕ → Resent → Type 0
IsPlaceBelow count resents.Nothing = Unit {0}
IsPlaceBelow count (resents.Again place) = place < count
IsPlaceBelow count resents.Spent = Unit {0}
