-- The frames that were sent, acknowledged and taken, by the record of a leg ("Message Transport").
use Rattle.std.specs.Prelude.{ℕ, ◌+◌, ◌≤◌, List, [], ◌∷◌, length, take, drop, All, sum_by}
use Rattle.iax_frames.specs.declared.stored_frame.Frame.{Frame}
use Rattle.seq_window.specs.Entry.{Entry, Sent, Acked, Taken}

-- The frames that were sent with a number, in order. The n-th has the sequence number n, counted from 0 without end.
abbrev pub sent : List Entry → List Frame
sent [] = []
sent (Sent frame ∷ entries) = frame ∷ sent entries
sent (Acked count ∷ entries) = sent entries
sent (Taken frame ∷ entries) = sent entries

-- the frames that were taken from the other side, in order
abbrev pub taken : List Entry → List Frame
taken [] = []
taken (Sent frame ∷ entries) = taken entries
taken (Acked count ∷ entries) = taken entries
taken (Taken frame ∷ entries) = frame ∷ taken entries

abbrev pub sent_count : List Entry → ℕ
sent_count history = length (sent history)

abbrev pub taken_count : List Entry → ℕ
taken_count history = length (taken history)

-- the number of sent frames that were acknowledged
abbrev pub acked_count : List Entry → ℕ
acked_count [] = 0
acked_count (Sent frame ∷ entries) = acked_count entries
acked_count (Acked count ∷ entries) = count + acked_count entries
acked_count (Taken frame ∷ entries) = acked_count entries

-- the octets of data in an entry's frame
abbrev pub data_len : Entry → ℕ
data_len (Sent frame) = length frame.payload
data_len (Acked count) = 0
data_len (Taken frame) = length frame.payload

-- .. and in all frames
abbrev pub data_octets : List Entry → ℕ
data_octets history = sum_by data_len history

-- the held frames: those that were sent and not yet acknowledged, in order. The first has the number acked_count.
abbrev pub held : List Entry → List Frame
held history = drop (acked_count history) (sent history)

-- an entry for an acknowledgement removes a frame
abbrev pub AcksSome : Entry → Type 0
AcksSome (Sent frame) = Unit {0}
AcksSome (Acked count) = 1 ≤ count
AcksSome (Taken frame) = Unit {0}

-- no more is acknowledged than was sent, and no more is held than the window is wide
pub record IsWithinWindow (width : ℕ) (history : List Entry) : Type 0 where
  pub acked : acked_count history ≤ sent_count history
  pub held : sent_count history ≤ acked_count history + width

-- a record that a window may have: at each moment so far it was within the window
pub record IsLegal (width limit : ℕ) (history : List Entry) : Type 0 where
  pub some_acked : All AcksSome history
  pub at_each_moment : (moment : ℕ) → IsWithinWindow width (take moment history)
  pub within_limit : length history ≤ limit
