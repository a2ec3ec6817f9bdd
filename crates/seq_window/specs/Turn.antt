-- The entries that one step of a leg adds to its record ("Message Transport").
use Rattle.std.specs.Prelude.{ℕ, ◌+◌, nat_le, List, [], ◌∷◌, ◌++◌, length, Bool, Option, None, Some, if◌then◌else◌}
use Rattle.iax_frames.specs.declared.stored_frame.Frame.{Frame}
use Rattle.seq_window.specs.declared.judgements.Received.{Received}
use Rattle.seq_window.specs.Entry.{Entry, Sent}
use Rattle.seq_window.specs.Window.{judged_acknowledgement, judged_number, count_of, entries_for_count, entries_for_number}

-- the record with further entries, if they fit
abbrev pub extended : ℕ → List Entry → List Entry → List Entry
extended limit entries more =
    if nat_le (length entries + length more) limit then entries ++ more else entries

-- the actions of a leg for one full frame, an order or a tick
pub record Turn : Type 0 where
  -- it judges the acknowledgement
  pub acknowledges : Bool
  -- it judges the number, if there is one
  pub receives : Bool
  -- it sends this frame, numbered
  pub reply : Option Frame

-- the entry for the acknowledgement of a full frame with this ISeqno
abbrev pub entries_for_acknowledgement : List Entry → ℕ → List Entry
entries_for_acknowledgement history iseq = entries_for_count (count_of (judged_acknowledgement history iseq))

-- the entry for a frame that is numbered, or for none
abbrev pub entries_for_frame : Received → Option Frame → List Entry
entries_for_frame judged None = []
entries_for_frame judged (Some frame) = entries_for_number judged frame

abbrev pub entries_for_reply : Option Frame → List Entry
entries_for_reply None = []
entries_for_reply (Some frame) = Sent frame ∷ []

-- The entries that a full frame with these octets adds to a record: an acknowledgement, then a taken frame, then a sent
-- one, each at most once.
abbrev pub entries_in_turn : List Entry → ℕ → ℕ → Option Frame → Turn → List Entry
entries_in_turn history iseq oseq frame turn =
    (if turn.acknowledges then entries_for_acknowledgement history iseq else [])
    ++ (if turn.receives then entries_for_frame (judged_number history oseq) frame else [])
    ++ entries_for_reply turn.reply
