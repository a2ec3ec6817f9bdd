-- The layout of a window in memory.
use Rattle.std.specs.Prelude.{◌≡◌, ℕ, ◌+◌, ◌≤◌, List, [], ◌∷◌, map, Some, slice_get}
use Rattle.iax_frames.specs.declared.stored_frame.Frame.{Frame}
use Rattle.resend_queue.specs.declared.held_frame.Held.{Held}
use Rattle.seq_window.specs.declared.sliding_window.Window.TheInside.{Inside}
use Rattle.seq_window.specs.Entry.{Entry, Sent}
use Rattle.seq_window.specs.History.{sent_count, taken_count, acked_count, held, IsLegal}
use Rattle.seq_window.specs.Sequence.{byte_of}
use Rattle.seq_window.specs.Window.{Sending, Window}

abbrev pub sending_of : Held ℕ → Sending
sending_of h = record { last = h.last; tries = h.tries }

-- These are kept for those frames, whose numbers begin at first: each has the place of its frame's entry.
abbrev pub AreHeld : List Entry → ℕ → List (Held ℕ) → List Frame → Type 0
AreHeld entries first [] [] = Unit {0}
AreHeld entries first [] (frame ∷ frames) = ⊥
AreHeld entries first (h ∷ hs) [] = ⊥
AreHeld entries first (h ∷ hs) (frame ∷ frames) =
    (h.number ≡ byte_of first) × (slice_get entries h.frame ≡ Some (Sent frame)) × AreHeld entries (first + 1) hs frames

abbrev pub window_of : Inside → Window
window_of w = record {
  state = record {
    history = w.history.entries;
    width = w.width;
    limit = w.limit;
    sendings = map sending_of w.held.held;
  };
  spare = w.history.spare;
}

-- the widths and limits that a window may have
pub record IsWithinBounds (width limit : ℕ) : Type 0 where
  pub some : 1 ≤ width
  pub narrow : width ≤ 127
  pub least : 64 ≤ limit
  pub most : limit ≤ 65536

pub record IsSound (w : Inside) : Type 0 where
  pub legal : IsLegal w.width w.limit w.history.entries
  pub kept : AreHeld w.history.entries (acked_count w.history.entries) w.held.held (held w.history.entries)
  pub next : w.next ≡ byte_of (sent_count w.history.entries)
  pub oldest : w.oldest ≡ byte_of (acked_count w.history.entries)
  pub expected : w.expected ≡ byte_of (taken_count w.history.entries)
  pub bounds : IsWithinBounds w.width w.limit
  pub room : w.held.width ≡ w.width
