-- The invariant of a network under fresh actions.
use Rattle.std.proofs.Common.{◌≡◌, ℕ, zero, suc, ◌+◌, ◌<◌, ◌≤◌, List, [], ◌∷◌, ◌++◌, length, Some, slice_get, ap, sym, ◌∙◌, subst}
use Rattle.std.proofs.Common.{arith, append-nil, append_assoc, length-append}
use Rattle.iax_frames.specs.declared.stored_frame.Frame.{Frame}
use Rattle.seq_window.specs.Entry.{Entry, Sent, Acked as EntryAcked, Taken as EntryTaken}
use Rattle.seq_window.specs.History.{sent, taken, sent_count, taken_count, acked_count, held, IsWithinWindow, IsLegal}
use Rattle.seq_window.specs.Network.{Datagram, Side, IsPrefixOf, TakesInOrder, AcksTaken}
use Rattle.seq_window.proofs.Places.{slice_get-append, next_after}
use Rattle.seq_window.proofs.Records.{sent-append, taken-append, acked_count-append, taken_count-append, legal_now, legal_sent}
use Rattle.seq_window.proofs.Records.{legal_acked, legal_taken, length-held}

-- a datagram that a side with this record may have sent
pub record IsOwn (entries : List Entry) (datagram : Datagram) : Type 0 where
  pub acknowledgement : datagram.acknowledgement ≤ taken_count entries
  pub frame : (frame : Frame) → datagram.frame ≡ Some frame → slice_get (sent entries) datagram.number ≡ Some frame

pub record IsSound (own : Side) : Type 0 where
  pub width : own.width ≤ 127
  pub legal : IsLegal own.width own.limit own.history
  pub datagrams : (which : ℕ) (datagram : Datagram) → slice_get own.datagrams which ≡ Some datagram → IsOwn own.history datagram

-- one of two sides that are in step: it is sound, the other takes its frames in order, and had each frame that counts as
-- acknowledged
pub record IsFollowed (own other : Side) : Type 0 where
  pub sound : IsSound own
  pub takes : TakesInOrder own other
  pub acks : AcksTaken own other

pub record IsInStep (own other : Side) : Type 0 where
  pub forth : IsFollowed own other
  pub back : IsFollowed other own

pub in_step_turned : {own other : Side} → IsInStep own other → IsInStep other own
in_step_turned s = record { forth = s.back; back = s.forth }

-- a datagram that was sent stays one that the side may have sent
pub own_stays : (entries more : List Entry) (datagram : Datagram) → IsOwn entries datagram → IsOwn (entries ++ more) datagram
own_stays entries more datagram own = record {
  acknowledgement = omega (arith, own.acknowledgement, taken_count-append entries more);
  frame = λ frame is. rw sent-append (slice_get-append (sent entries) (sent more) datagram.number frame (own.frame frame is));
}

-- one more entry
abbrev pub with_entry : Side → Entry → Side
with_entry own entry = record own { history = own.history ++ entry ∷ [] }

pub sound_with_entry : (own : Side) (entry : Entry) → IsSound own → IsLegal own.width own.limit (own.history ++ entry ∷ [])
    → IsSound (with_entry own entry)
sound_with_entry own entry sound legal = record {
  width = sound.width;
  legal = legal;
  datagrams = λ which datagram at. own_stays own.history (entry ∷ []) datagram (sound.datagrams which datagram at);
}

-- one more datagram
abbrev pub with_datagram : Side → Datagram → Side
with_datagram own datagram = record own { datagrams = datagram ∷ own.datagrams }

pub sound_with_datagram : (own : Side) (sent : Datagram) → IsSound own → IsOwn own.history sent → IsSound (with_datagram own sent)
sound_with_datagram own sent sound is_own = record {
  width = sound.width;
  legal = sound.legal;
  datagrams = which_one;
}
  where
    which_one : (which : ℕ) (datagram : Datagram) → slice_get (sent ∷ own.datagrams) which ≡ Some datagram
        → IsOwn own.history datagram
    which_one zero datagram at = let same : sent ≡ datagram = cc in subst (IsOwn own.history) same is_own
    which_one (suc which) datagram at = sound.datagrams which datagram at

-- a beginning of a list begins each longer one
pub prefix_stays : (frames all more : List Frame) → IsPrefixOf frames all → IsPrefixOf frames (all ++ more)
prefix_stays frames all more (rest, is) = (rest ++ more, sym (append_assoc frames rest more) ∙ ap (λ l. l ++ more) is)

pub prefix_more : (frames all : List Frame) (frame : Frame) → IsPrefixOf frames all → slice_get all (length frames) ≡ Some frame
    → IsPrefixOf (frames ++ frame ∷ []) all
prefix_more frames all frame (rest, is) at =
    let there : slice_get (frames ++ rest) (length frames) ≡ Some frame = ap (λ l. slice_get l (length frames)) is ∙ at in
    let (more, next) = next_after frames rest frame there in
    (more, append_assoc frames (frame ∷ []) more ∙ sym (ap (λ l. frames ++ l) next) ∙ is)

pub prefix_length : (frames all : List Frame) → IsPrefixOf frames all → length frames ≤ length all
prefix_length frames all (rest, is) = omega (arith, length-append frames rest, ap length is)

-- the sent, taken and acknowledged frames after a side's own new entry
module _ (own other : Side) where
  -- the side sends a frame
  pub sent_in_step : (frame : Frame) → IsInStep own other → length (held own.history) < own.width → length own.history < own.limit
      → IsInStep (with_entry own (Sent frame)) other
  sent_in_step frame s room_to_hold room =
      let within : IsWithinWindow own.width own.history = legal_now own.width own.limit own.history s.forth.sound.legal in
      record {
        forth = record {
          sound = sound_with_entry own (Sent frame) s.forth.sound
              (legal_sent own.width own.limit own.history frame s.forth.sound.legal
              (omega (arith, within.acked, length-held own.history)) room);
          takes = rw (sent-append own.history (Sent frame ∷ [])) (prefix_stays (taken other.history) (sent own.history)
              (frame ∷ []) s.forth.takes);
          acks = omega (arith, s.forth.acks, acked_count-append own.history (Sent frame ∷ []));
        };
        back = record {
          sound = s.back.sound;
          takes = rw (taken-append own.history (Sent frame ∷ []), append-nil) s.back.takes;
          acks = omega (arith, s.back.acks, taken_count-append own.history (Sent frame ∷ []));
        };
      }

  -- an acknowledgement counts
  pub acked_in_step : (count : ℕ) → IsInStep own other → 1 ≤ count
      → acked_count own.history + count ≤ sent_count own.history → acked_count own.history + count ≤ taken_count other.history
      → length own.history < own.limit → IsInStep (with_entry own (EntryAcked count)) other
  acked_in_step count s some in_sent in_taken room =
      record {
        forth = record {
          sound = sound_with_entry own (EntryAcked count) s.forth.sound
              (legal_acked own.width own.limit own.history count s.forth.sound.legal some in_sent room);
          takes = rw (sent-append own.history (EntryAcked count ∷ []), append-nil) s.forth.takes;
          acks = omega (arith, in_taken, acked_count-append own.history (EntryAcked count ∷ []));
        };
        back = record {
          sound = s.back.sound;
          takes = rw (taken-append own.history (EntryAcked count ∷ []), append-nil)
              s.back.takes;
          acks = omega (arith, s.back.acks, taken_count-append own.history (EntryAcked count ∷ []));
        };
      }

  -- a frame of the other side is taken
  pub taken_in_step : (frame : Frame) → IsInStep own other → slice_get (sent other.history) (taken_count own.history) ≡ Some frame
      → length own.history < own.limit → IsInStep (with_entry own (EntryTaken frame)) other
  taken_in_step frame s next room =
      record {
        forth = record {
          sound = sound_with_entry own (EntryTaken frame) s.forth.sound
              (legal_taken own.width own.limit own.history frame s.forth.sound.legal room);
          takes = rw (sent-append own.history (EntryTaken frame ∷ []), append-nil) s.forth.takes;
          acks = omega (arith, s.forth.acks, acked_count-append own.history (EntryTaken frame ∷ []));
        };
        back = record {
          sound = s.back.sound;
          takes = rw (taken-append own.history (EntryTaken frame ∷ []))
              (prefix_more (taken own.history) (sent other.history) frame s.back.takes next);
          acks =
              omega (arith, s.back.acks, taken_count-append own.history (EntryTaken frame ∷ []));
        };
      }

  -- the side sends a datagram
  pub datagram_in_step : (sent : Datagram) → IsInStep own other → IsOwn own.history sent → IsInStep (with_datagram own sent) other
  datagram_in_step sent s is_own = record {
    forth = record {
      sound = sound_with_datagram own sent s.forth.sound is_own;
      takes = s.forth.takes;
      acks = s.forth.acks;
    };
    back = record { sound = s.back.sound; takes = s.back.takes; acks = s.back.acks };
  }
