-- "Full Frames"
use Rattle.std.specs.Prelude.{◌≡◌, ℕ, ◌-◌, ◌<◌, ◌^◌, true, List, [], ◌∷◌, ◌++◌, nat_le, nat_lt, if◌then◌else◌, slice_index, drop}
use Rattle.std.specs.Prelude.{Option, Some, None}
use Rattle.std.specs.Int.{w32, to_be_bytes}
use Rattle.iax_frames.specs.Octets.{u16_at, u32_at, flagged, below_flag}
use Rattle.iax_frames.specs.declared.full_frame.FullHead.{FullHead}

-- a full frame, without its place in memory
pub record FullFrame : Type 0 where
  pub head : FullHead
  pub payload : List ℕ

-- the twelve octets of the head
abbrev pub full_head : FullHead → List ℕ
full_head h =
    flagged true h.source ++ flagged h.retransmitted h.destination ++ to_be_bytes w32 h.timestamp
    ++ h.oseqno ∷ h.iseqno ∷ h.frame_type ∷ h.subclass ∷ []

-- the octets of a full frame
abbrev pub spelling : FullFrame → List ℕ
spelling f = full_head f.head ++ f.payload

-- each field has its width
pub record IsFullHead (h : FullHead) : Type 0 where
  pub source : h.source < 2 ^ 15
  pub destination : h.destination < 2 ^ 15
  pub timestamp : h.timestamp < 2 ^ 32
  pub oseqno : h.oseqno < 2 ^ 8
  pub iseqno : h.iseqno < 2 ^ 8
  pub frame_type : h.frame_type < 2 ^ 8
  pub subclass : h.subclass < 2 ^ 8

-- the octets spell this full frame
pub record SpellsFull (bytes : List ℕ) (f : FullFrame) : Type 0 where
  pub widths : IsFullHead f.head
  pub whole : bytes ≡ spelling f

-- the full frame that twelve octets and more spell, if their first bit is set
abbrev pub full_at : List ℕ → FullFrame
full_at bytes = record {
  head = record {
    source = below_flag (u16_at bytes 0);
    retransmitted = nat_le 32768 (u16_at bytes 2);
    destination = below_flag (u16_at bytes 2);
    timestamp = u32_at bytes 4;
    oseqno = slice_index bytes 8;
    iseqno = slice_index bytes 9;
    frame_type = slice_index bytes 10;
    subclass = slice_index bytes 11;
  };
  payload = drop 12 bytes;
}

-- the full frame with these octets at the end of its data
abbrev pub with_more : FullFrame → List ℕ → FullFrame
with_more f more = record { head = f.head; payload = f.payload ++ more }

-- C and subclass: with C=0 the subclass itself, with C=1 that power of two, which is none from 2 ^ 64 on
abbrev pub subclass_meaning : ℕ → Option ℕ
subclass_meaning octet =
    if nat_lt octet 128 then Some octet else if nat_lt octet 192 then Some (2 ^ (octet - 128)) else None
