-- The serials of calls, which the two legs of a call share.
use Rattle.std.specs.Prelude.{ℕ, ◌+◌, ◌%◌, ◌^◌, Option, None, Some, List, slice_get, slice_set, unwrap_or, if◌then◌else◌}
use Rattle.call_book.specs.Book.{is_same}
use Rattle.call_book.specs.declared.leg_name.LegName.{LegName}
use Rattle.call_records.specs.declared.call_numbering.NotedLeg.{NotedLeg}

pub record Numbering : Type 0 where
  -- by local number, the leg of that number whose call was noted last
  pub noted : List (Option NotedLeg)
  -- the serial of the next call
  pub next : ℕ

-- the call of the leg, if exactly this leg is noted
abbrev pub call_for : LegName → Option (Option NotedLeg) → Option ℕ
call_for name (Some (Some leg)) = if is_same leg.name name then Some leg.call else None
call_for name (Some None) = None
call_for name None = None

abbrev pub noted_call : List (Option NotedLeg) → LegName → Option ℕ
noted_call noted name = call_for name (slice_get noted name.number)

-- the call of a leg whose own call isn't noted: its partner's
abbrev pub partner_call : List (Option NotedLeg) → Option LegName → Option ℕ
partner_call noted None = None
partner_call noted (Some partner) = noted_call noted partner

-- the call of a leg that is taken out, if it or its partner is noted
abbrev pub known_by : Option ℕ → Option ℕ → Option ℕ
known_by None partners = partners
known_by (Some call) partners = Some call

abbrev pub known_call : Numbering → LegName → Option LegName → Option ℕ
known_call n name partner = known_by (noted_call n.noted name) (partner_call n.noted partner)

-- otherwise it is a new one
abbrev pub call_of : Numbering → LegName → Option LegName → ℕ
call_of n name partner = unwrap_or (known_call n name partner) n.next

-- the leg's call is noted under its number, if there is a place for that
abbrev pub with_leg : List (Option NotedLeg) → LegName → ℕ → List (Option NotedLeg)
with_leg noted name call = slice_set noted name.number (Some (record { name = name; call = call }))

abbrev pub with_partner : List (Option NotedLeg) → Option LegName → ℕ → List (Option NotedLeg)
with_partner noted None call = noted
with_partner noted (Some partner) call = with_leg noted partner call

abbrev pub next_after : Option ℕ → ℕ → ℕ
next_after None next = (next + 1) % 2 ^ 64
next_after (Some call) next = next

-- after a leg was taken out, its call is noted for it and for its partner
abbrev pub after_leg : Numbering → LegName → Option LegName → Numbering
after_leg n name partner = record {
  noted = with_partner (with_leg n.noted name (call_of n name partner)) partner (call_of n name partner);
  next = next_after (known_call n name partner) n.next;
}
