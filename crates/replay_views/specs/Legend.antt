-- The legend of a picture.
use Rattle.std.specs.Prelude.{ℕ, Bool, true, false, ◌&&◌, not, is_some, nat_eq, Option, Some, None}
use Rattle.replay_views.specs.declared.ladder.row.Row.{Row}
use Rattle.replay_views.specs.declared.ladder.row.RowKind.{RowKind}
use Rattle.replay_views.specs.declared.ladder.row.RowKind.TheVariants as kinds
use Rattle.replay_views.specs.declared.ladder.legend.Sign.{Sign}
use Rattle.replay_views.specs.declared.ladder.legend.Sign.TheVariants as signs

-- whether a row is folded media
abbrev pub is_media : RowKind → Bool
is_media kinds.Frame = false
is_media kinds.Media = true
is_media kinds.Stage = false
is_media kinds.Order = false

-- whether a row has a sign. A refused frame is red, whether it is sent again or not.
abbrev pub has_sign : Sign → Row → Bool
has_sign signs.Numbers row = is_some row.remote
has_sign signs.Resent row = row.is_resent && not row.is_refused
has_sign signs.Refused row = row.is_refused
has_sign signs.Media row = is_media row.kind

-- whether two numbers of a leg are one
abbrev pub is_same : Option ℕ → ℕ → Bool
is_same None number = false
is_same (Some other) number = nat_eq other number

-- whether a row is shown: of all legs, or of one
abbrev pub is_shown : Option ℕ → Row → Bool
is_shown None row = true
is_shown (Some number) row = is_same row.local number

-- whether a row is shown and has a sign
abbrev pub is_signed : Option ℕ → Sign → Row → Bool
is_signed leg sign row = is_shown leg row && has_sign sign row
