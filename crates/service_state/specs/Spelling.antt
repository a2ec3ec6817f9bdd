-- The pieces of which a line of metrics is put together.
use Rattle.std.specs.Prelude.{ℕ, List}
use Rattle.std.specs.List.{flat_map}
use Rattle.service_state.specs.Metrics.{value_octet, help_octet}
use Rattle.service_state.specs.declared.spelling.Piece.{Piece}
use Rattle.service_state.specs.declared.spelling.Piece.TheVariants as piece

abbrev pub piece_text : Piece → List ℕ
piece_text (piece.Plain text) = text.now
piece_text (piece.Value text) = flat_map value_octet text.now
piece_text (piece.Help text) = flat_map help_octet text.now
