use Rattle.std.proofs.Common.{◌≡◌, ◌++◌, drop}
use Rattle.std.specs.List.{flat_map}
use Rattle.service_state.specs.Spelling.{piece_text}
use Rattle.service_state.proofs.spelling.push_pieces.Given as goal

abbrev pub invariant-loop-piece : goal.invariant-loop-piece
invariant-loop-piece l =
    l.octets.items ++ flat_map piece_text (drop l.piece-index l.pieces) ≡ l.initial.octets.items ++ flat_map piece_text l.pieces
