use Rattle.std.proofs.Common.{◌≡◌, ◌++◌, drop}
use Rattle.std.specs.List.{flat_map}
use Rattle.replay_views.proofs.capture.spelling.push_pieces.Given as goal

abbrev pub invariant-loop-piece : goal.invariant-loop-piece
invariant-loop-piece l =
    l.octets.items ++ flat_map (λ piece. piece.now) (drop l.piece-index l.pieces)
    ≡ l.initial.octets.items ++ flat_map (λ piece. piece.now) l.pieces
