-- Media frames of one kind, folded.
use Rattle.std.specs.Prelude.{◌≡◌, ℕ, ◌+◌, ◌<◌, ◌^◌, List, Bool, Some, slice_get, sum_by, if◌then◌else◌}
use Rattle.replay_views.specs.declared.ladder.media_runs.RunKey.{RunKey}
use Rattle.replay_views.specs.declared.ladder.media_runs.MediaPiece.{MediaPiece}
use Rattle.replay_views.specs.declared.ladder.media_runs.MediaRun.{MediaRun}

-- the frames, and the octets of media, in the runs of chosen keys
abbrev pub frames_of : (RunKey → Bool) → List MediaRun → ℕ
frames_of chosen runs = sum_by (λ run. if chosen run.key then run.frames else 0) runs

abbrev pub octets_of : (RunKey → Bool) → List MediaRun → ℕ
octets_of chosen runs = sum_by (λ run. if chosen run.key then run.octets else 0) runs

-- one more frame, if its key is chosen
abbrev pub one_more : (RunKey → Bool) → RunKey → ℕ
one_more chosen key = if chosen key then 1 else 0

abbrev pub octets_more : (RunKey → Bool) → MediaPiece → ℕ
octets_more chosen piece = if chosen piece.key then piece.octets else 0

-- a run of the piece's key that can still count one more
pub record Takes (run : MediaRun) (piece : MediaPiece) : Type 0 where
  pub key : run.key ≡ piece.key
  pub frames : run.frames + 1 < 2 ^ 64
  pub octets : run.octets + piece.octets < 2 ^ 64

-- a run of the piece's key is at this place, and with the piece it becomes more
pub record Extends (runs : List MediaRun) (piece : MediaPiece) (place : ℕ) (more : MediaRun) : Type 0 where
  pub run : MediaRun
  pub at : slice_get runs place ≡ Some run
  pub key : run.key ≡ piece.key
  pub kept : more.key ≡ run.key
  pub frames : more.frames ≡ run.frames + 1
  pub octets : more.octets ≡ run.octets + piece.octets
