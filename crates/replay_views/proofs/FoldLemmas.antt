-- A run is replaced by a longer one with the same key.
use Rattle.std.proofs.Common.{◌≡◌, ℕ, ◌+◌, ◌<◌, List, Bool, length, get_or, set, sum_by, ap, ◌∙◌, arith, if◌then◌else◌}
use Rattle.std.proofs.lemmas.List.Sums.{sum_by-set}
use Rattle.std.proofs.lemmas.Option.{get_or_from_slice_get}
use Rattle.replay_views.specs.MediaRuns.{frames_of, octets_of, one_more, octets_more, Extends}
use Rattle.replay_views.specs.declared.ladder.media_runs.RunKey.{RunKey}
use Rattle.replay_views.specs.declared.ladder.media_runs.MediaPiece.{MediaPiece}
use Rattle.replay_views.specs.declared.ladder.media_runs.MediaRun.{MediaRun}

-- the count of a run, if its key is chosen, grows by the chosen frame
counted : (a b k : Bool) (n m o : ℕ) → a ≡ k → b ≡ k → n ≡ m + o →
    (if a then n else 0) ≡ (if b then m else 0) + (if k then o else 0)
counted a b k n m o p q e = grind arith

sums : (s s' g r m o : ℕ) → s' + g ≡ s + m → g ≡ r → m ≡ r + o → s' ≡ s + o
sums s s' g r m o p q e = omega arith

pub frames_in_place : (chosen : RunKey → Bool) (runs : List MediaRun) (piece : MediaPiece)
    (place : ℕ) (more : MediaRun) →
    place < length runs →
    Extends runs piece place more → frames_of chosen (set runs place more) ≡ frames_of chosen runs + one_more chosen piece.key
frames_in_place chosen runs piece place more within h =
    let f : MediaRun → ℕ = λ run. if chosen run.key then run.frames else 0 in
    sums _ _ _ (f h.run) (f more) _
    (sum_by-set f runs place more h.run within)
    (ap f (get_or_from_slice_get runs place h.run h.run h.at))
    (counted (chosen more.key) (chosen h.run.key) (chosen piece.key) more.frames h.run.frames 1
    (ap chosen (h.kept ∙ h.key)) (ap chosen h.key) h.frames)

pub octets_in_place : (chosen : RunKey → Bool) (runs : List MediaRun) (piece : MediaPiece)
    (place : ℕ) (more : MediaRun) →
    place < length runs →
    Extends runs piece place more → octets_of chosen (set runs place more) ≡ octets_of chosen runs + octets_more chosen piece
octets_in_place chosen runs piece place more within h =
    let f : MediaRun → ℕ = λ run. if chosen run.key then run.octets else 0 in
    sums _ _ _ (f h.run) (f more) _
    (sum_by-set f runs place more h.run within)
    (ap f (get_or_from_slice_get runs place h.run h.run h.at))
    (counted (chosen more.key) (chosen h.run.key) (chosen piece.key) more.octets h.run.octets piece.octets
    (ap chosen (h.kept ∙ h.key)) (ap chosen h.key) h.octets)
