-- The call numbers that a service skips before its first call.
use Rattle.std.specs.Prelude.{◌≡◌, ◌<◌, ◌⊎◌, ◌^◌, ℕ, zero, suc, List, length, Option, Result, Ok, Err, if◌then◌else◌, nat_lt, slice_index}
use Rattle.call_book.specs.declared.errors.ReserveError.{ReserveError}
use Rattle.call_book.specs.declared.errors.Stale.{Stale}
use Rattle.call_book.specs.declared.leg_name.LegName.{LegName}
use Rattle.peer_plan.specs.Plan.{PlanView, counts_of}
use Rattle.rand.specs.Uniform.{canon}
use Rattle.rand_core.specs.Stream.{Stream, next_u32}
use Rattle.step_log.specs.Notes.{Noted, note}
use Rattle.step_log.specs.declared.made.Made.TheVariants as mades

-- how many names a peer of so many numbers skips: a number below their count, if it has more than one
abbrev pub draw_skips : ℕ → Stream → ℕ × Stream
draw_skips count s = if nat_lt 1 count then canon (2 ^ 32) next_u32 count s else (0, s)

-- the stream that the peers before this one left
unfoldable pub stream_at : List ℕ → Stream → ℕ → Stream
stream_at counts s zero = s
stream_at counts s (suc peer) = (draw_skips (slice_index counts peer) (stream_at counts s peer)).1

-- how many names this peer skips
abbrev pub skips_at : List ℕ → Stream → ℕ → ℕ
skips_at counts s peer = (draw_skips (slice_index counts peer) (stream_at counts s peer)).0

-- a name of the peer was reserved and returned
abbrev pub SkippedOne : ℕ → Noted → Noted → Type 0
SkippedOne peer old new = (name : LegName) × (former : Result (Option LegName) Stale) × (name.peer ≡ peer)
    × (new ≡ note (mades.Release name former) (note (mades.Reserve peer (Ok name)) old))

-- so many names, one after the other
unfoldable pub Skipped : ℕ → ℕ → Noted → Noted → Type 0
Skipped peer zero old new = new ≡ old
Skipped peer (suc count) old new = (between : Noted) × Skipped peer count old between × SkippedOne peer between new

-- so many names, or fewer if the book refused the next one
abbrev pub SkippedUpTo : ℕ → ℕ → Noted → Noted → Type 0
SkippedUpTo peer count old new =
    Skipped peer count old new
    ⊎ ((done : ℕ) × (between : Noted) × (error : ReserveError) × (done < count) × Skipped peer done old between
    × (new ≡ note (mades.Reserve peer (Err error)) between))

-- each peer before this one skipped its names, in order
unfoldable pub SkippedBefore : List ℕ → Stream → ℕ → Noted → Noted → Type 0
SkippedBefore counts s zero old new = new ≡ old
SkippedBefore counts s (suc peer) old new =
    (between : Noted) × SkippedBefore counts s peer old between × SkippedUpTo peer (skips_at counts s peer) between new

-- the serial of the next leg was asked for, or nothing was
abbrev pub AskedSerial : Noted → Noted → Type 0
AskedSerial old new = (new ≡ old) ⊎ ((serial : ℕ) × (new ≡ note (mades.NextSerial serial) old))

-- every peer skipped its names, each as many as a generator of this stream gave
abbrev pub SkippedAll : PlanView → Stream → Noted → Noted → Type 0
SkippedAll plan s old new =
    (between : Noted) × SkippedBefore (counts_of plan.peers) s (length plan.peers) old between × AskedSerial between new
