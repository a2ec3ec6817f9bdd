-- The random values that an exchange draws when it is opened.
use Rattle.std.specs.Prelude.{◌≡◌, ◌≤◌, ◌<◌, ◌⊎◌, ◌+◌, ◌-◌, ◌*◌, ◌^◌, ℕ, zero, suc, List, [], ◌∷◌, ◌++◌, length, map}
use Rattle.std.specs.Prelude.{Option, None, Some, option_map, slice_get, slice_index}
use Rattle.rand.specs.Draw.{draw_map}
use Rattle.rand.specs.Uniform.{canon}
use Rattle.rand_core.specs.Stream.{Stream, fill_bytes, next_u32, next_u64}
use Rattle.peer_plan.specs.Plan.{PlanView, with_drawn}
use Rattle.peer_plan.specs.declared.drawn.Drawn.{Drawn}

-- twelve lower-case letters
abbrev pub AreLetters : List ℕ → Type 0
AreLetters text = (length text ≡ 12) × ((k : ℕ) → k < 12 → (97 ≤ slice_index text k) × (slice_index text k ≤ 122))

abbrev pub HasLetters : Option (List ℕ) → Type 0
HasLetters None = ⊥
HasLetters (Some text) = AreLetters text

-- a fact of the stream of a generator that a seed of 32 octets gives
abbrev pub FromSeed : {G : Type 0} → (List ℕ → G) → (G → Stream) → (Stream → Type 0) → Type 0
FromSeed of_seed stream fact = (seed : List ℕ) × (length seed ≡ 32) × fact (stream (of_seed seed))

-- so many values, each drawn from the stream that the one before it left
unfoldable pub draw_list : (Stream → ℕ × Stream) → ℕ → Stream → List ℕ × Stream
draw_list draw zero s = ([], s)
draw_list draw (suc count) s =
    let before = draw_list draw count s in
    (before.0 ++ (draw before.1).0 ∷ [], (draw before.1).1)

-- a letter: "a" and a number below 26
abbrev pub draw_letter : Stream → ℕ × Stream
draw_letter = draw_map (λ k. 97 + k) (canon (2 ^ 32) next_u32 26)

-- a prefix for challenges
abbrev pub draw_prefix : Stream → List ℕ × Stream
draw_prefix = draw_list draw_letter 12

-- a key for call tokens
abbrev pub draw_key : Stream → List ℕ × Stream
draw_key = fill_bytes 32

-- the first serial of a service: 16,384 and a number up to what is left to 2^40
abbrev pub draw_serial : Stream → ℕ × Stream
draw_serial = draw_map (λ k. 32 * 512 + k) (canon (2 ^ 64) next_u64 (2 ^ 40 + 1 - 32 * 512))

-- The values of an exchange with a prefix: the prefix, the key and the offset for the timestamps of POKEs, in this order.
abbrev pub drawn_values : Stream → Drawn
drawn_values s =
    let prefix = draw_prefix s in
    let key = draw_key prefix.1 in
    record { challenge_prefix = Some prefix.0; token_key = key.0; poke_offset = (next_u32 key.1).0 }

-- the values of an exchange that draws a key alone
abbrev pub drawn_key : Stream → Drawn
drawn_key s = record { challenge_prefix = None; token_key = (draw_key s).0; poke_offset = 0 }

-- the plan of an exchange that drew these values
abbrev pub drawn_plan : Drawn → PlanView → PlanView
drawn_plan drawn plan = record plan { peers = map (with_drawn drawn) plan.peers }

-- a prefix of letters, a key and an offset were drawn, in this order, from this stream
abbrev pub DrewBoth : PlanView → PlanView → Stream → Type 0
DrewBoth plan after s =
    (drawn : Drawn) × HasLetters drawn.challenge_prefix × (drawn ≡ drawn_values s) × (after ≡ drawn_plan drawn plan)

-- no peer needs call tokens
abbrev pub NoneNeedsTokens : PlanView → Type 0
NoneNeedsTokens plan =
    (place : ℕ) → place < length plan.peers → option_map (λ peer. peer.rules.call_tokens) (slice_get plan.peers place) ≡ Some None

-- a key was drawn from the stream of a seed, if a peer needs one
abbrev pub DrewKey : ((Stream → Type 0) → Type 0) → PlanView → PlanView → Type 0
DrewKey from_seed plan after =
    ((after ≡ plan) × NoneNeedsTokens plan) ⊎ from_seed (λ s. after ≡ drawn_plan (drawn_key s) plan)
