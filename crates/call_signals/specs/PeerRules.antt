-- The values that a plan allows in the rules of a peer.
use Rattle.std.specs.Prelude.{ℕ, ◌≤◌, Bool, false, List, Option, None, Some, IsSome, IfSome, nat_eq}
use Rattle.std.specs.List.{starts_with}
use Rattle.call_signals.specs.declared.rules.PeerRules.{PeerRules}
use Rattle.call_signals.specs.Format.{lowest_format}

-- the challenge begins as those of this exchange do
abbrev pub is_own : Option (List ℕ) → Option (List ℕ) → Bool
is_own (Some prefix) (Some challenge) = starts_with nat_eq challenge prefix
is_own _ _ = false

abbrev pub IsWithin : ℕ → ℕ → ℕ → Type 0
IsWithin least most n = (least ≤ n) × (n ≤ most)

pub record IsPeerRules (rules : PeerRules) : Type 0 where
  pub secret_of_user : IsSome rules.secret → IsSome rules.user
  pub outbound_secret_of_user : IsSome rules.outbound_secret → IsSome rules.user
  pub challenge_ms : IfSome rules.challenge_ms (IsWithin 1000 60000)
  pub some_format : IsSome (lowest_format rules.formats)
  pub trunk_ms : IfSome rules.trunk_ms (λ ms. ms ≤ 60)
  pub retry_ms : IsWithin 1 60000 rules.retry_ms
  pub max_retries : rules.max_retries ≤ 20
  pub ping_ms : rules.ping_ms ≤ 600000
  pub record_limit : IsWithin 64 65536 rules.record_limit
  pub record_octets : IfSome rules.record_octets (IsWithin 65536 268435456)
  pub window : IsWithin 1 127 rules.window
  pub vnak_ms : rules.vnak_ms ≤ 60000
  pub qualify_ms : rules.qualify_ms ≤ 600000
