-- Limits, workers and passes of every plan that is read.
use Rattle.std.proofs.Common.{◌≡◌, ℕ, ◌-◌, ◌≤◌, Bool, true, false, cond, List, [], length}
use Rattle.std.proofs.Common.{Option, Some, None, Result, Ok, Err, ap, subst, arith}
use Rattle.std.proofs.Common.{◌==◌}
use Rattle.std.specs.Prelude.{IfSome}
use Rattle.toml.specs.Data.{Members, get_member}
use Rattle.call_signals.specs.PeerRules.{IsWithin}
use Rattle.peer_plan.specs.declared.key.Key.{Key}
use Rattle.peer_plan.specs.declared.key.Key.TheVariants as key
use Rattle.peer_plan.specs.declared.error.PlanError.TheVariants as error
use Rattle.peer_plan.specs.declared.endpoint.Endpoint.{Endpoint}
use Rattle.peer_plan.specs.declared.peer.Limits.{Limits}
use Rattle.peer_plan.specs.Keys.{key_name}
use Rattle.peer_plan.specs.Fields.{◌>>=◌, number_of, value, each, list_in}
use Rattle.peer_plan.specs.Reading.{default_record_limit, record_octets_in, vnak_ms_in, trunk_ms_in, challenge_ms_in, limits_in}
use Rattle.peer_plan.specs.Reading.{endpoint_in, workers_in, passes_in}
use Rattle.peer_plan.specs.Reading.{qualify_ms_in}
use Rattle.peer_plan.proofs.ReadingLaws.{bound, value_is, number_within, default_within, missing}
use Rattle.peer_plan.proofs.ReadingLaws.{each_len, list_within}

-- ---- limits, workers, passes

pub record IsLimits (limits : Limits) : Type 0 where
  pub retry_ms : IsWithin 1 60000 limits.retry_ms
  pub max_retries : IsWithin 0 20 limits.max_retries
  pub ping_ms : IsWithin 0 600000 limits.ping_ms
  pub record_limit : IsWithin 64 65536 limits.record_limit
  pub record_octets : IfSome limits.record_octets (IsWithin 65536 268435456)
  pub vnak_ms : IsWithin 0 60000 limits.vnak_ms
  pub trunk_ms : IfSome limits.trunk_ms (λ ms. ms ≤ 60)
  pub challenge_ms : IfSome limits.challenge_ms (IsWithin 1000 60000)

pub number_is : (ms : Members) (k : Key) (low high fallback n : ℕ) → low ≤ fallback → fallback ≤ high
    → value ms k (Ok fallback) (number_of low high) ≡ Ok n → IsWithin low high n
number_is ms k low high fallback n least most h =
    value_is (IsWithin low high) k (Ok fallback) (number_of low high) (get_member (key_name k) ms) n (number_within low high n)
    (default_within low high n fallback least most) h

pub number_there : (ms : Members) (k : Key) (low high n : ℕ) → value ms k (Err (error.Missing k)) (number_of low high) ≡ Ok n
    → IsWithin low high n
number_there ms k low high n h =
    value_is (IsWithin low high) k (Err (error.Missing k)) (number_of low high) (get_member (key_name k) ms) n
    (number_within low high n) (missing (error.Missing k) n) h

limit_default : (format : ℕ) → IsWithin 64 65536 (default_record_limit format)
limit_default format = go (format == 4)
  where
    go : (b : Bool) → IsWithin 64 65536 (cond b 65536 4096)
    go true = (omega arith, omega arith)
    go false = (omega arith, omega arith)

vnak_within : (format n : ℕ) (ms : Members) → vnak_ms_in format ms ≡ Ok n → IsWithin 0 60000 n
vnak_within format n ms h = go (format == 4) h
  where
    go : (b : Bool) → cond b (value ms key.VnakMs (Ok 0) (number_of 0 60000)) (Ok 0) ≡ Ok n → IsWithin 0 60000 n
    go true is = number_is ms key.VnakMs 0 60000 0 n (omega arith) (omega arith) is
    go false is = default_within 0 60000 n 0 (omega arith) (omega arith) is

pub qualify_within : (format n : ℕ) (ms : Members) → qualify_ms_in format ms ≡ Ok n → IsWithin 0 600000 n
qualify_within format n ms h = go (format == 4) h
  where
    go : (b : Bool) → cond b (value ms key.QualifyMs (Ok 60000) (number_of 0 600000)) (Ok 0) ≡ Ok n → IsWithin 0 600000 n
    go true is = number_is ms key.QualifyMs 0 600000 60000 n (omega arith) (omega arith) is
    go false is = default_within 0 600000 n 0 (omega arith) (omega arith) is

-- a number that is read only in one case
within_if_read : (P : ℕ → Type 0) (is_read : Bool) (ms : Members) (k : Key) (low high fallback : ℕ) (found : Option ℕ)
    → low ≤ fallback → fallback ≤ high → ((n : ℕ) → IsWithin low high n → P n)
    → cond is_read (value ms k (Ok fallback) (number_of low high) >>= λ n. Ok (Some n)) (Ok None) ≡ Ok found → IfSome found P
within_if_read P true ms k low high fallback found least most so is =
    let a = bound (value ms k (Ok fallback) (number_of low high)) (λ n. Ok (Some n)) found is in
    let same : Some a.0 ≡ found = cc in
    subst (λ o. IfSome o P) same (so a.0 (number_is ms k low high fallback a.0 least most a.1))
within_if_read P false ms k low high fallback found least most so is = let same : None ≡ found = cc in
    subst (λ o. IfSome o P) same tt

octets_within : (format : ℕ) (most : Option ℕ) (ms : Members) → record_octets_in format ms ≡ Ok most
    → IfSome most (IsWithin 65536 268435456)
octets_within format most ms h = within_if_read (IsWithin 65536 268435456) (format == 4) ms key.RecordOctets 65536 268435456
    1048576 most (omega arith) (omega arith) (λ n within. within) h

trunk_within : (format : ℕ) (wait : Option ℕ) (ms : Members) → trunk_ms_in format ms ≡ Ok wait → IfSome wait (λ ms. ms ≤ 60)
trunk_within format wait ms h = within_if_read (λ n. n ≤ 60) (format == 4) ms key.TrunkMs 0 60 20 wait (omega arith) (omega arith)
    (λ n within. within.1) h

challenge_within : (format : ℕ) (wait : Option ℕ) (ms : Members) → challenge_ms_in format ms ≡ Ok wait
    → IfSome wait (IsWithin 1000 60000)
challenge_within format wait ms h = within_if_read (IsWithin 1000 60000) (format == 4) ms key.ChallengeMs 1000 60000 10000 wait
    (omega arith) (omega arith) (λ n within. within) h

-- the value of a reading that was no fault
abbrev pub value_or : {A E : Type 0} → A → Result A E → A
value_or other (Ok x) = x
value_or other (Err e) = other

pub limits_sound : (format : ℕ) (ms : Members) (limits : Limits) → limits_in format ms ≡ Ok limits → IsLimits limits
unfolding limits_in
limits_sound format ms limits h =
    let a = bound (value ms key.RetryMs (Ok 1000) (number_of 1 60000)) _ limits h in
    let b = bound (value ms key.MaxRetries (Ok 4) (number_of 0 20)) _ limits a.2 in
    let c = bound (value ms key.PingMs (Ok 20000) (number_of 0 600000)) _ limits b.2 in
    let d = bound (value ms key.RecordLimit (Ok (default_record_limit format)) (number_of 64 65536)) _ limits c.2 in
    let e = bound (record_octets_in format ms) _ limits d.2 in
    let f = bound (vnak_ms_in format ms) _ limits e.2 in
    let g = bound (trunk_ms_in format ms) _ limits f.2 in
    let i = bound (challenge_ms_in format ms) _ limits g.2 in
    let is : record {
      retry_ms = a.0;
      max_retries = b.0;
      ping_ms = c.0;
      record_limit = d.0;
      record_octets = e.0;
      vnak_ms = f.0;
      trunk_ms = g.0;
      challenge_ms = i.0;
    } ≡ limits = ap (value_or limits) i.2 in
    let default = limit_default format in
    subst IsLimits is (record {
      retry_ms = number_is ms key.RetryMs 1 60000 1000 a.0 (omega arith) (omega arith) a.1;
      max_retries = number_is ms key.MaxRetries 0 20 4 b.0 (omega arith) (omega arith) b.1;
      ping_ms = number_is ms key.PingMs 0 600000 20000 c.0 (omega arith) (omega arith) c.1;
      record_limit = number_is ms key.RecordLimit 64 65536 (default_record_limit format) d.0 default.0 default.1 d.1;
      record_octets = octets_within format e.0 ms e.1;
      vnak_ms = vnak_within format f.0 ms f.1;
      trunk_ms = trunk_within format g.0 ms g.1;
      challenge_ms = challenge_within format i.0 ms i.1;
    })

pub workers_within : (ms : Members) (workers : List Endpoint) → workers_in ms ≡ Ok workers → IsWithin 1 8 (length workers)
unfolding workers_in
workers_within ms workers h =
    let one = bound (list_in ms key.Worker 8) (each key.Worker (λ _. endpoint_in) []) workers h in
    let some = list_within ms key.Worker 8 one.0 one.1 in
    let len = each_len key.Worker (λ _. endpoint_in) [] one.0 workers one.2 in
    (omega (arith, len, some.0), omega (arith, len, some.1))

pub passes_within : (ms : Members) (workers passes : ℕ) → workers ≤ 64 → passes_in workers ms ≡ Ok passes
    → IsWithin workers 64 passes
passes_within ms workers passes few h = number_is ms key.Passes workers 64 workers passes (omega arith) few h
