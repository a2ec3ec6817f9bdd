-- The length of a body, counted up to the limit.
use Rattle.std.proofs.Common.{◌≡◌, ◌<◌, ◌≤◌, ℕ, List, Option, Some, None, map, drop, option_map, refl, ap, ◌∙◌, arith, rules}
use Rattle.std.proofs.lemmas.Bool.Decides.{nat_tests}
use Rattle.httparse.specs.Borrowed.{header_parts, HoldsSomeRequest}
use Rattle.httparse.specs.Spans.{name_and_value}
use Rattle.httparse.specs.declared.borrowed.Request.{Request}
use Rattle.control_requests.specs.Digits.{up_to}
use Rattle.control_requests.specs.Requests.{body_length, Reads}
use Rattle.control_requests.specs.declared.request.Reading.TheVariants.{BodyTooLarge}

over_limit : (m n : ℕ) → Some n ≡ Some (up_to 4096 m) → 4096 < n → 4096 < m
over_limit m n is over = grind (arith, nat_tests)

-- a length over the limit was a length
pub too_long : (found : Option ℕ) (n : ℕ) → Some n ≡ option_map (up_to 4096) found → 4096 < n → (m : ℕ) × (found
    ≡ Some m) × (4096 < m)
too_long None n is over = search rules
too_long (Some m) n is over = (m, refl, over_limit m n is over)

-- the reading of a head of an allowed size that states too long a body
pub too_large : (octets : List ℕ) (read : Request) (len n : ℕ) → HoldsSomeRequest octets read len → len ≤ 8192 → Some n
    ≡ option_map (up_to 4096) (body_length (map header_parts read.headers.now)) → 4096 < n → Reads octets BodyTooLarge
too_large octets read len n found small is over =
    let head = found.0 in
    let holds = found.1 in
    let by_head = ap (λ (fields : List (List ℕ × List ℕ)). option_map (up_to 4096) (body_length fields)) holds.fields in
    let stated = too_long (body_length (map name_and_value head.fields)) n (is ∙ by_head) over in (
      head,
      drop len octets,
      stated.0,
      record { reads = holds.reads; rest_is = ap (λ (k : ℕ). drop k octets) holds.len_is },
      record { small = omega (arith, small, holds.len_is); length_is = stated.1 },
      stated.2,
    )
