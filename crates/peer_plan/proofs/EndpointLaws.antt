-- Endpoints are equal, or not.
use Rattle.std.proofs.Common.{◌≡◌, ◌≢◌, Bool, true, false, refl, sym, arith, ◌&&◌, ◌==◌}
use Rattle.std.specs.Str.{bytes_eq}
use Rattle.std.proofs.lemmas.Bool.{true≢false}
use Rattle.std.proofs.lemmas.Bool.Decides.{nat_tests}
use Rattle.std.proofs.lemmas.Slice.Eq.{bytes_eq-Decides}
use Rattle.peer_plan.specs.declared.endpoint.Endpoint.{Endpoint}
use Rattle.peer_plan.specs.Reading.{is_endpoint}

both_true : (a b : Bool) → (a && b) ≡ true → (a ≡ true) × (b ≡ true)
both_true true b h = (refl, h)
both_true false b h = absurd (true≢false (sym h))

pub same_endpoint : (a b : Endpoint) → is_endpoint a b ≡ true → a ≡ b
same_endpoint a b h =
    let both = both_true (bytes_eq a.address b.address) (a.port == b.port) h in
    let address : a.address ≡ b.address = grind (arith, both.0, bytes_eq-Decides) in
    let port : a.port ≡ b.port = grind (arith, nat_tests, both.1) in
    λ i. record { address = address i; port = port i }

pub other_endpoint : (a b : Endpoint) → is_endpoint a b ≡ false → a ≢ b
other_endpoint a b h = λ same. grind (arith, nat_tests, bytes_eq-Decides)
