-- Endpoints are equal, or not.
use Rattle.std.proofs.Common.{◌≡◌, ◌≢◌, ◌⊎◌, inl, inr, Bool, true, false, refl}
use Rattle.peer_plan.proofs.EndpointLaws.{same_endpoint, other_endpoint}
use Rattle.peer_plan.specs.Reading.{is_endpoint}
use Rattle.peer_plan.specs.declared.endpoint.Endpoint.{Endpoint}

pub either_endpoint : (a b : Endpoint) → (a ≡ b) ⊎ (a ≢ b)
either_endpoint a b = go (is_endpoint a b) refl
  where
    go : (test : Bool) → is_endpoint a b ≡ test → (a ≡ b) ⊎ (a ≢ b)
    go true is = inl (same_endpoint a b is)
    go false is = inr (other_endpoint a b is)
