-- The datagrams that pass a wire, each with the endpoint at the other end.
use Rattle.std.specs.Prelude.{ℕ, Bool, true, false, List, [], ◌∷◌, Result, Ok, Err, Option, None, Some, take}
use Rattle.peer_plan.specs.declared.endpoint.Endpoint.{Endpoint}

-- the octets of a datagram, and the endpoint that it came from or is for
pub record Parcel : Type 0 where
  pub endpoint : Endpoint
  pub octets : List ℕ

-- what a call of `receive` gave: a datagram at the front of the lent octets, from its sender, or nothing
abbrev pub gave : {E : Type 0} → Result (Option (ℕ × Endpoint)) E → List ℕ → List Parcel
gave (Ok (Some datagram)) lent = record { endpoint = datagram.1; octets = take datagram.0 lent } ∷ []
gave (Ok None) lent = []
gave (Err fault) lent = []

-- what a call of `send` sent: its datagram, if it returned true
abbrev pub sent_by : {E : Type 0} → Result Bool E → Parcel → List Parcel
sent_by (Ok true) parcel = parcel ∷ []
sent_by (Ok false) parcel = []
sent_by (Err fault) parcel = []
