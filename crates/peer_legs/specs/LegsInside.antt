-- The legs that the arrays represent.
use Rattle.std.specs.Prelude.{◌≡◌, ℕ, ◌+◌, ◌<◌, ◌≤◌, true, List, Option, Some, length, slice_get, All}
use Rattle.leg_machine.specs.Leg.{LegState}
use Rattle.leg_machine.specs.Tie.{SendsNumbered}
use Rattle.seq_window.specs.History.{IsLegal, acked_count, sent_count}
use Rattle.seq_window.specs.Window.{held_count}
use Rattle.peer_legs.specs.Legs.{NamedLeg, PeerLegs, AreLegs}
use Rattle.peer_legs.specs.Rests.{is_resting}
use Rattle.peer_legs.specs.declared.peer_legs.PeerLegs.TheInside.{Inside}

abbrev pub legs_of : Inside → PeerLegs
legs_of a = record { peer = a.peer; first = a.first; places = a.places.items }

-- the leg at a place has this remote number
pub record HasRemote (legs : PeerLegs) (place remote : ℕ) : Type 0 where
  pub named : NamedLeg
  pub at : slice_get legs.places place ≡ Some (Some named)
  pub is : named.leg.remote ≡ Some remote

-- an array that says which leg has each remote number
pub record IsIndex (legs : PeerLegs) (index : List (Option ℕ)) : Type 0 where
  pub listed : (place remote : ℕ) → HasRemote legs place remote → slice_get index remote ≡ Some (Some (legs.first + place))
  pub right : (remote number : ℕ) → slice_get index remote ≡ Some (Some number) →
      (place : ℕ) × (number ≡ legs.first + place) × HasRemote legs place remote

-- before a moment all legs rest
abbrev pub RestUntil : ℕ → List (Option NamedLeg) → Type 0
RestUntil until places = (now : ℕ) → now < until → All (λ place. is_resting place now ≡ true) places

-- A leg's record is legal, what it has as sent is numbered, and as many frames are held as it has as sent and not acknowledged.
pub record IsRecorded (leg : LegState) : Type 0 where
  pub legal : IsLegal leg.window.width leg.window.limit leg.window.history
  pub numbered : SendsNumbered leg
  pub held : held_count leg.window + acked_count leg.window.history ≡ sent_count leg.window.history

pub record IsSound (a : Inside) : Type 0 where
  pub legs : AreLegs (legs_of a)
  pub index : IsIndex (legs_of a) a.by_remote
  pub rest : RestUntil a.rest_until a.places.items
  -- a peer has at most 512 numbers
  pub most : length a.places.items ≤ 512
