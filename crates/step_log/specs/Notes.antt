-- The notes of a pass.
use Rattle.std.specs.Prelude.{◌≡◌, ℕ, List, [], ◌∷◌, ◌++◌, ◌+◌, Result, Ok, Err, Option, None, Some}
use Rattle.peer_accounts.specs.Accounts.{Credit}
use Rattle.peer_lock.specs.Peer.{PeerView}
use Rattle.step_log.specs.declared.made.Made.{Made}
use Rattle.step_log.specs.declared.made.Made.TheVariants as mades

-- the credit of a pass, the number of steps with which it began, and the steps noted under it since, in order
pub record Noted : Type 0 where
  pub credit : Credit
  pub begun : ℕ
  pub made : List Made

-- 1 for a step that wasn't refused
abbrev pub if_made : {A E : Type 0} → Result A E → ℕ
if_made (Ok made) = 1
if_made (Err refusal) = 0

-- 1 if it is a step of a peer that wasn't refused, or else 0
abbrev pub steps_of : Made → ℕ
steps_of (mades.Datagram peer octets now answer onwards) = if_made answer
steps_of (mades.OpenIn peer name head payload now challenge answer onwards) = if_made answer
steps_of (mades.RejectNew peer head payload answer) = if_made answer
steps_of (mades.OpenOut peer name called caller format now answer) = if_made answer
steps_of (mades.Order peer name order media now answer) = if_made answer
steps_of (mades.Tick peer now answer) = if_made answer
steps_of made = 0

-- the number of peer steps in a trail
abbrev pub steps_in : List Made → ℕ
steps_in [] = 0
steps_in (made ∷ rest) = steps_of made + steps_in rest

-- the pass with one more note
abbrev pub note : Made → Noted → Noted
note made pass = record pass { made = pass.made ++ made ∷ [] }

-- an answer without the lease that came back
abbrev pub without_lease : {A E L : Type 0} → Result A (L × E) → Result A E
without_lease (Ok made) = Ok made
without_lease (Err back) = Err back.1

-- a leg that was given up, if one was, without its lease
abbrev pub given_up : {L A : Type 0} → Option (L × A) → Option A
given_up None = None
given_up (Some given) = Some given.1

-- a peer's place in the plan, and its state
pub record Peer : Type 0 where
  pub number : ℕ
  pub state : PeerView

-- a pass gets one more note, and its credit may change in any way
pub record Notes (step : Made) (old new : Noted) : Type 0 where
  pub made : new.made ≡ old.made ++ step ∷ []
  pub begun : new.begun ≡ old.begun
