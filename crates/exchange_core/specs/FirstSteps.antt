-- The needs of a call's first steps, and what they leave to the next.
use Rattle.std.specs.Option.{option_or}
use Rattle.std.specs.Prelude.{◌≡◌, ℕ, ◌<◌, Option, None, Some, Ok, Err, IsSome, IfSome}
use Rattle.call_book.specs.declared.leg_name.LegName.{LegName}
use Rattle.peer_lock.specs.Accounts.{Credit, with_step}
use Rattle.peer_lock.specs.declared.errors.OpenError.TheVariants as open_errors
use Rattle.peer_lock.specs.declared.errors.PeerError.TheVariants as peer_errors
use Rattle.call_control.specs.declared.need.Need.{Need}
use Rattle.call_control.specs.declared.need.Need.TheVariants as needs
use Rattle.call_control.specs.declared.place.Place.{Place}
use Rattle.call_control.specs.declared.place.Place.TheVariants as places
use Rattle.call_control.specs.declared.reply.Reply.{Reply}
use Rattle.call_control.specs.declared.reply.Reply.TheVariants as replies
use Rattle.exchange_core.specs.Names.{named_of}
use Rattle.exchange_core.specs.declared.denial.Denial.{Denial}

-- a call begins here, at one of the plan's peers
abbrev pub StartsInPlan : ℕ → Place → Type 0
StartsInPlan peers (places.Datagram peer) = peer < peers
StartsInPlan peers (places.Tick peer) = peer < peers
StartsInPlan peers (places.HangUp name) = name.peer < peers
StartsInPlan peers (places.ReserveCall peer) = peer < peers
StartsInPlan peers place = ⊥

-- a datagram, a tick, a rejected NEW, and the leg of a NEW that isn't rejected are of one of the plan's peers
abbrev pub InPlan : ℕ → Option Need → Type 0
InPlan peers (Some (needs.Datagram peer)) = peer < peers
InPlan peers (Some (needs.Tick peer)) = peer < peers
InPlan peers (Some (needs.RejectNew peer)) = peer < peers
InPlan peers (Some (needs.OpenIn name)) = name.peer < peers
InPlan peers need = Unit {0}

-- a received NEW opens a leg, or is rejected
abbrev pub IsOfNew : Option Need → Type 0
IsOfNew (Some (needs.RejectNew peer)) = Unit {0}
IsOfNew (Some (needs.OpenIn name)) = Unit {0}
IsOfNew need = ⊥

-- the datagram needs a number for its leg
abbrev pub IsOpeningDue : Reply → Type 0
IsOpeningDue (replies.Datagram (Err peer_errors.NeedsNumber)) = Unit {0}
IsOpeningDue reply = ⊥

-- a name is one of the peer that was asked for
abbrev pub KeepsPeer : Option Need → Reply → Type 0
KeepsPeer (Some (needs.Reserve peer)) (replies.Reserve (Ok name)) = name.peer ≡ peer
KeepsPeer need reply = Unit {0}

-- the last name that the book gave
abbrev pub named_after : Reply → Option LegName → Option LegName
named_after reply named = option_or (named_of reply) named

-- a leg was opened by a NEW of this exchange
abbrev pub IsOpenedOut : Reply → Type 0
IsOpenedOut (replies.OpenOut (Ok done)) = Unit {0}
IsOpenedOut reply = ⊥

-- such a NEW is refused neither because its peer drains nor for its source
abbrev pub FitsOpenOut : Reply → Type 0
FitsOpenOut (replies.OpenOut (Err open_errors.Draining)) = ⊥
FitsOpenOut (replies.OpenOut (Err open_errors.RemoteBusy)) = ⊥
FitsOpenOut reply = Unit {0}

-- Unless it is denied, the call that began here made one step without media. It was at a leg of its peer under the last
-- name that the book gave.
abbrev pub CallIsMade : Place → Credit → Credit → Option Denial → Option LegName → Type 0
CallIsMade (places.ReserveCall peer) first now None named = (now ≡ with_step first 0) × IsSome named ×
    IfSome named (λ name. name.peer ≡ peer)
CallIsMade start first now denial named = Unit {0}
