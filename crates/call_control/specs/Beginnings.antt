-- The beginning of a call: its state until its first step of a peer is made, and its remaining steps if that is refused.
use Rattle.std.specs.Prelude.{Bool, true, false, Option, None, Some, Ok, Err}
use Rattle.call_book.specs.declared.errors.ReserveError.{ReserveError}
use Rattle.call_book.specs.declared.errors.ReserveError.TheVariants as reserve_errors
use Rattle.peer_lock.specs.declared.errors.PeerError.TheVariants as peer_errors
use Rattle.call_control.specs.declared.need.Need.{Need}
use Rattle.call_control.specs.declared.need.Need.TheVariants as needs
use Rattle.call_control.specs.declared.place.Place.{Place}
use Rattle.call_control.specs.declared.place.Place.TheVariants as places
use Rattle.call_control.specs.declared.reply.Reply.{Reply}
use Rattle.call_control.specs.declared.reply.Reply.TheVariants as replies

pub data Beginning : Type 0 where
  OfDatagram : Beginning
  OfTick : Beginning
  OfCall : Beginning
  OfHangUp : Beginning

-- none once the first step was made, or refused
abbrev pub beginning_at : Place → Option Beginning
beginning_at (places.Datagram peer) = Some OfDatagram
beginning_at (places.ReserveIn peer) = Some OfDatagram
beginning_at (places.RejectNew peer) = Some OfDatagram
beginning_at (places.OpenIn name) = Some OfDatagram
beginning_at (places.Tick peer) = Some OfTick
beginning_at (places.HangUp name) = Some OfHangUp
beginning_at (places.ReserveCall peer) = Some OfCall
beginning_at (places.OpenCall name) = Some OfCall
beginning_at place = None

-- no step of a peer is left; at most a lease is returned
abbrev pub is_over : Place → Bool
is_over (places.GiveBack name) = true
is_over places.End = true
is_over place = false

-- the answer is one to that step
abbrev pub is_answer : Option Need → Reply → Bool
is_answer (Some (needs.Datagram peer)) (replies.Datagram result) = true
is_answer (Some (needs.RejectNew peer)) (replies.RejectNew result) = true
is_answer (Some (needs.OpenIn name)) (replies.OpenIn result) = true
is_answer (Some (needs.OpenOut name)) (replies.OpenOut result) = true
is_answer (Some (needs.Order name command)) (replies.Order result) = true
is_answer (Some (needs.Tick peer)) (replies.Tick result) = true
is_answer (Some (needs.Look peer number)) (replies.Look status) = true
is_answer (Some (needs.Retire name)) (replies.Retire taken) = true
is_answer (Some (needs.Reserve peer)) (replies.Reserve result) = true
is_answer (Some (needs.Bridge a b)) (replies.Bridge result) = true
is_answer (Some (needs.Partner name)) (replies.Partner partner) = true
is_answer (Some (needs.Release name)) (replies.Release result) = true
is_answer (Some (needs.Route name)) (replies.Route route) = true
is_answer need reply = false

-- it says that a step of a peer was made
abbrev pub is_made : Reply → Bool
is_made (replies.Datagram (Ok heard)) = true
is_made (replies.RejectNew (Ok done)) = true
is_made (replies.OpenIn (Ok heard)) = true
is_made (replies.OpenOut (Ok done)) = true
is_made (replies.Order (Ok done)) = true
is_made (replies.Tick (Ok quiet)) = true
is_made reply = false

-- a NEW for which no number is free isn't refused yet
abbrev pub refuses_name : Place → ReserveError → Bool
refuses_name (places.ReserveIn peer) reserve_errors.NoNumber = false
refuses_name place error = true

-- it says that the step of this place was refused; a datagram that needs a number isn't
abbrev pub is_refusal : Place → Reply → Bool
is_refusal place (replies.Datagram (Err peer_errors.NeedsNumber)) = false
is_refusal place (replies.Datagram (Err error)) = true
is_refusal place (replies.RejectNew (Err error)) = true
is_refusal place (replies.OpenIn (Err error)) = true
is_refusal place (replies.OpenOut (Err error)) = true
is_refusal place (replies.Order (Err error)) = true
is_refusal place (replies.Tick (Err spent)) = true
is_refusal place (replies.Reserve (Err error)) = refuses_name place error
is_refusal place reply = false
