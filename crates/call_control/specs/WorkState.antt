-- A call's steps, with the list of signals that the last step of a peer wrote.
use Rattle.std.specs.Prelude.{ℕ, ◌-◌, Bool, true, false, List, [], ◌∷◌, drop, length, Option, None, Some, Ok}
use Rattle.call_book.specs.declared.leg_name.LegName.{LegName}
use Rattle.call_signals.specs.declared.signal.Signal.{Signal}
use Rattle.peer_lock.specs.HandedUp.{HandedUp}
use Rattle.peer_accounts.specs.declared.onwards.Offer.{Offer}
use Rattle.call_control.specs.declared.place.Place.{Place}
use Rattle.call_control.specs.declared.place.Place.TheVariants as places
use Rattle.call_control.specs.declared.reply.Reply.{Reply}
use Rattle.call_control.specs.declared.reply.Reply.TheVariants as replies
use Rattle.call_control.specs.Work.{Work}

pub record WorkState : Type 0 where
  pub work : Work
  pub onwards : Option HandedUp

-- a call without a list yet
abbrev pub begun : Work → WorkState
begun work = record { work = work; onwards = None }

-- whether the answer here brings a list
abbrev pub brings_list : Place → Bool
brings_list (places.Datagram peer) = true
brings_list (places.OpenIn name) = true
brings_list place = false

-- the list that the last step of a peer wrote
abbrev pub onwards_after : Place → Reply → Option HandedUp → Option HandedUp
onwards_after (places.Datagram peer) (replies.Datagram (Ok heard)) onwards = Some heard.onwards
onwards_after (places.OpenIn name) (replies.OpenIn (Ok heard)) onwards = Some heard.onwards
onwards_after place reply onwards = onwards

-- the offer of an offered call
abbrev pub offer_in : Option HandedUp → Option Offer
offer_in None = None
offer_in (Some onwards) = onwards.offer

-- the signals of the list
abbrev pub signals_of : Option HandedUp → List (LegName × Signal)
signals_of None = []
signals_of (Some onwards) = onwards.signals

abbrev pub last_signals : Option HandedUp → ℕ → List (LegName × Signal)
last_signals onwards count = drop (length (signals_of onwards) - count) (signals_of onwards)

abbrev pub first_of : {A : Type 0} → List A → Option A
first_of [] = None
first_of (up ∷ onward) = Some up

abbrev pub tail_of : {A : Type 0} → List A → List A
tail_of [] = []
tail_of (up ∷ onward) = onward

abbrev pub without_first : Work → Work
without_first work = record work { rest = record work.rest { onward = tail_of work.rest.onward } }
