-- A peer, and the parts that its steps share.
use Rattle.std.specs.Prelude.{◌≡◌, ℕ, ◌+◌, ◌&&◌, Bool, List, [], ◌∷◌, length, Option, None, Some, if◌then◌else◌}
use Rattle.std.specs.Prelude.{IfNone, IfSome}
use Rattle.std.specs.Bool.{OnFalse, OnTrue}
use Rattle.call_book.specs.declared.leg_name.LegName.{LegName}
use Rattle.leg_machine.specs.Leg.{LegState}
use Rattle.leg_machine.specs.Openings.{called_of, caller_of, formats_of}
use Rattle.call_signals.specs.declared.outcomes.Judged.{Judged}
use Rattle.call_signals.specs.declared.outcomes.Judged.TheVariants.{Unnumbered}
use Rattle.call_signals.specs.declared.rules.PeerRules.{PeerRules}
use Rattle.call_signals.specs.declared.signal.Signal.{Signal}
use Rattle.call_signals.specs.declared.signal.Signal.TheVariants.{Offered}
use Rattle.peer_accounts.specs.Accounts.{Accounts, stepped, with_accepted}
pub use Rattle.peer_accounts.specs.Grants.{Granted, granted_media, granted}
use Rattle.peer_legs.specs.Legs.{PeerLegs, with_leg, with_place}
use Rattle.outbox.specs.Outbox.{OutboxView, put, with_waiting}
use Rattle.peer_accounts.specs.declared.onwards.Offer.{Offer}
use Rattle.peer_lock.specs.declared.pokes.Pokes.{Pokes}
use Rattle.peer_lock.specs.declared.steps.Step.{Step}
use Rattle.peer_lock.specs.Trunks.{has_any, goes_ahead, outbox_after, queue_after, accounts_after}
use Rattle.trunk_packer.specs.Queue.{QueueEntry}

pub record PeerView : Type 0 where
  pub rules : PeerRules
  -- the legs, by local number
  pub legs : PeerLegs
  -- the datagrams that wait to be sent, and the number that a full outbox lost
  pub outbox : OutboxView
  -- the media that waits for a trunk frame
  pub queue : List QueueEntry
  -- the moment at which the oldest of it was queued
  pub since : ℕ
  -- no NEW opens a leg any more
  pub drains : Bool
  -- the state of the exchange's POKEs to the peer
  pub pokes : Pokes
  pub accounts : Accounts

-- the peer after a step, the step's answer, its signals, and the media octets that it accepted
pub record PeerStep : Type 0 where
  pub peer : PeerView
  pub step : Step
  pub signals : List (LegName × Signal)
  pub offer : Option Offer
  pub octets : ℕ

-- no frame was judged, and no leg was concerned
abbrev pub no_leg : Step
no_leg = record { judged = Unnumbered; touched = None; rejected = None }

abbrev pub leg_alone : LegName → Judged → Step
leg_alone name judged = record { judged = judged; touched = Some name; rejected = None }

-- ---- signals handed up

abbrev pub handed_up : LegName → Option Signal → List (LegName × Signal)
handed_up name None = []
handed_up name (Some signal) = (name, signal) ∷ []

-- the offer of an offered call
abbrev pub offer_of : LegState → Offer
offer_of leg = record { called = called_of leg; caller = caller_of leg; format = leg.format; formats = formats_of leg }

abbrev pub offer_with : LegState → Option Signal → Option Offer
offer_with leg (Some Offered) = Some (offer_of leg)
offer_with leg signal = None

-- ---- sending

-- the whole queue is sent as one trunk frame, if it is to be
abbrev pub flushed_if : Bool → PeerView → PeerView
flushed_if goes peer = record peer {
  outbox = outbox_after goes peer.rules.trunk_timestamps peer.since peer.outbox peer.queue;
  queue = queue_after goes peer.queue;
  accounts = accounts_after goes peer.queue peer.accounts;
}

-- The replies of the leg of a number are put into the outbox, behind queued media of its call.
abbrev pub with_sent : PeerView → ℕ → List (List ℕ) → PeerView
with_sent peer number datagrams =
    let p = flushed_if (has_any datagrams && goes_ahead peer.rules peer.queue number) peer in
    record p { outbox = put p.outbox datagrams }

-- the leg of a name is taken out, after queued media of its call was sent
abbrev pub without_leg : PeerView → LegName → PeerView
without_leg peer name =
    record (flushed_if (goes_ahead peer.rules peer.queue name.number) peer) { legs = with_place peer.legs name.number None }

-- the datagrams that wait to be sent, and one for media that waits for a trunk frame
abbrev pub to_send : PeerView → ℕ
to_send peer = length peer.outbox.waiting + (if has_any peer.queue then 1 else 0)

-- ---- one leg's step

-- The peer with another state of one leg, and with that leg's frames. The step and the accepted octets are counted.
abbrev pub with_step : PeerView → LegName → LegState → List (List ℕ) → ℕ → PeerView
with_step peer name leg datagrams octets =
    let p = with_sent peer name.number datagrams in record p {
      legs = with_leg p.legs name leg;
      accounts = with_accepted (stepped p.accounts) octets;
    }

-- ---- steps without a leg

-- the peer with one more step
abbrev pub counted : PeerView → PeerView
counted peer = record peer { accounts = stepped peer.accounts }

-- the peer with one more datagram in its outbox
abbrev pub with_datagram : PeerView → List ℕ → PeerView
with_datagram peer datagram = record peer { outbox = put peer.outbox (datagram ∷ []) }

-- a step that leaves this peer, and hands nothing up
abbrev pub alone : PeerView → PeerStep
alone peer = record { peer = counted peer; step = no_leg; signals = []; offer = None; octets = 0 }

-- ---- the outbox is emptied

-- the oldest datagram that waited in the outbox was taken out, and nothing else changed
pub record TakesOut (out : List ℕ) (old new : PeerView) : Type 0 where
  pub oldest : old.outbox.waiting ≡ out ∷ new.outbox.waiting
  pub becomes : new ≡ record old { outbox = with_waiting old.outbox new.outbox.waiting }

-- The call `take_out` had this result.
pub record WasTakenOut (result : Option (List ℕ)) (old new : PeerView) : Type 0 where
  pub oldest : IfSome result (λ out. TakesOut out old new)
  pub empty : IfNone result ((old.outbox.waiting ≡ []) × (new ≡ old))

-- The call `take_into` had this result.
pub record WasTakenInto (result : Bool) (out_old out_new : List ℕ) (old new : PeerView) : Type 0 where
  pub oldest : OnTrue result (TakesOut out_new old new)
  pub empty : OnFalse result ((old.outbox.waiting ≡ []) × (new ≡ old))
  pub same : OnFalse result (out_new ≡ out_old)
