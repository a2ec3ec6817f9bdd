-- The steps of a peer that are ticks ("Message Transport", "Meta Frames").
use Rattle.std.specs.Prelude.{◌≡◌, ℕ, ◌+◌, ◌<◌, ◌≤◌, ◌==◌, ◌⊎◌, ◌&&◌, nat_lt, Bool, true, false, All, List, [], ◌∷◌, ◌++◌, Option}
use Rattle.std.specs.Prelude.{None, Some, Result, IsErr, IsTrue, IfOk, OnErr, OnOk, ◌↔◌, length, map}
use Rattle.iax_frames.specs.FullFrame.{spelling}
use Rattle.leg_machine.specs.Ticks.{tick_step}
use Rattle.peer_legs.specs.Legs.{NamedLeg}
use Rattle.peer_accounts.specs.Accounts.{Credit, with_step}
use Rattle.peer_legs.specs.Rests.{is_quiet, is_resting}
use Rattle.outbox.specs.Outbox.{put, extended}
use Rattle.peer_lock.specs.Peer.{PeerView, counted, flushed_if}
use Rattle.peer_lock.specs.Pokes.{is_poke_due, pokes_after, pokes_sent}
use Rattle.peer_lock.specs.Trunks.{has_any, waits, is_due}
use Rattle.peer_lock.specs.declared.errors.StepsSpent.{StepsSpent}
use Rattle.peer_lock.specs.declared.steps.TickReport.{TickReport}
use Rattle.trunk_packer.specs.Queue.{QueueEntry, media_octets, PacksFront}

-- ---- the legs, by ascending number

-- the leg at a place after a tick, the datagrams that it sends, and the number of frames without memory
pub record PlaceTick : Type 0 where
  pub place : Option NamedLeg
  pub datagrams : List (List ℕ)
  pub skipped : ℕ

-- skipped is the number of frames without memory
abbrev pub place_tick : ℕ → Option NamedLeg → ℕ → PlaceTick
place_tick skipped None now = record { place = None; datagrams = []; skipped = 0 }
place_tick skipped (Some named) now =
    let t = tick_step (skipped == 0) named.leg now in
    record {
      place = Some (record { name = named.name; leg = t.leg });
      datagrams = map spelling t.replies;
      skipped = t.skipped;
    }

-- the same for all places
pub record LegsTick : Type 0 where
  pub places : List (Option NamedLeg)
  pub datagrams : List (List ℕ)
  pub skipped : ℕ

abbrev pub then_ticks : PlaceTick → LegsTick → LegsTick
then_ticks first rest = record {
  places = first.place ∷ rest.places;
  datagrams = first.datagrams ++ rest.datagrams;
  skipped = first.skipped + rest.skipped;
}

-- with the number of frames without memory at each place
abbrev pub legs_tick : List ℕ → List (Option NamedLeg) → ℕ → LegsTick
legs_tick skips [] now = record { places = []; datagrams = []; skipped = 0 }
legs_tick [] (place ∷ places) now = then_ticks (place_tick 0 place now) (legs_tick [] places now)
legs_tick (skipped ∷ skips) (place ∷ places) now = then_ticks (place_tick skipped place now) (legs_tick skips places now)

-- ---- the trunk queue

-- these datagrams are trunk frames of fronts of a queue, none of them empty, one after another, and the rest of it stays
abbrev pub PacksFronts : Bool → ℕ → List QueueEntry → List (List ℕ) → List QueueEntry → Type 0
PacksFronts timed now old [] new = new ≡ old
PacksFronts timed now old (datagram ∷ datagrams) new =
    (rest : List QueueEntry) × PacksFront timed now old rest datagram × (length rest < length old) ×
    PacksFronts timed now rest datagrams new

-- the queue is packed, as far as the outbox has room
abbrev pub IsPacked : PeerView → Type 0
IsPacked peer = (peer.queue ≡ []) ⊎ (256 ≤ length peer.outbox.waiting)

-- the peer with more in its outbox, and less in its queue
abbrev pub with_packed : PeerView → List (List ℕ) → List QueueEntry → ℕ → PeerView
with_packed peer datagrams queue octets = record peer {
  outbox = extended peer.outbox datagrams;
  queue = queue;
  accounts = record peer.accounts { packed = peer.accounts.packed + octets; queued = media_octets queue };
}

-- one trunk frame is packed, with this many octets of media
pub record PacksOne (old : PeerView) (now octets : ℕ) (new : PeerView) : Type 0 where
  pub datagram : List ℕ
  pub front : PacksFront old.rules.trunk_timestamps now old.queue new.queue datagram
  pub media : media_octets old.queue ≡ octets + media_octets new.queue
  pub shorter : length new.queue < length old.queue
  pub rest : new ≡ with_packed old (datagram ∷ []) new.queue octets

-- trunk frames are packed, with this many octets of media, until nothing is queued or the outbox is full
pub record PacksMedia (old : PeerView) (now octets : ℕ) (new : PeerView) : Type 0 where
  pub datagrams : List (List ℕ)
  pub fronts : PacksFronts old.rules.trunk_timestamps now old.queue datagrams new.queue
  pub media : media_octets old.queue ≡ octets + media_octets new.queue
  pub rest : new ≡ with_packed old datagrams new.queue octets
  pub done : IsPacked new

-- the whole queue is sent as one frame, once its oldest entry has waited long enough and the outbox has room
pub record PacksDue (old : PeerView) (now octets : ℕ) (new : PeerView) : Type 0 where
  pub rest : new ≡ flushed_if (is_due old.rules.trunk_ms old.since now && nat_lt (length old.outbox.waiting) 256) old
  pub media : new.accounts.packed ≡ old.accounts.packed + octets

-- the trunk queue at a tick
abbrev pub Packs : Option ℕ → PeerView → ℕ → ℕ → PeerView → Type 0
Packs None old now octets new = PacksMedia old now octets new
Packs (Some wait) old now octets new = PacksDue old now octets new

-- ---- nothing to do

-- no queued media is due at this moment
abbrev pub QueueRests : PeerView → ℕ → Type 0
QueueRests peer now =
    (peer.queue ≡ []) ⊎ (waits peer.rules ≡ true) × (is_due peer.rules.trunk_ms peer.since now ≡ false)

-- a tick at this moment has nothing to do: no POKE is due, each leg rests, and so does the queue
pub record RestsAt (peer : PeerView) (now : ℕ) : Type 0 where
  pub legs : All (λ place. is_resting place now ≡ true) peer.legs.places
  pub queue : QueueRests peer now
  pub pokes : is_poke_due peer.rules peer.pokes now ≡ false
  pub few : length peer.outbox.waiting ≤ 256

-- ---- the tick

-- a POKE goes out, if one is due
abbrev pub asked : PeerView → ℕ → PeerView
asked peer now = record peer {
  outbox = put peer.outbox (pokes_sent peer.rules peer.pokes now);
  pokes = pokes_after peer.rules peer.pokes now;
}

-- In plan version 4 the queue is sent ahead of the legs' datagrams, if there are any.
abbrev pub flushed_ahead : PeerView → List (List ℕ) → PeerView
flushed_ahead peer datagrams = flushed_if (has_any datagrams && waits peer.rules) peer

-- the effect of the legs' ticks on the peer, the number of frames without memory, and the octets of media packed ahead
pub record TicksLegs (old : PeerView) (now skipped : ℕ) (new : PeerView) : Type 0 where
  pub skips : List ℕ
  pub count : skipped ≡ (legs_tick skips old.legs.places now).skipped
  pub legs : new ≡ record (flushed_ahead old (legs_tick skips old.legs.places now).datagrams) {
    legs = record old.legs { places = (legs_tick skips old.legs.places now).places };
    outbox = put (flushed_ahead old (legs_tick skips old.legs.places now).datagrams).outbox
        (legs_tick skips old.legs.places now).datagrams;
  }

-- the step is counted, then a POKE is sent if one is due, each leg is ticked in order, and the trunk queue is packed
pub record Ticks (old : PeerView) (now : ℕ) (report : TickReport) (new : PeerView) : Type 0 where
  pub between : PeerView
  pub legs : TicksLegs (asked (counted old) now) now report.skipped between
  pub octets : ℕ
  pub packs : Packs between.rules.trunk_ms between now octets new
  pub packed : new.accounts.packed ≡ old.accounts.packed + report.packed

-- The call `tick` had this result. `first_steps` is the step credit with which every peer begins, and the credits are those
-- of the pass.
pub record WasTicked (first_steps now : ℕ) (result : Result TickReport StepsSpent) (old new : PeerView)
    (credit_old credit_new : Credit) : Type 0 where
  pub spent : IsErr result ↔ (old.accounts.steps ≡ first_steps)
  pub ticked : IfOk result (λ report. Ticks old now report new)
  pub quiet : IfOk result (λ report. IsTrue report.is_quiet ↔ All (λ place. is_quiet place ≡ true) new.legs.places)
  pub credit : OnOk result (credit_new ≡ with_step credit_old 0)
  pub err : OnErr result ((new ≡ old) × (credit_new ≡ credit_old))
