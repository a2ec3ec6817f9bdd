-- The loads that steps put into a peer's outbox and trunk queue, and when both have room for it ("Meta Frames").
use Rattle.std.specs.Prelude.{◌≡◌, ℕ, ◌+◌, ◌-◌, ◌≤◌, ◌⊎◌, true, false, length, Option, None, Some}
use Rattle.call_signals.specs.Order.{Kind}
use Rattle.call_signals.specs.declared.order.Command.TheVariants as commands
use Rattle.iax_frames.specs.FullFrame.{FullFrame}
use Rattle.iax_frames.specs.declared.datagram.Datagram.{Datagram}
use Rattle.iax_frames.specs.declared.datagram.Datagram.TheVariants.{Full}
use Rattle.leg_machine.specs.Steps.{full_step}
use Rattle.peer_accounts.specs.Accounts.{Accounts}
use Rattle.peer_lock.specs.Delivery.{Delivery, Reaches, delivery}
use Rattle.peer_lock.specs.Peer.{PeerView, counted, to_send}
use Rattle.peer_lock.specs.Pokes.{pokes_sent}
use Rattle.peer_lock.specs.Ticks.{Packs, Ticks, legs_tick}
use Rattle.peer_lock.specs.Trunks.{waits}
use Rattle.peer_lock.specs.declared.steps.TickReport.{TickReport}
use Rattle.trunk_packer.specs.Queue.{media_octets}

-- ---- loads

-- The most that is put there: datagrams, an entry of the trunk queue counting as one, and octets of queued media.
pub record Load : Type 0 where
  pub datagrams : ℕ
  pub octets : ℕ

-- a load of datagrams alone
abbrev pub load_of : ℕ → Load
load_of datagrams = record { datagrams = datagrams; octets = 0 }

abbrev pub no_load : Load
no_load = load_of 0

-- the sum of two loads
abbrev pub plus : Load → Load → Load
plus one other = record { datagrams = one.datagrams + other.datagrams; octets = one.octets + other.octets }

-- ---- the load of a step

-- A leg answers with as many frames as its step writes. Without a leg there is one answer at most.
abbrev pub delivered_load : Delivery → FullFrame → ℕ → Load
delivered_load (Reaches named) frame now = load_of (length (full_step named.leg frame now).replies)
delivered_load other frame now = load_of 1

-- the load of a datagram; its media is put elsewhere, by orders
abbrev pub datagram_load : PeerView → Datagram → ℕ → Load
datagram_load peer (Full frame) now = delivered_load (delivery peer frame now) frame now
datagram_load peer other now = no_load

-- the load of an order with this many octets of media
abbrev pub order_load : Kind → ℕ → Load
order_load (commands.Media _) octets = record { datagrams = 1; octets = octets }
order_load (commands.Doom cause) octets = no_load
order_load commands.Paid octets = no_load
order_load kind octets = load_of 1

-- The trunk frames into which a tick packs the queue. In plan version 4 the queue already counts as one datagram.
abbrev pub frames_packed : (wait : Option ℕ) (old : PeerView) (now octets : ℕ) (new : PeerView) → Packs wait old now octets new
    → ℕ
frames_packed None old now octets new packs = length packs.datagrams
frames_packed (Some wait) old now octets new packs = 0

-- the load of a tick: a POKE that is due, the frames of its legs, and those trunk frames
abbrev pub tick_load : (old : PeerView) (now : ℕ) (report : TickReport) (new : PeerView) → Ticks old now report new → Load
tick_load old now report new ticks = load_of
    (length (pokes_sent old.rules old.pokes now) + length (legs_tick ticks.legs.skips (counted old).legs.places now).datagrams +
    frames_packed ticks.between.rules.trunk_ms ticks.between now ticks.octets new ticks.packs)

-- ---- room

-- the media octets that were dropped because a trunk queue was full; quelched media isn't counted
abbrev pub dropped_for_room : Accounts → ℕ
dropped_for_room accounts = accounts.dropped - accounts.quelched

-- The trunk queue has room: in plan version 4 it is sent when it is full, without trunks it isn't used, otherwise the load
-- fits.
abbrev pub QueueHasRoom : PeerView → Load → Type 0
QueueHasRoom peer load =
    (waits peer.rules ≡ true) ⊎ ((peer.rules.trunk ≡ false) ⊎
    ((length peer.queue + load.datagrams ≤ 256) × (media_octets peer.queue + load.octets ≤ 16384)))

-- A peer gets this load at most, and loses none of it as long as there is room.
pub record Puts (load : Load) (old new : PeerView) : Type 0 where
  pub rules : new.rules ≡ old.rules
  -- the datagrams to be sent, of which media that waits for a trunk frame counts as one
  pub most : to_send new ≤ to_send old + load.datagrams
  pub sent : to_send old + load.datagrams ≤ 256 → new.outbox.lost ≡ old.outbox.lost
  -- the trunk queue
  pub entries : length new.queue ≤ length old.queue + load.datagrams
  pub octets : media_octets new.queue ≤ media_octets old.queue + load.octets
  pub queued : QueueHasRoom old load → dropped_for_room new.accounts ≡ dropped_for_room old.accounts
