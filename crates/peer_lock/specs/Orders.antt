-- The steps of a peer by which a leg obeys an order ("Call Setup", "Control Frames", "Mini Frames", "Meta Frames").
use Rattle.std.specs.Prelude.{◌≡◌, ℕ, ◌+◌, ◌==◌, List, [], ◌∷◌, ◌++◌, Option, None, Some, Result, Err, length, map, true}
use Rattle.std.specs.Prelude.{if◌then◌else◌, IfErr, IfOk, OnErr, OnOk}
use Rattle.call_book.specs.declared.leg_name.LegName.{LegName}
use Rattle.iax_frames.specs.FullFrame.{spelling}
use Rattle.iax_frames.specs.MiniFrame.{mini_spelling}
use Rattle.leg_machine.specs.Media.{media_sent, after_media, media_frames}
use Rattle.leg_machine.specs.OrderTable.{Carried as OrderCarried, order_refused, order_carried, wants_memory}
use Rattle.leg_machine.specs.declared.media.MediaSent.{MediaSent}
use Rattle.leg_machine.specs.declared.media.MediaSent.TheVariants as sent
use Rattle.call_signals.specs.Order.{media_of, Order}
use Rattle.call_signals.specs.declared.order.Command.TheVariants as commands
use Rattle.call_signals.specs.declared.order.OrderError.{OrderError as LegError}
use Rattle.call_signals.specs.declared.outcomes.Judged.TheVariants.{Unnumbered}
use Rattle.memory_requests.specs.Refused.{WasRefused}
use Rattle.peer_accounts.specs.Accounts.{Credit, stepped, carry_to}
use Rattle.peer_lock.specs.Errors.{from_leg}
use Rattle.peer_legs.specs.Legs.{NamedLeg, leg_named, with_leg}
use Rattle.peer_lock.specs.Peer.{PeerView, counted, flushed_if, leg_alone, with_datagram, with_sent}
use Rattle.peer_accounts.specs.declared.account.Carried.{Carried}
use Rattle.peer_accounts.specs.declared.account.Carried.TheVariants.{Packed, Queued, Dropped, Quelched}
use Rattle.peer_lock.specs.declared.errors.OrderError.{OrderError}
use Rattle.peer_lock.specs.declared.errors.OrderError.TheVariants as errors
use Rattle.peer_lock.specs.declared.steps.Step.{Step}
use Rattle.peer_lock.specs.Trunks.{has_any, is_full_for, begins_next}
use Rattle.trunk_packer.specs.Queue.{QueueEntry}

-- ---- refusals

abbrev pub from_leg_due : Option LegError → Option OrderError
from_leg_due None = None
from_leg_due (Some due) = Some (from_leg due)

abbrev pub refused_at : Option NamedLeg → Order → ℕ → Option OrderError
refused_at None order now = Some errors.Gone
refused_at (Some named) order now = from_leg_due (order_refused named.leg order now)

-- the refusal of an order, memory aside
abbrev pub order_refused_by : PeerView → ℕ → LegName → Order → ℕ → Option OrderError
order_refused_by peer credit name order now =
    if peer.accounts.steps == credit then Some errors.StepsSpent
    else refused_at (leg_named peer.legs name) order now

-- a refusal is the one that is due; if none is due, memory was refused
abbrev pub IsOrderRefusal : Option OrderError → OrderError → Type 0
IsOrderRefusal (Some due) e = e ≡ due
IsOrderRefusal None e = e ≡ errors.Memory

-- ---- media

abbrev pub carried_media : PeerView → Carried → ℕ → PeerView
carried_media peer outcome octets = record peer { accounts = carry_to peer.accounts outcome octets }

-- an entry is queued, at this moment
abbrev pub with_entry : PeerView → QueueEntry → ℕ → PeerView
with_entry peer entry now = record peer {
  queue = peer.queue ++ entry ∷ [];
  since = if has_any peer.queue then peer.since else now;
}

-- media that waits for a trunk frame, or is dropped
abbrev pub queued_media : PeerView → QueueEntry → ℕ → PeerView
queued_media peer entry now =
    if is_full_for peer.queue (length entry.media)
    then carried_media peer Dropped (length entry.media)
    else carried_media (with_entry peer entry now) Queued (length entry.media)

-- the queue is sent first if this begins the next frame
abbrev pub waiting_media : PeerView → QueueEntry → ℕ → PeerView
waiting_media peer entry now =
    queued_media (flushed_if (begins_next peer.rules peer.queue entry.number (length entry.media)) peer) entry now

-- later media: an entry for the trunk queue, or a mini frame
abbrev pub short_media : PeerView → ℕ → ℕ → List ℕ → ℕ → PeerView
short_media peer number timestamp media now =
    if peer.rules.trunk
    then waiting_media peer (record { number = number; timestamp = timestamp; media = media }) now
    else carried_media (with_datagram peer (mini_spelling (record {
      source = number;
      timestamp = timestamp;
      media = media;
    }))) Packed (length media)

-- the accounts of media that is sent in this way
abbrev pub counted_media : MediaSent → PeerView → ℕ → List ℕ → ℕ → PeerView
counted_media sent.Quelched peer number media now = carried_media peer Quelched (length media)
counted_media sent.Voice peer number media now = carried_media peer Packed (length media)
counted_media (sent.Mini timestamp) peer number media now = short_media peer number timestamp media now

-- the leg after media, and the full frame that it sends, if it sends one
abbrev pub with_media : MediaSent → PeerView → NamedLeg → List ℕ → ℕ → PeerView
with_media sent peer named media now =
    let p = with_sent peer named.name.number (map spelling (media_frames sent named.leg media now)) in
    record p { legs = with_leg p.legs named.name (after_media sent named.leg media now) }

-- the peer after media that is sent at a leg
abbrev pub carries_media : MediaSent → PeerView → NamedLeg → List ℕ → ℕ → PeerView
carries_media sent peer named media now =
    counted_media sent (with_media sent peer named media now) named.name.number media now

-- ---- the order

-- the leg after an order, and its frames
abbrev pub with_order : PeerView → NamedLeg → OrderCarried → PeerView
with_order peer named carried =
    let p = with_sent peer named.name.number carried.datagrams in record p {
      legs = with_leg p.legs named.name carried.leg;
      accounts = stepped p.accounts;
    }

-- the peer after an order at a leg
abbrev pub ordered_at : PeerView → NamedLeg → Order → ℕ → PeerView
ordered_at peer named (commands.Media media) now = counted (carries_media (media_sent named.leg now) peer named media.now now)
ordered_at peer named order now =
    with_order peer named (order_carried named.leg order now)

abbrev pub ordered_if : PeerView → Option NamedLeg → Order → ℕ → PeerView
ordered_if peer None order now = peer
ordered_if peer (Some named) order now = ordered_at peer named order now

abbrev pub ordered_step : PeerView → LegName → Order → ℕ → PeerView
ordered_step peer name order now = ordered_if peer (leg_named peer.legs name) order now

-- The call `order` had this result. `first_steps` is the step credit with which every peer begins, and the credits are those
-- of the pass.
pub record WasOrdered (first_steps : ℕ) (name : LegName) (order : Order) (now : ℕ) (result : Result Step OrderError)
    (old new : PeerView) (credit_old credit_new : Credit) : Type 0 where
  pub peer : OnOk result (new ≡ ordered_step old name order now)
  pub step : IfOk result (λ step. step ≡ leg_alone name Unnumbered)
  pub octets : OnOk result (credit_new.octets + length (media_of order) ≡ credit_old.octets)
  pub steps : OnOk result (credit_new.steps ≡ credit_old.steps + 1)
  pub unrefused : OnOk result (order_refused_by old first_steps name order now ≡ None)
  pub refused : IfErr result (IsOrderRefusal (order_refused_by old first_steps name order now))
  pub memory : result ≡ Err errors.Memory → (named : NamedLeg) → leg_named old.legs name ≡ Some named
      → wants_memory named.leg order now ≡ true
  pub err : OnErr result ((new ≡ old) × (credit_new ≡ credit_old))
  pub no_memory : result ≡ Err errors.Memory → WasRefused
