-- No step of a peer changes its place in the plan, nor its local numbers.
use Rattle.std.proofs.Common.{◌≡◌, ℕ, zero, suc, Bool, true, false, cond, List, [], ◌∷◌, length, Option, Some, None, slice_set}
use Rattle.std.proofs.Common.{refl, sym, ap, subst, ◌∙◌}
use Rattle.call_signals.specs.Order.{Order}
use Rattle.call_signals.specs.declared.order.Command.TheVariants as commands
use Rattle.iax_frames.specs.FullFrame.{FullFrame}
use Rattle.iax_frames.specs.declared.datagram.Datagram.{Datagram}
use Rattle.iax_frames.specs.declared.datagram.Datagram.TheVariants.{Full, Mini, Video, Trunk}
use Rattle.leg_machine.specs.Media.{media_sent}
use Rattle.leg_machine.specs.declared.media.MediaSent.{MediaSent}
use Rattle.leg_machine.specs.declared.media.MediaSent.TheVariants as sent
use Rattle.peer_lock.specs.Arrivals.{delivered_step, datagram_step}
use Rattle.peer_lock.specs.Delivery.{Delivery, Reaches, NeedsNumber, NoToken, Gets, Pongs, NoCall, delivery}
use Rattle.peer_lock.specs.Legs.{PeerLegs, NamedLeg, with_place}
use Rattle.peer_lock.specs.Orders.{ordered_if, counted_media, with_media}
use Rattle.peer_lock.specs.Peer.{PeerView}
use Rattle.peer_lock.specs.Ticks.{Ticks, Packs, legs_tick}
use Rattle.peer_lock.specs.Trunks.{begins_next, is_full_for, queue_after}
use Rattle.peer_lock.specs.declared.steps.TickReport.{TickReport}

pub record IsShapedAs (old new : PeerLegs) : Type 0 where
  pub peer : new.peer ≡ old.peer
  pub first : new.first ≡ old.first
  pub count : length new.places ≡ length old.places

length_set : {X : Type 0} (xs : List X) (place : ℕ) (x : X) → length (slice_set xs place x) ≡ length xs
length_set [] place x = refl
length_set (first ∷ xs) zero x = refl
length_set (first ∷ xs) (suc place) x = ap (λ (n : ℕ). suc n) (length_set xs place x)

pub itself : (legs : PeerLegs) → IsShapedAs legs legs
itself legs = record { peer = refl; first = refl; count = refl }

pub placed : (legs : PeerLegs) (number : ℕ) (place : Option NamedLeg) → IsShapedAs legs (with_place legs number place)
placed legs number place = record { peer = refl; first = refl; count = length_set legs.places _ place }

-- ---- datagrams

delivered : (first : ℕ) (peer : PeerView) (to : Delivery) (frame : FullFrame) (now : ℕ)
    → IsShapedAs peer.legs (delivered_step first peer to frame now).peer.legs
delivered first peer (Reaches named) frame now = placed peer.legs named.name.number _
delivered first peer NeedsNumber frame now = itself peer.legs
delivered first peer NoToken frame now = itself peer.legs
delivered first peer (Gets answer) frame now = itself peer.legs
delivered first peer Pongs frame now = itself peer.legs
delivered first peer NoCall frame now = itself peer.legs

pub of_datagram : (first : ℕ) (peer : PeerView) (datagram : Datagram) (now : ℕ)
    → IsShapedAs peer.legs (datagram_step first peer datagram now).peer.legs
of_datagram first peer (Full frame) now = delivered first peer (delivery peer frame now) frame now
of_datagram first peer (Mini mini) now = itself peer.legs
of_datagram first peer (Video video) now = itself peer.legs
of_datagram first peer (Trunk trunk) now = itself peer.legs

-- ---- orders

either : (b : Bool) (x y z : PeerView) → x.legs ≡ z.legs → y.legs ≡ z.legs → (cond b x y).legs ≡ z.legs
either true x y z is or = is
either false x y z is or = or

-- counting media changes no leg
counted_legs : (s : MediaSent) (peer : PeerView) (number : ℕ) (media : List ℕ) (now : ℕ)
    → (counted_media s peer number media now).legs ≡ peer.legs
counted_legs sent.Quelched peer number media now = refl
counted_legs sent.Voice peer number media now = refl
counted_legs (sent.Mini timestamp) peer number media now =
    let left = queue_after (begins_next peer.rules peer.queue number (length media)) peer.queue in
    either peer.rules.trunk _ _ peer (either (is_full_for left (length media)) _ _ peer refl refl) refl

pub of_order : (peer : PeerView) (o : Option NamedLeg) (order : Order) (now : ℕ)
    → IsShapedAs peer.legs (ordered_if peer o order now).legs
of_order peer None order now = itself peer.legs
of_order peer (Some named) (commands.Media media) now =
    let s = media_sent named.leg now in
    subst (IsShapedAs peer.legs) (sym (counted_legs s (with_media s peer named media.now now) named.name.number media.now now))
    (placed peer.legs named.name.number _)
of_order peer (Some named) order now = placed peer.legs named.name.number _

-- ---- ticks

ticked_length : (skips : List ℕ) (places : List (Option NamedLeg)) (now : ℕ)
    → length (legs_tick skips places now).places ≡ length places
ticked_length skips [] now = refl
ticked_length [] (place ∷ places) now = ap (λ (n : ℕ). suc n) (ticked_length [] places now)
ticked_length (skipped ∷ skips) (place ∷ places) now = ap (λ (n : ℕ). suc n) (ticked_length skips places now)

-- packing changes no leg
packed_legs : (wait : Option ℕ) (old : PeerView) (now octets : ℕ) (new : PeerView) → Packs wait old now octets new
    → new.legs ≡ old.legs
packed_legs None old now octets new packs = ap (λ (p : PeerView). p.legs) packs.rest
packed_legs (Some wait) old now octets new packs = ap (λ (p : PeerView). p.legs) packs.rest

pub of_tick : (old new : PeerView) (now : ℕ) (report : TickReport) → Ticks old now report new → IsShapedAs old.legs new.legs
of_tick old new now report t =
    let between : t.between.legs ≡ record old.legs
    { places = (legs_tick t.legs.skips old.legs.places now).places } = ap (λ (p : PeerView). p.legs) t.legs.legs in
    let after : new.legs ≡ t.between.legs = packed_legs t.between.rules.trunk_ms t.between now t.octets new t.packs in
    subst (IsShapedAs old.legs) (sym (after ∙ between))
    (record { peer = refl; first = refl; count = ticked_length t.legs.skips old.legs.places now })
