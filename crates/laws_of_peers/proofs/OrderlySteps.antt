-- What each step of a peer carries on.
use Rattle.std.specs.Prelude.{map, ◌-◌}
use Rattle.std.proofs.Common.{ℕ, ◌≡◌, false, List, [], ◌∷◌, Option, None}
use Rattle.std.proofs.Common.{Some, sym, subst, refl, ◌∙◌, arith}
use Rattle.call_book.specs.declared.leg_name.LegName.{LegName}
use Rattle.call_signals.specs.declared.format.Format.{Format}
use Rattle.call_signals.specs.declared.message.Message.TheVariants.{New}
use Rattle.call_signals.specs.Order.{Order}
use Rattle.call_signals.specs.declared.order.Command.TheVariants as commands
use Rattle.iax_frames.specs.FullFrame.{FullFrame, spelling}
use Rattle.iax_frames.specs.declared.datagram.Datagram.{Datagram}
use Rattle.iax_frames.specs.declared.datagram.Datagram.TheVariants.{Full, Mini, Video, Trunk}
use Rattle.leg_machine.specs.Media.{media_sent}
use Rattle.leg_machine.specs.Openings.{leg_for_new, open_in_step, open_out_step, opening_effect, opening_of}
use Rattle.leg_machine.specs.OrderTable.{order_carried, order_row, row_carried}
use Rattle.leg_machine.specs.Replies.{next_byte, outgoing, reply_frame}
use Rattle.leg_machine.specs.Steps.{full_step}
use Rattle.leg_machine.specs.Working.{agreed}
use Rattle.leg_machine.specs.Leg.{LegState, obeyed}
use Rattle.leg_machine.specs.declared.orders.Ordered.{Ordered}
use Rattle.outbox.specs.Outbox.{put}
use Rattle.peer_accounts.specs.Accounts.{stepped, with_accepted}
use Rattle.peer_legs.specs.Legs.{AreLegs, NamedLeg, leg_named, with_leg, with_place}
use Rattle.peer_lock.specs.Arrivals.{MediaTaken, answering, datagram_step, delivered_step, media_step, mini_media, trunk_media}
use Rattle.laws_of_peers.specs.CarriedOn.{CarriesByOrder, CarriesOn}
use Rattle.peer_lock.specs.Delivery.{Delivery, Gets, NeedsNumber, NoCall, NoToken, Pongs, Reaches, answer_data, answer_octets}
use Rattle.peer_lock.specs.Delivery.{closed_to_calls, delivered, delivery, found, reject_for}
use Rattle.peer_lock.specs.Openings.{opens_in, opens_out, rejects_new, with_opened, with_seated}
use Rattle.peer_lock.specs.Orders.{carries_media, ordered_at, ordered_if, ordered_step, with_order}
use Rattle.peer_lock.specs.Peer.{PeerView, counted, flushed_if, granted, with_datagram, with_sent, without_leg}
use Rattle.peer_lock.specs.Pokes.{answered as pokes_answered}
use Rattle.peer_lock.specs.Trunks.{goes_ahead}
use Rattle.peer_lock.specs.declared.steps.Rejection.{Rejection}
use Rattle.peer_lock.specs.declared.steps.Rejection.TheVariants.{NoNumber}
use Rattle.peer_lock.specs.Delivery.{UnknownAnswer}
use Rattle.laws_of_peers.proofs.OldFrames.{AreOld, full_old, reply_old, taken_old}
use Rattle.laws_of_peers.proofs.OrderlyMedia.{media_goes}
use Rattle.laws_of_peers.proofs.OrderlyParts.{IsOld, carries_none, carries_order_too, carries_too, flush_carries}
use Rattle.laws_of_peers.proofs.OrderlyParts.{put_carries, sent_carries}
use Rattle.laws_of_peers.proofs.SeenChanges.{named_at}
use Rattle.laws_of_peers.proofs.UnknownCalls.{of_each}
use Rattle.peer_legs.proofs.PlaceLaws.{stands_at}

-- ---- datagrams

pub counted_carries : (peer : PeerView) → CarriesOn peer (counted peer)
counted_carries peer = carries_too peer peer peer.legs peer.pokes (stepped peer.accounts) refl (carries_none peer)

media_carries : (peer : PeerView) (media : MediaTaken) → CarriesOn peer (media_step peer media).peer
media_carries peer media =
    carries_too peer peer peer.legs peer.pokes (with_accepted (stepped peer.accounts) media.octets) refl (carries_none peer)

-- an answer without a leg isn't voice
abbrev IsOldAnswer : UnknownAnswer → Type 0
IsOldAnswer answer = IsOld (record { head = answer.head; payload = answer_data answer.says })

answer_carries : (peer : PeerView) (answer : UnknownAnswer) → IsOldAnswer answer → CarriesOn peer (answering peer answer).peer
answer_carries peer answer old =
    let frame : FullFrame = record { head = answer.head; payload = answer_data answer.says } in
    let out : PeerView = with_datagram peer (answer_octets answer) in
    carries_too peer out out.legs out.pokes (stepped out.accounts) refl (put_carries peer (frame ∷ []) (old, tt))

abbrev IsOldDelivery : Delivery → Type 0
IsOldDelivery (Gets answer) = IsOldAnswer answer
IsOldDelivery other = Unit {0}

delivery_old : (closed : Option Rejection) (peer : PeerView) (o : Option NamedLeg) (frame : FullFrame) (now : ℕ)
    → IsOldDelivery (delivered closed peer.rules peer.pokes o frame now)
delivery_old closed peer (Some named) frame now = tt
delivery_old closed peer None frame now =
    of_each IsOldDelivery closed peer.rules peer.pokes frame now tt tt tt tt (λ is. absurd (omega (arith, is)))
    (λ is. absurd (omega (arith, is))) (λ is. absurd (omega (arith, is))) (λ why is. absurd (omega (arith, is)))
    (λ tokens is. absurd (omega (arith, is)))

delivered_carries : (first : ℕ) (peer : PeerView) (to : Delivery) (frame : FullFrame) (now : ℕ) → IsOldDelivery to
    → CarriesOn peer (delivered_step first peer to frame now).peer
delivered_carries first peer (Reaches named) frame now old =
    let s = full_step named.leg frame now in
    let with : PeerView = with_sent peer named.name.number (map spelling s.replies) in
    let octets : ℕ = (granted first peer.accounts.accepted s.signal).octets in
    carries_too peer with (with_leg with.legs named.name s.leg) with.pokes (with_accepted (stepped with.accounts) octets) refl
    (sent_carries peer named.name.number s.replies (full_old named.leg frame now))
delivered_carries first peer NeedsNumber frame now old = counted_carries peer
delivered_carries first peer NoToken frame now old = counted_carries peer
delivered_carries first peer (Gets answer) frame now old = answer_carries peer answer old
delivered_carries first peer Pongs frame now old =
    carries_too peer peer peer.legs (pokes_answered peer.pokes now) (stepped peer.accounts) refl (carries_none peer)
delivered_carries first peer NoCall frame now old = counted_carries peer

pub datagram_carries : (first : ℕ) (peer : PeerView) (datagram : Datagram) (now : ℕ)
    → CarriesOn peer (datagram_step first peer datagram now).peer
datagram_carries first peer (Full frame) now =
    delivered_carries first peer (delivery peer frame now) frame now (delivery_old (closed_to_calls peer) peer
    (found peer.legs frame) frame now)
datagram_carries first peer (Mini mini) now = media_carries peer (mini_media first peer mini)
datagram_carries first peer (Video video) now = counted_carries peer
datagram_carries first peer (Trunk trunk) now = media_carries peer (trunk_media first peer trunk)

-- ---- openings

opened_carries : (peer : PeerView) (named : NamedLeg) (frames : List FullFrame) → AreOld frames
    → CarriesOn peer (with_opened peer named (map spelling frames))
opened_carries peer named frames old =
    carries_too peer (record peer { outbox = put peer.outbox (map spelling frames) }) (with_seated peer named).legs peer.pokes
    (stepped peer.accounts) refl (put_carries peer frames old)

pub call_in_carries : (peer : PeerView) (name : LegName) (frame : FullFrame) (now : ℕ) (challenge : List ℕ)
    → CarriesOn peer (opens_in peer name frame now challenge).peer
call_in_carries peer name frame now challenge =
    let s = open_in_step peer.rules name.number frame now challenge in
    opened_carries peer (record { name = name; leg = s.leg }) s.replies
    (taken_old (opening_effect (opening_of peer.rules frame)) (leg_for_new peer.rules name.number frame now challenge) frame New
    now)

pub rejection_carries : (peer : PeerView) (frame : FullFrame) → CarriesOn peer (rejects_new peer frame).peer
rejection_carries peer frame = answer_carries peer (reject_for NoNumber frame.head) (λ is. absurd (omega (arith, is)))

pub call_out_carries : (peer : PeerView) (name : LegName) (called caller : List ℕ) (format : Format) (now : ℕ)
    → CarriesOn peer (opens_out peer name called caller format now).peer
call_out_carries peer name called caller format now =
    let s = open_out_step peer.rules name.number called caller format now in
    opened_carries peer (record { name = name; leg = s.leg }) s.replies ((λ is. absurd (omega (arith, is))), tt)

pub retiring_carries : (peer : PeerView) (name : LegName) → CarriesOn peer (without_leg peer name)
retiring_carries peer name =
    let goes = goes_ahead peer.rules peer.queue name.number in
    let flushed : PeerView = flushed_if goes peer in
    carries_too peer flushed (with_place peer.legs name.number None) flushed.pokes flushed.accounts refl (flush_carries goes peer)

-- ---- orders

with_order_carries : (peer : PeerView) (named : NamedLeg) (leg : LegState) (frames : List FullFrame) → AreOld frames
    → CarriesOn peer (with_order peer named (record { leg = leg; datagrams = map spelling frames }))
with_order_carries peer named leg frames old =
    let with : PeerView = with_sent peer named.name.number (map spelling frames) in
    carries_too peer with (with_leg with.legs named.name leg) with.pokes (stepped with.accounts) refl
    (sent_carries peer named.name.number frames old)

row_carries : (peer : PeerView) (named : NamedLeg) (row : Option Ordered) (now : ℕ)
    → CarriesOn peer (with_order peer named (row_carried named.leg row now))
row_carries peer named None now = with_order_carries peer named named.leg [] tt
row_carries peer named (Some row) now =
    let leg_in = agreed (obeyed named.leg row.stage now) row.reply in
    with_order_carries peer named (row_carried named.leg (Some row) now).leg
    (outgoing leg_in false (next_byte leg_in) (reply_frame leg_in now row.reply) ∷ [])
    (reply_old leg_in (next_byte leg_in) now row.reply, tt)

at_carries : (peer : PeerView) (named : NamedLeg) (order : Order) (now : ℕ) → named.leg.number ≡ named.name.number
    → CarriesByOrder order named.name.number peer (ordered_at peer named order now)
at_carries peer named (commands.Media media) now number =
    let carried : PeerView = carries_media (media_sent named.leg now) peer named media.now now in
    carries_order_too named.name.number media.now peer carried carried.legs carried.pokes (stepped carried.accounts) refl
    (media_goes (media_sent named.leg now) peer named media.now now number)
at_carries peer named (commands.Doom cause) now number =
    with_order_carries peer named (order_carried named.leg (commands.Doom cause) now).leg [] tt
at_carries peer named commands.Paid now number =
    with_order_carries peer named (order_carried named.leg commands.Paid now).leg [] tt
at_carries peer named (commands.Accept format) now number =
    row_carries peer named (order_row named.leg (commands.Accept format)) now
at_carries peer named (commands.Reject cause) now number =
    row_carries peer named (order_row named.leg (commands.Reject cause)) now
at_carries peer named (commands.Indicate i) now number = row_carries peer named (order_row named.leg (commands.Indicate i)) now
at_carries peer named commands.Answer now number = row_carries peer named (order_row named.leg commands.Answer) now
at_carries peer named (commands.Dtmf digit) now number = row_carries peer named (order_row named.leg (commands.Dtmf digit)) now
at_carries peer named (commands.Hangup cause) now number =
    row_carries peer named (order_row named.leg (commands.Hangup cause)) now

pub order_carries : (peer : PeerView) (name : LegName) (named : NamedLeg) (order : Order) (now : ℕ) → AreLegs peer.legs
    → leg_named peer.legs name ≡ Some named → CarriesByOrder order name.number peer (ordered_step peer name order now)
order_carries peer name named order now are found_it =
    let at = named_at peer.legs name named found_it in
    let here = stands_at peer.legs name.number named at.at in
    let numbers = are.named (name.number - peer.legs.first) named here.place in
    let number : named.leg.number ≡ named.name.number = numbers.2 ∙ sym numbers.1 in
    subst (λ (o : Option NamedLeg). CarriesByOrder order name.number peer (ordered_if peer o order now)) (sym found_it)
    (subst (λ (n : LegName). CarriesByOrder order n.number peer (ordered_at peer named order now)) at.is
    (at_carries peer named order now number))
