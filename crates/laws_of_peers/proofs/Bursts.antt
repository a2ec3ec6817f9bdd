-- The number of datagrams that media adds to those to be sent.
use Rattle.std.specs.Prelude.{map}
use Rattle.std.proofs.Common.{◌≡◌, ◌≤◌, ℕ, ◌+◌, ◌&&◌, Bool, true, false, List, [], ◌∷◌, ◌++◌, Option, None, Some, length, ap}
use Rattle.std.proofs.Common.{refl, ◌∙◌, arith}
use Rattle.std.proofs.lemmas.List.{drop_all, length-append, length-take}
use Rattle.call_book.specs.declared.leg_name.LegName.{LegName}
use Rattle.call_signals.specs.Order.{kind_of, Order}
use Rattle.call_signals.specs.declared.order.Command.TheVariants as commands
use Rattle.iax_frames.specs.FullFrame.{spelling}
use Rattle.iax_frames.specs.MiniFrame.{mini_spelling}
use Rattle.leg_machine.specs.Media.{media_sent, media_frames}
use Rattle.leg_machine.specs.declared.media.MediaSent.{MediaSent}
use Rattle.leg_machine.specs.declared.media.MediaSent.TheVariants as sent
use Rattle.outbox.specs.Outbox.{OutboxView, put, lose}
use Rattle.peer_accounts.specs.declared.account.Carried.TheVariants.{Packed, Queued, Dropped}
use Rattle.peer_legs.specs.Legs.{NamedLeg, leg_named}
use Rattle.peer_lock.specs.Orders.{ordered_if, ordered_step, carries_media, short_media, waiting_media, queued_media}
use Rattle.peer_lock.specs.Orders.{carried_media, with_entry, with_media}
use Rattle.peer_lock.specs.Peer.{PeerView, flushed_if, to_send, with_datagram, with_sent}
use Rattle.peer_lock.specs.Trunks.{has_any, goes_ahead, begins_next, is_full_for}
use Rattle.peer_lock.proofs.Choices.{either}
use Rattle.trunk_packer.specs.Queue.{QueueEntry, trunk_spelling}

-- At most n more datagrams are to be sent, and nothing is lost as long as all fit in 256.
pub record Adds (n : ℕ) (old new : PeerView) : Type 0 where
  pub most : to_send new ≤ to_send old + n
  pub kept : to_send old + n ≤ 256 → new.outbox.lost ≡ old.outbox.lost

pub none_added : (peer : PeerView) → Adds 0 peer peer
none_added peer = record { most = omega arith; kept = λ _. refl }

pub then_adds : (n m : ℕ) (a b c : PeerView) → Adds n a b → Adds m b c → Adds (n + m) a c
then_adds n m a b c first second = record {
  most = omega (arith, first.most, second.most);
  kept = λ fits. second.kept (omega (arith, first.most, fits)) ∙ first.kept (omega (arith, fits));
}

-- ---- the outbox

put_most : (outbox : OutboxView) (datagrams : List (List ℕ)) → length (put outbox datagrams).waiting ≤ length outbox.waiting
    + length datagrams
put_most outbox datagrams = omega (arith, length-take 256 (outbox.waiting ++ datagrams), length-append outbox.waiting datagrams)

put_kept : (outbox : OutboxView) (datagrams : List (List ℕ)) → length outbox.waiting + length datagrams ≤ 256
    → (put outbox datagrams).lost ≡ outbox.lost
put_kept outbox datagrams fits =
    ap (lose outbox.lost) (drop_all 256 (outbox.waiting ++ datagrams) (omega (
      arith,
      length-append outbox.waiting datagrams,
      fits,
    )))

pub put_adds : (peer : PeerView) (datagrams : List (List ℕ))
    → Adds (length datagrams) peer (record peer { outbox = put peer.outbox datagrams })
put_adds peer datagrams = record {
  most = omega (arith, put_most peer.outbox datagrams);
  kept = λ fits. put_kept peer.outbox datagrams (omega (arith, fits));
}

-- ---- the queue

-- sending the queue replaces one waiting datagram by another
pub flush_adds : (goes : Bool) (peer : PeerView) (queue : List QueueEntry)
    → Adds 0 (record peer { queue = queue }) (flushed_if goes (record peer { queue = queue }))
flush_adds false peer queue = none_added (record peer { queue = queue })
flush_adds true peer [] = none_added (record peer { queue = [] })
flush_adds true peer (e ∷ queue) =
    let datagrams : List (List ℕ) = trunk_spelling peer.rules.trunk_timestamps peer.since (e ∷ queue) ∷ [] in
    record {
      most = omega (arith, put_most peer.outbox datagrams);
      kept = λ fits. put_kept peer.outbox datagrams (omega (arith, fits));
    }

pub sent_adds : (peer : PeerView) (number : ℕ) (datagrams : List (List ℕ))
    → Adds (length datagrams) peer (with_sent peer number datagrams)
sent_adds peer number datagrams =
    let goes = has_any datagrams && goes_ahead peer.rules peer.queue number in
    let added = then_adds 0 (length datagrams) peer (flushed_if goes peer) (with_sent peer number datagrams)
    (flush_adds goes peer peer.queue) (put_adds (flushed_if goes peer) datagrams) in
    record { most = omega (arith, added.most); kept = λ fits. added.kept (omega (arith, fits)) }

pub has_more : (queue : List QueueEntry) (e : QueueEntry) → has_any (queue ++ e ∷ []) ≡ true
has_more [] e = refl
has_more (x ∷ queue) e = refl

entry_adds : (peer : PeerView) (entry : QueueEntry) (now : ℕ) → Adds 1 peer (with_entry peer entry now)
entry_adds peer entry now = record {
  most = rw (has_more peer.queue entry) (omega arith);
  kept = λ _. refl;
}

-- media waits, or is dropped
queued_adds : (peer : PeerView) (entry : QueueEntry) (now : ℕ) → Adds 1 peer (queued_media peer entry now)
queued_adds peer entry now =
    let added = entry_adds peer entry now in
    either (λ (p : PeerView). Adds 1 peer p) (is_full_for peer.queue (length entry.media))
    (carried_media peer Dropped (length entry.media)) (carried_media (with_entry peer entry now) Queued (length entry.media))
    (record { most = omega arith; kept = λ _. refl }) (record { most = added.most; kept = added.kept })

-- ---- media

short_adds : (peer : PeerView) (number timestamp : ℕ) (media : List ℕ) (now : ℕ)
    → Adds 1 peer (short_media peer number timestamp media now)
short_adds peer number timestamp media now =
    let entry : QueueEntry = record { number = number; timestamp = timestamp; media = media } in
    let datagram : List ℕ = mini_spelling (record { source = number; timestamp = timestamp; media = media }) in
    let next = begins_next peer.rules peer.queue number (length media) in
    let added = put_adds peer (datagram ∷ []) in
    either (λ (p : PeerView). Adds 1 peer p) peer.rules.trunk
    (waiting_media peer entry now) (carried_media (with_datagram peer datagram) Packed (length media))
    (then_adds 0 1 peer (flushed_if next peer) (waiting_media peer entry now) (flush_adds next peer peer.queue)
    (queued_adds (flushed_if next peer) entry now))
    (record { most = added.most; kept = added.kept })

pub media_adds : (how : MediaSent) (peer : PeerView) (named : NamedLeg) (media : List ℕ) (now : ℕ)
    → Adds 1 peer (carries_media how peer named media now)
media_adds sent.Quelched peer named media now =
    let added = sent_adds peer named.name.number [] in
    record { most = omega (arith, added.most); kept = λ fits. added.kept (omega (arith, fits)) }
media_adds sent.Voice peer named media now =
    let added = sent_adds peer named.name.number (map spelling (media_frames sent.Voice named.leg media now)) in
    record { most = added.most; kept = added.kept }
media_adds (sent.Mini timestamp) peer named media now =
    let added = sent_adds peer named.name.number [] in
    let with : PeerView = with_media (sent.Mini timestamp) peer named media now in
    then_adds 0 1 peer with (short_media with named.name.number timestamp media now)
    (record { most = added.most; kept = added.kept }) (short_adds with named.name.number timestamp media now)

at_adds : (peer : PeerView) (named : Option NamedLeg) (order : Order) (now : ℕ) → kind_of order ≡ commands.Media tt
    → Adds 1 peer (ordered_if peer named order now)
at_adds peer None order now is = record { most = omega arith; kept = λ _. refl }
at_adds peer (Some named) (commands.Media media) now is =
    let added = media_adds (media_sent named.leg now) peer named media.now now in
    record { most = added.most; kept = added.kept }
at_adds peer (Some named) (commands.Accept format) now is = cc
at_adds peer (Some named) (commands.Reject cause) now is = cc
at_adds peer (Some named) (commands.Indicate indication) now is = cc
at_adds peer (Some named) commands.Answer now is = cc
at_adds peer (Some named) (commands.Dtmf digit) now is = cc
at_adds peer (Some named) (commands.Hangup cause) now is = cc
at_adds peer (Some named) (commands.Doom cause) now is = cc
at_adds peer (Some named) commands.Paid now is = cc

pub media_order_adds : (peer : PeerView) (name : LegName) (order : Order) (now : ℕ) → kind_of order ≡ commands.Media tt
    → Adds 1 peer (ordered_step peer name order now)
media_order_adds peer name order now is = at_adds peer (leg_named peer.legs name) order now is
