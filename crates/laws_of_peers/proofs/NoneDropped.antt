-- In plan version 4 a full trunk queue drops nothing: it is sent first.
use Rattle.std.specs.Prelude.{nat_lt, ◌||◌, ◌≢◌}
use Rattle.std.proofs.Common.{◌≡◌, ◌≤◌, ℕ, ◌+◌, ◌&&◌, Bool, true, false, cond, inl, inr, List, [], ◌∷◌, Option, Some, length, ap}
use Rattle.std.proofs.Common.{refl, ◌∙◌, arith}
use Rattle.std.proofs.lemmas.Bool.{cases_Bool, ltb-true}
use Rattle.call_book.specs.declared.leg_name.LegName.{LegName}
use Rattle.call_signals.specs.Order.{media_of, Order}
use Rattle.call_signals.specs.declared.order.Command.TheVariants as commands
use Rattle.call_signals.specs.declared.rules.PeerRules.{PeerRules}
use Rattle.iax_frames.specs.MiniFrame.{mini_spelling}
use Rattle.leg_machine.specs.Media.{media_sent}
use Rattle.leg_machine.specs.declared.media.MediaSent.{MediaSent}
use Rattle.leg_machine.specs.declared.media.MediaSent.TheVariants as sent
use Rattle.peer_accounts.specs.declared.account.Carried.TheVariants.{Packed, Queued, Dropped}
use Rattle.peer_legs.specs.Legs.{NamedLeg, leg_named}
use Rattle.peer_lock.specs.Orders.{ordered_at, ordered_if, ordered_step, counted_media, short_media, waiting_media}
use Rattle.peer_lock.specs.Orders.{queued_media, carried_media, with_entry, with_media}
use Rattle.peer_lock.specs.Peer.{PeerView, flushed_if, with_datagram}
use Rattle.peer_lock.specs.Trunks.{waits, is_full_for, fills_frame, has_enough, begins_next, queue_after}
use Rattle.peer_lock.proofs.Choices.{either}
use Rattle.trunk_packer.specs.Queue.{QueueEntry}

first_false : (a b c : Bool) → (a && (b || c)) ≡ false → a ≡ true → b ≡ false
first_false true true c e is = cc
first_false true false c e is = refl
first_false false b c e is = cc

-- an empty queue has room
has_room : (octets : ℕ) → octets ≤ 1380 → is_full_for [] octets ≡ false
has_room octets short = elim (cases_Bool (nat_lt 16384 (0 + octets))) [
  | inl e ↦ absurd (omega (arith, ltb-true 16384 (0 + octets) e, short))
  | inr e ↦ e
]

pub not_full : (rules : PeerRules) (queue : List QueueEntry) (number octets : ℕ) → waits rules ≡ true → octets ≤ 1380
    → is_full_for (queue_after (begins_next rules queue number octets) queue) octets ≡ false
not_full rules queue number octets waiting short = elim (cases_Bool (begins_next rules queue number octets)) [
  | inl e ↦ rw e (emptied queue)
  | inr e ↦ rw e (first_false (waits rules) (is_full_for queue octets)
      (fills_frame rules.trunk_timestamps queue octets || has_enough rules.trunk_timestamps queue number) e waiting)
]
  where
    emptied : (q : List QueueEntry) → is_full_for (queue_after true q) octets ≡ false
    emptied [] = has_room octets short
    emptied (x ∷ q) = has_room octets short

-- media that is queued isn't dropped
queued_kept : (peer : PeerView) (entry : QueueEntry) (now : ℕ) → is_full_for peer.queue (length entry.media) ≡ false
    → (queued_media peer entry now).accounts.dropped ≡ peer.accounts.dropped
queued_kept peer entry now room =
    ap (λ (b : Bool). (cond b (carried_media peer Dropped (length entry.media)) (carried_media (with_entry peer entry now) Queued
    (length entry.media))).accounts.dropped) room

short_kept : (peer : PeerView) (number timestamp : ℕ) (media : List ℕ) (now : ℕ) → waits peer.rules ≡ true → length media ≤ 1380
    → (short_media peer number timestamp media now).accounts.dropped ≡ peer.accounts.dropped
short_kept peer number timestamp media now waiting short =
    let entry : QueueEntry = record { number = number; timestamp = timestamp; media = media } in
    either (λ (p : PeerView). p.accounts.dropped ≡ peer.accounts.dropped) peer.rules.trunk (waiting_media peer entry now)
    (carried_media (with_datagram peer (mini_spelling (record { source = number; timestamp = timestamp; media = media }))) Packed
    (length media))
    (queued_kept (flushed_if (begins_next peer.rules peer.queue number (length media)) peer) entry now
    (not_full peer.rules peer.queue number (length media) waiting short))
    refl

media_kept : (how : MediaSent) (peer : PeerView) (named : NamedLeg) (media : List ℕ) (now : ℕ) → waits peer.rules ≡ true
    → length media ≤ 1380 → how ≢ sent.Quelched
    → (counted_media how (with_media how peer named media now) named.name.number media now).accounts.dropped
    ≡ peer.accounts.dropped
media_kept sent.Quelched peer named media now waiting short other = absurd (other refl)
media_kept sent.Voice peer named media now waiting short other = refl
media_kept (sent.Mini timestamp) peer named media now waiting short other =
    short_kept (with_media (sent.Mini timestamp) peer named media now) named.name.number timestamp media now waiting short

ordered_kept : (peer : PeerView) (named : NamedLeg) (order : Order) (now : ℕ) → waits peer.rules ≡ true
    → length (media_of order) ≤ 1380 → media_sent named.leg now ≢ sent.Quelched
    → (ordered_at peer named order now).accounts.dropped ≡ peer.accounts.dropped
ordered_kept peer named (commands.Media media) now waiting short other =
    media_kept (media_sent named.leg now) peer named media.now
    now waiting short other
ordered_kept peer named (commands.Accept format) now waiting short other = refl
ordered_kept peer named (commands.Reject cause) now waiting short other = refl
ordered_kept peer named (commands.Indicate indication) now waiting short other = refl
ordered_kept peer named commands.Answer now waiting short other = refl
ordered_kept peer named (commands.Dtmf digit) now waiting short other = refl
ordered_kept peer named (commands.Hangup cause) now waiting short other = refl
ordered_kept peer named (commands.Doom cause) now waiting short other = refl
ordered_kept peer named commands.Paid now waiting short other = refl

pub none_dropped : (peer : PeerView) (name : LegName) (order : Order) (now : ℕ) (named : NamedLeg) → waits peer.rules ≡ true
    → length (media_of order) ≤ 1380
    → leg_named peer.legs name ≡ Some named → media_sent named.leg now ≢ sent.Quelched
    → (ordered_step peer name order now).accounts.dropped ≡ peer.accounts.dropped
none_dropped peer name order now named waiting short is other =
    ap (λ (o : Option NamedLeg). (ordered_if peer o order now).accounts.dropped) is ∙ ordered_kept peer named order now waiting
    short other
