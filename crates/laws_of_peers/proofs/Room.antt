-- If a peer has room for a step's load, nothing is lost.
use Rattle.std.specs.Prelude.{map, nat_le, nat_lt, ◌||◌}
use Rattle.std.proofs.Common.{◌≡◌, ◌≤◌, ℕ, ◌+◌, ◌-◌, ◌&&◌, Bool, true, false, cond, inl, inr, List, [], ◌∷◌, ◌++◌, Option, None}
use Rattle.std.proofs.Common.{Some, length, ap, sym, subst, refl, ◌∙◌, arith}
use Rattle.std.proofs.lemmas.Bool.{cases_Bool, ltb-true, leb-true}
use Rattle.std.proofs.lemmas.List.{length-append}
use Rattle.call_book.specs.declared.leg_name.LegName.{LegName}
use Rattle.call_signals.specs.Order.{kind_of, media_of, Order}
use Rattle.call_signals.specs.declared.order.Command.TheVariants as commands
use Rattle.iax_frames.specs.FullFrame.{spelling}
use Rattle.iax_frames.specs.MiniFrame.{mini_spelling}
use Rattle.leg_machine.specs.Leg.{LegState}
use Rattle.leg_machine.specs.Media.{media_sent, media_frames}
use Rattle.leg_machine.specs.OrderTable.{IsShortMedia, Carried as OrderCarried, order_carried, order_row, row_carried}
use Rattle.leg_machine.specs.declared.media.MediaSent.{MediaSent}
use Rattle.leg_machine.specs.declared.media.MediaSent.TheVariants as sent
use Rattle.leg_machine.specs.declared.orders.Ordered.{Ordered}
use Rattle.outbox.specs.Outbox.{put}
use Rattle.peer_accounts.specs.Accounts.{Accounts, stepped}
use Rattle.peer_accounts.specs.declared.account.Carried.TheVariants.{Packed, Queued as QueuedMedia, Dropped}
use Rattle.peer_legs.specs.Legs.{NamedLeg, PeerLegs, leg_named, with_leg}
use Rattle.laws_of_peers.specs.Loads.{Load, Puts, QueueHasRoom, dropped_for_room, load_of, no_load, order_load, plus}
use Rattle.peer_lock.specs.Orders.{ordered_if, ordered_at, ordered_step, carries_media, carried_media, short_media}
use Rattle.peer_lock.specs.Orders.{waiting_media, with_entry, with_media, with_order}
use Rattle.peer_lock.specs.Peer.{PeerView, flushed_if, with_datagram, with_sent}
use Rattle.peer_lock.specs.Trunks.{has_any, waits, goes_ahead, begins_next, is_full_for}
use Rattle.laws_of_peers.proofs.Bursts.{Adds, then_adds, put_adds, flush_adds, sent_adds, media_adds}
use Rattle.laws_of_peers.proofs.NoneDropped.{not_full}
use Rattle.trunk_packer.specs.Queue.{QueueEntry, media_octets}

-- ---- the queue's part

pub record Queues (load : Load) (old new : PeerView) : Type 0 where
  pub rules : new.rules ≡ old.rules
  pub entries : length new.queue ≤ length old.queue + load.datagrams
  pub octets : media_octets new.queue ≤ media_octets old.queue + load.octets
  pub queued : QueueHasRoom old load → dropped_for_room new.accounts ≡ dropped_for_room old.accounts

pub both : (load : Load) (old new : PeerView) → Adds load.datagrams old new → Queues load old new → Puts load old new
both load old new adds queues = record {
  rules = queues.rules;
  most = adds.most;
  sent = adds.kept;
  entries = queues.entries;
  octets = queues.octets;
  queued = queues.queued;
}

adds_of : (load : Load) (old new : PeerView) → Puts load old new → Adds load.datagrams old new
adds_of load old new puts = record { most = puts.most; kept = puts.sent }

queues_of : (load : Load) (old new : PeerView) → Puts load old new → Queues load old new
queues_of load old new puts = record { rules = puts.rules; entries = puts.entries; octets = puts.octets; queued = puts.queued }

-- ---- one load after another

room_first : (peer : PeerView) (first second : Load) → QueueHasRoom peer (plus first second) → QueueHasRoom peer first
room_first peer first second (inl waiting) = inl waiting
room_first peer first second (inr (inl none)) = inr (inl none)
room_first peer first second (inr (inr room)) = inr (inr (omega (arith, room.0), omega (arith, room.1)))

room_second : (a b : PeerView) (first second : Load) → Queues first a b → QueueHasRoom a (plus first second)
    → QueueHasRoom b second
room_second a b first second queues (inl waiting) = inl (ap (λ r. waits r) queues.rules ∙ waiting)
room_second a b first second queues (inr (inl none)) = inr (inl (ap (λ r. r.trunk) queues.rules ∙ none))
room_second a b first second queues (inr (inr room)) =
    inr (inr (omega (arith, room.0, queues.entries), omega (arith, room.1, queues.octets)))

then_queues : (first second : Load) (a b c : PeerView) → Queues first a b → Queues second b c → Queues (plus first second) a c
then_queues first second a b c one other = record {
  rules = other.rules ∙ one.rules;
  entries = omega (arith, one.entries, other.entries);
  octets = omega (arith, one.octets, other.octets);
  queued = λ room. other.queued (room_second a b first second one room) ∙ one.queued (room_first a first second room);
}

pub then_puts : (first second : Load) (a b c : PeerView) → Puts first a b → Puts second b c → Puts (plus first second) a c
then_puts first second a b c one other =
    both (plus first second) a c
    (then_adds first.datagrams second.datagrams a b c (adds_of first a b one) (adds_of second b c other))
    (then_queues first second a b c (queues_of first a b one) (queues_of second b c other))

-- a smaller load has room if a larger one does
room_less : (peer : PeerView) (less more : Load) → less.datagrams ≤ more.datagrams → less.octets ≤ more.octets
    → QueueHasRoom peer more → QueueHasRoom peer less
room_less peer less more datagrams octets (inl waiting) = inl waiting
room_less peer less more datagrams octets (inr (inl none)) = inr (inl none)
room_less peer less more datagrams octets (inr (inr room)) =
    inr (inr (omega (arith, room.0, datagrams), omega (arith, room.1, octets)))

queues_less : (less more : Load) (old new : PeerView) → less.datagrams ≤ more.datagrams → less.octets ≤ more.octets
    → Queues less old new → Queues more old new
queues_less less more old new datagrams octets queues = record {
  rules = queues.rules;
  entries = omega (arith, queues.entries, datagrams);
  octets = omega (arith, queues.octets, octets);
  queued = λ room. queues.queued (room_less old less more datagrams octets room);
}

pub puts_less : (less more : Load) (old new : PeerView) → less.datagrams ≤ more.datagrams → less.octets ≤ more.octets
    → Puts less old new → Puts more old new
puts_less less more old new datagrams octets puts =
    both more old new (record {
      most = omega (arith, puts.most, datagrams);
      kept = λ fits. puts.sent (omega (arith, fits, datagrams));
    })
    (queues_less less more old new datagrams octets (queues_of less old new puts))

pub none_put : (peer : PeerView) → Puts no_load peer peer
none_put peer = record {
  rules = refl;
  most = omega arith;
  sent = λ _. refl;
  entries = omega arith;
  octets = omega arith;
  queued = λ _. refl;
}

-- the legs and the count of steps don't matter
pub puts_too : (load : Load) (old new : PeerView) (legs : PeerLegs) (accounts : Accounts)
    → dropped_for_room accounts ≡ dropped_for_room new.accounts
    → Puts load old new → Puts load old (record new { legs = legs; accounts = accounts })
puts_too load old new legs accounts same puts = record {
  rules = puts.rules;
  most = puts.most;
  sent = puts.sent;
  entries = puts.entries;
  octets = puts.octets;
  queued = λ room. same ∙ puts.queued room;
}

-- ---- sent datagrams

pub put_puts : (peer : PeerView) (datagrams : List (List ℕ))
    → Puts (load_of (length datagrams)) peer (record peer { outbox = put peer.outbox datagrams })
put_puts peer datagrams =
    both (load_of (length datagrams)) peer (record peer { outbox = put peer.outbox datagrams }) (put_adds peer datagrams)
    (record { rules = refl; entries = omega arith; octets = omega arith; queued = λ _. refl })

flush_queues : (goes : Bool) (peer : PeerView) (queue : List QueueEntry) → Queues no_load (record peer { queue = queue })
    (flushed_if goes (record peer { queue = queue }))
flush_queues false peer queue = record { rules = refl; entries = omega arith; octets = omega arith; queued = λ _. refl }
flush_queues true peer [] = record { rules = refl; entries = omega arith; octets = omega arith; queued = λ _. refl }
flush_queues true peer (e ∷ queue) = record { rules = refl; entries = omega arith; octets = omega arith; queued = λ _. refl }

pub flush_puts : (goes : Bool) (peer : PeerView) → Puts no_load peer (flushed_if goes peer)
flush_puts goes peer = both no_load peer (flushed_if goes peer) (flush_adds goes peer peer.queue)
    (flush_queues goes peer peer.queue)

dropped_flushed : (goes : Bool) (p : PeerView) (queue : List QueueEntry)
    → dropped_for_room (flushed_if goes (record p { queue = queue })).accounts ≡ dropped_for_room p.accounts
dropped_flushed false p queue = refl
dropped_flushed true p [] = refl
dropped_flushed true p (e ∷ queue) = refl

pub sent_puts : (peer : PeerView) (number : ℕ) (datagrams : List (List ℕ))
    → Puts (load_of (length datagrams)) peer (with_sent peer number datagrams)
sent_puts peer number datagrams =
    let goes = has_any datagrams && goes_ahead peer.rules peer.queue number in
    let queues = flush_queues goes peer peer.queue in
    both (load_of (length datagrams)) peer (with_sent peer number datagrams) (sent_adds peer number datagrams)
    (record {
      rules = queues.rules;
      entries = omega (arith, queues.entries);
      octets = omega (arith, queues.octets);
      queued = λ _. dropped_flushed goes peer peer.queue;
    })

-- ---- media

not_so : (b : Bool) → (b ≡ true → false ≡ true) → b ≡ false
not_so true h = sym (h refl)
not_so false h = refl

neither : (a b : Bool) → a ≡ false → b ≡ false → (a || b) ≡ false
neither true b first second = first
neither false b first second = second

-- few entries and few octets leave room
has_space : (queue : List QueueEntry) (octets : ℕ) → length queue + 1 ≤ 256 → media_octets queue + octets ≤ 16384
    → is_full_for queue octets ≡ false
has_space queue octets few short =
    neither (nat_le 256 (length queue)) (nat_lt 16384 (media_octets queue + octets))
    (not_so (nat_le 256 (length queue)) (λ e. absurd (omega (arith, leb-true 256 (length queue) e, few))))
    (not_so (nat_lt 16384 (media_octets queue + octets))
    (λ e. absurd (omega (arith, ltb-true 16384 (media_octets queue + octets) e, short))))

abbrev media_load : ℕ → Load
media_load octets = record { datagrams = 1; octets = octets }

-- .. once the queue was sent, if this media begins the next frame
isnt_full : (peer : PeerView) (number octets : ℕ) → peer.rules.trunk ≡ true → octets ≤ 1380
    → QueueHasRoom (flushed_if (begins_next peer.rules peer.queue number octets) peer) (media_load octets)
    → is_full_for (flushed_if (begins_next peer.rules peer.queue number octets) peer).queue octets ≡ false
isnt_full peer number octets trunk short (inl waiting) = not_full peer.rules peer.queue number octets waiting short
isnt_full peer number octets trunk short (inr (inl none)) = cc
isnt_full peer number octets trunk short (inr (inr room)) =
    has_space (flushed_if (begins_next peer.rules peer.queue number octets) peer).queue octets room.0 room.1

more_octets : (queue : List QueueEntry) (e : QueueEntry) → media_octets (queue ++ e ∷ []) ≡ media_octets queue + length e.media
more_octets [] e = omega arith
more_octets (x ∷ queue) e = omega (arith, more_octets queue e)

-- media waits if there is room
entry_queues : (peer : PeerView) (entry : QueueEntry) (now : ℕ) (full : Bool)
    → ((QueueHasRoom peer (media_load (length entry.media))) → full ≡ false)
    → Queues (media_load (length entry.media)) peer
    (cond full (carried_media peer Dropped (length entry.media)) (carried_media (with_entry peer entry now) QueuedMedia
    (length entry.media)))
entry_queues peer entry now true roomy = record {
  rules = refl;
  entries = omega arith;
  octets = omega arith;
  queued = λ room. absurd (never (roomy room));
}
  where
    never : true ≡ false → ⊥
    never e = cc
entry_queues peer entry now false roomy = record {
  rules = refl;
  entries = omega (arith, length-append peer.queue (entry ∷ []));
  octets = omega (arith, more_octets peer.queue entry);
  queued = λ _. refl;
}

waiting_queues : (peer : PeerView) (entry : QueueEntry) (now : ℕ) → peer.rules.trunk ≡ true → length entry.media ≤ 1380
    → Queues (media_load (length entry.media)) peer (waiting_media peer entry now)
waiting_queues peer entry now trunk short =
    let next = begins_next peer.rules peer.queue entry.number (length entry.media) in
    let flushed : PeerView = flushed_if next peer in
    queues_less (plus no_load (media_load (length entry.media))) (media_load (length entry.media)) peer
    (waiting_media peer entry now) (omega arith) (omega arith)
    (then_queues no_load (media_load (length entry.media)) peer flushed (waiting_media peer entry now)
    (flush_queues next peer peer.queue)
    (entry_queues flushed entry now (is_full_for flushed.queue (length entry.media))
    (isnt_full peer entry.number (length entry.media) trunk short)))

short_queues : (peer : PeerView) (number timestamp : ℕ) (media : List ℕ) (now : ℕ) → length media ≤ 1380
    → Queues (media_load (length media)) peer (short_media peer number timestamp media now)
short_queues peer number timestamp media now short =
    let entry : QueueEntry = record { number = number; timestamp = timestamp; media = media } in
    let datagram : List ℕ = mini_spelling (record { source = number; timestamp = timestamp; media = media }) in
    let out : PeerView = carried_media (with_datagram peer datagram) Packed (length media) in
    elim (cases_Bool peer.rules.trunk) [
      | inl e ↦ subst (λ (b : Bool). Queues (media_load (length media)) peer (cond b (waiting_media peer entry now) out)) (sym e)
          (waiting_queues peer entry now e short)
      | inr e ↦ subst (λ (b : Bool). Queues (media_load (length media)) peer (cond b (waiting_media peer entry now) out)) (sym e)
          (record { rules = refl; entries = omega arith; octets = omega arith; queued = λ _. refl })
    ]

-- quelched media is counted twice
quelched_away : (dropped quelched octets : ℕ) → (dropped + octets) - (quelched + octets) ≡ dropped - quelched
quelched_away dropped quelched octets = omega arith

carries_queues : (how : MediaSent) (peer : PeerView) (named : NamedLeg) (media : List ℕ) (now : ℕ) → length media ≤ 1380
    → Queues (media_load (length media)) peer (carries_media how peer named media now)
carries_queues sent.Quelched peer named media now short = record {
  rules = refl;
  entries = omega arith;
  octets = omega arith;
  queued = λ _. quelched_away peer.accounts.dropped peer.accounts.quelched (length media);
}
carries_queues sent.Voice peer named media now short =
    let puts = sent_puts peer named.name.number (map spelling (media_frames sent.Voice named.leg media now)) in
    record {
      rules = puts.rules;
      entries = omega (arith, puts.entries);
      octets = omega (arith, puts.octets);
      queued = λ _. dropped_flushed (goes_ahead peer.rules peer.queue named.name.number) peer peer.queue;
    }
carries_queues (sent.Mini timestamp) peer named media now short =
    let queues = short_queues (with_media (sent.Mini timestamp) peer named media now) named.name.number timestamp media now
    short in
    record { rules = queues.rules; entries = queues.entries; octets = queues.octets; queued = queues.queued }

-- ---- orders

carried_puts : (load : Load) (peer : PeerView) (named : NamedLeg) (carried : OrderCarried)
    → length carried.datagrams ≤ load.datagrams
    → Puts load peer (with_order peer named carried)
carried_puts load peer named carried few =
    let puts = puts_less (load_of (length carried.datagrams)) load peer (with_sent peer named.name.number carried.datagrams) few
    (omega arith)
    (sent_puts peer named.name.number carried.datagrams) in
    puts_too load peer (with_sent peer named.name.number carried.datagrams)
    (with_leg (with_sent peer named.name.number carried.datagrams).legs named.name carried.leg)
    (stepped (with_sent peer named.name.number carried.datagrams).accounts) refl puts

row_few : (leg : LegState) (row : Option Ordered) (now : ℕ) → length (row_carried leg row now).datagrams ≤ 1
row_few leg None now = omega arith
row_few leg (Some row) now = omega arith

by_row : (peer : PeerView) (named : NamedLeg) (order : Order) (now : ℕ)
    → Puts (load_of 1) peer (with_order peer named (row_carried named.leg (order_row named.leg order) now))
by_row peer named order now =
    carried_puts (load_of 1) peer named (row_carried named.leg (order_row named.leg order) now)
    (row_few named.leg (order_row named.leg order) now)

order_puts : (peer : PeerView) (named : NamedLeg) (order : Order) (now : ℕ) → IsShortMedia order
    → Puts (order_load (kind_of order) (length (media_of order))) peer (ordered_at peer named order now)
order_puts peer named (commands.Media media) now short =
    let carried : PeerView = carries_media (media_sent named.leg now) peer named media.now now in
    let puts = both (media_load (length media.now)) peer carried (media_adds (media_sent named.leg now) peer named media.now now)
    (carries_queues (media_sent named.leg now) peer named media.now now short.1) in
    puts_too (media_load (length media.now)) peer carried carried.legs (stepped carried.accounts) refl puts
order_puts peer named (commands.Doom cause) now short = carried_puts no_load peer named
    (order_carried named.leg (commands.Doom cause) now) (omega arith)
order_puts peer named commands.Paid now short = carried_puts no_load peer named (order_carried named.leg commands.Paid now)
    (omega arith)
order_puts peer named (commands.Accept format) now short = by_row peer named (commands.Accept format) now
order_puts peer named (commands.Reject cause) now short = by_row peer named (commands.Reject cause) now
order_puts peer named (commands.Indicate indication) now short = by_row peer named (commands.Indicate indication) now
order_puts peer named commands.Answer now short = by_row peer named commands.Answer now
order_puts peer named (commands.Dtmf digit) now short = by_row peer named (commands.Dtmf digit) now
order_puts peer named (commands.Hangup cause) now short = by_row peer named (commands.Hangup cause) now

pub ordered_puts : (peer : PeerView) (name : LegName) (order : Order) (now : ℕ) → IsShortMedia order
    → Puts (order_load (kind_of order) (length (media_of order))) peer (ordered_step peer name order now)
ordered_puts peer name order now short = at_leg (leg_named peer.legs name)
  where
    at_leg : (named : Option NamedLeg) → Puts (order_load (kind_of order) (length (media_of order))) peer
        (ordered_if peer named order now)
    at_leg None = puts_less no_load (order_load (kind_of order) (length (media_of order))) peer peer (omega arith) (omega arith)
        (none_put peer)
    at_leg (Some named) = order_puts peer named order now short
