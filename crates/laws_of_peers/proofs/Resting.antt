-- A tick that has nothing to do leaves a peer as it is.
use Rattle.std.proofs.Common.{◌≡◌, ℕ, ◌+◌, ◌≤◌, ◌&&◌, Bool, cond, true, false, inl, inr, List, [], ◌∷◌, Option, None, Some}
use Rattle.std.proofs.Common.{length, ap, sym, refl, subst, ◌∙◌, arith}
use Rattle.std.specs.Prelude.{is_some, nat_lt}
use Rattle.std.proofs.lemmas.List.{append-nil}
use Rattle.outbox.specs.Outbox.{put, extended}
use Rattle.outbox.proofs.Puts.{put_none}
use Rattle.peer_lock.specs.Peer.{PeerView, counted, flushed_if}
use Rattle.peer_lock.specs.SoundPeer.{IsSoundPeer}
use Rattle.peer_lock.specs.Pokes.{is_poke_due, poke_octets, poke_stamp, poked, pokes_after, pokes_sent}
use Rattle.peer_lock.specs.Ticks.{asked, LegsTick, TicksLegs, Ticks, Packs, PacksMedia, PacksFronts, QueueRests, RestsAt}
use Rattle.peer_lock.specs.Ticks.{flushed_ahead}
use Rattle.peer_lock.specs.Trunks.{is_due, outbox_after, queue_after, accounts_after}
use Rattle.peer_lock.specs.declared.steps.TickReport.{TickReport}
use Rattle.trunk_packer.specs.Queue.{QueueEntry, media_octets}
use Rattle.std.specs.Prelude.{◌&&◌, All}
use Rattle.std.proofs.Common.{◌≡◌, ◌≤◌, ℕ, zero, ◌+◌, Bool, true, false, List, [], ◌∷◌, Option, Some, None}
use Rattle.std.proofs.Common.{length, cond, ap, sym, subst, refl, ◌∙◌, arith}
use Rattle.std.proofs.lemmas.List.{append-nil}
use Rattle.call_signals.specs.declared.failure.Failure.TheVariants as failures
use Rattle.call_signals.specs.declared.reply.ReplyFrame.TheVariants as replies
use Rattle.call_signals.specs.declared.stage.Stage.TheVariants as stages
use Rattle.peer_legs.specs.Legs.{NamedLeg}
use Rattle.outbox.specs.Outbox.{put}
use Rattle.peer_lock.specs.Peer.{PeerView}
use Rattle.peer_legs.specs.Rests.{is_resting}
use Rattle.peer_lock.specs.Ticks.{LegsTick, TicksLegs, flushed_ahead, legs_tick}
use Rattle.outbox.proofs.Puts.{put_none}

-- the legs that rest stay at a tick
abbrev pub RestingLegsStay : Type 0
RestingLegsStay = (skips : List ℕ) (now : ℕ) (places : List (Option NamedLeg)) → All (λ place. is_resting place now ≡ true) places
    → legs_tick skips places now ≡ record { places = places; datagrams = []; skipped = 0 }

-- the legs that rest do nothing
legs_rest : RestingLegsStay → (old : PeerView) (now skipped : ℕ) (between : PeerView) → RestsAt old now
    → TicksLegs old now skipped between → between ≡ old
legs_rest stay old now skipped between rests ticks =
    ticks.legs
    ∙ ap (λ (t : LegsTick). record (flushed_ahead old t.datagrams) {
      legs = record old.legs { places = t.places };
      outbox = put (flushed_ahead old t.datagrams).outbox t.datagrams;
    }) (stay ticks.skips now old.legs.places rests.legs)
    ∙ λ i. record old { outbox = sym (put_none old.outbox rests.few) i }

-- no front of an empty queue is sent
no_fronts : (timed : Bool) (now : ℕ) (old : List QueueEntry) (datagrams : List (List ℕ)) (new : List QueueEntry) → old ≡ []
    → PacksFronts timed now old datagrams new
    → datagrams ≡ []
no_fronts timed now old [] new none fronts = refl
no_fronts timed now old (d ∷ datagrams) new none fronts =
    let short : length old ≡ 0 = ap length none in
    absurd (omega (arith, short, fronts.2))

none_left : (timed : Bool) (now : ℕ) (old : List QueueEntry) (datagrams : List (List ℕ)) (new : List QueueEntry) → datagrams ≡ []
    → PacksFronts timed now old datagrams new
    → new ≡ old
none_left timed now old [] new none fronts = fronts
none_left timed now old (d ∷ datagrams) new none fronts = cc

-- nothing is sent from an empty queue
empty_rests : (old : PeerView) (now octets : ℕ) (new : PeerView) → old.queue ≡ [] → old.accounts.queued ≡ media_octets old.queue
    → PacksMedia old now octets new → new ≡ old
empty_rests old now octets new none queued packs =
    let timed = old.rules.trunk_timestamps in
    let sent = no_fronts timed now old.queue packs.datagrams new.queue none packs.fronts in
    let left = none_left timed now old.queue packs.datagrams new.queue sent packs.fronts in
    let media : media_octets new.queue ≡ media_octets old.queue = ap media_octets left in
    let zero : octets ≡ 0 = omega (arith, packs.media, media) in
    let packed : old.accounts.packed + octets ≡ old.accounts.packed = omega (arith, zero) in
    packs.rest
    ∙ λ i. record old {
      outbox = (ap (extended old.outbox) sent ∙ (λ j. record old.outbox { waiting = append-nil old.outbox.waiting j })) i;
      queue = left i;
      accounts = record old.accounts { packed = packed i; queued = (media ∙ sym queued) i };
    }

-- the queue isn't sent unless it is to be
none_flushed : (goes : Bool) (peer : PeerView) → goes ≡ false → flushed_if goes peer ≡ peer
none_flushed goes peer is = ap (λ (b : Bool). flushed_if b peer) is

-- nor if it is empty
none_out : (goes : Bool) (peer : PeerView) (queue : List QueueEntry) → queue ≡ []
    → record peer {
      outbox = outbox_after goes peer.rules.trunk_timestamps peer.since peer.outbox queue;
      queue = queue_after goes queue;
      accounts = accounts_after goes queue peer.accounts;
    } ≡ record peer { queue = queue }
none_out true peer [] none = refl
none_out true peer (e ∷ queue) none = cc
none_out false peer queue none = refl

queue_rests : (wait : Option ℕ) (old : PeerView) (now octets : ℕ) (new : PeerView) → wait ≡ old.rules.trunk_ms
    → QueueRests old now
    → old.accounts.queued ≡ media_octets old.queue → Packs wait old now octets new → new ≡ old
queue_rests None old now octets new wait_is (inl none) queued packs = empty_rests old now octets new none queued packs
queue_rests None old now octets new wait_is (inr waiting) queued packs = let no : false ≡ true = ap is_some wait_is ∙ waiting.0 in
    cc
queue_rests (Some wait) old now octets new wait_is (inl none) queued packs =
    packs.rest ∙ none_out (is_due old.rules.trunk_ms old.since now && nat_lt (length old.outbox.waiting) 256) old old.queue none
queue_rests (Some wait) old now octets new wait_is (inr waiting) queued packs =
    packs.rest
    ∙ none_flushed (is_due old.rules.trunk_ms old.since now && nat_lt (length old.outbox.waiting) 256) old
    (ap (λ (b : Bool). b && nat_lt (length old.outbox.waiting) 256) waiting.1)

-- no POKE goes out where none is due
unasked : (peer : PeerView) (now : ℕ) → is_poke_due peer.rules peer.pokes now ≡ false → length peer.outbox.waiting ≤ 256
    → asked peer now ≡ peer
unasked peer now none few =
    let poke : List (List ℕ) = poke_octets (poke_stamp peer.rules now) ∷ [] in
    let sent : pokes_sent peer.rules peer.pokes now ≡ [] = ap (λ (b : Bool). cond b poke []) none in
    let pokes : pokes_after peer.rules peer.pokes now ≡ peer.pokes =
    ap (λ (b : Bool). cond b (poked peer.rules peer.pokes now) peer.pokes) none in
    λ i. record peer { outbox = (ap (put peer.outbox) sent ∙ sym (put_none peer.outbox few)) i; pokes = pokes i }

pub resting_stays : RestingLegsStay → (old new : PeerView) (now : ℕ) (report : TickReport) → IsSoundPeer old → RestsAt old now
    → Ticks old now report new
    → new ≡ counted old
resting_stays stay old new now report sound rests ticks =
    let rests_counted : RestsAt (counted old) now = record {
      legs = rests.legs;
      queue = rests.queue;
      pokes = rests.pokes;
      few = rests.few;
    } in
    let start = unasked (counted old) now rests.pokes rests.few in
    let legs : TicksLegs (counted old) now report.skipped ticks.between =
    subst (λ (p : PeerView). TicksLegs p now report.skipped ticks.between) start ticks.legs in
    let between_is = legs_rest stay (counted old) now report.skipped ticks.between rests_counted legs in
    queue_rests old.rules.trunk_ms (counted old) now ticks.octets new refl rests.queue sound.kept.queued
    (subst (λ (b : PeerView). Packs b.rules.trunk_ms b now ticks.octets new) between_is ticks.packs)
