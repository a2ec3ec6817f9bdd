-- The loads that datagrams, openings, ticks and the removal of a leg put into a peer's outbox and trunk queue.
use Rattle.std.specs.Prelude.{is_some, map, nat_lt}
use Rattle.std.proofs.Common.{◌≡◌, ◌≤◌, ℕ, ◌+◌, ◌&&◌, Bool, false, cond, List, [], ◌∷◌, ◌++◌, Option, None, Some, length, ap, sym}
use Rattle.std.proofs.Common.{subst, refl, arith}
use Rattle.std.proofs.lemmas.List.{length-append, length-map}
use Rattle.call_book.specs.declared.leg_name.LegName.{LegName}
use Rattle.call_signals.specs.Message.{message_of, is_inval, is_numbered, is_vnak}
use Rattle.call_signals.specs.declared.effects.Answering.{Answering}
use Rattle.call_signals.specs.declared.effects.Answering.TheVariants as answerings
use Rattle.call_signals.specs.declared.effects.Effect.{Effect}
use Rattle.call_signals.specs.declared.format.Format.{Format}
use Rattle.call_signals.specs.declared.message.Message.{Message}
use Rattle.call_signals.specs.declared.message.Message.TheVariants.{New}
use Rattle.iax_frames.specs.FullFrame.{FullFrame, spelling}
use Rattle.iax_frames.specs.declared.datagram.Datagram.{Datagram}
use Rattle.iax_frames.specs.declared.datagram.Datagram.TheVariants.{Full, Mini, Video, Trunk}
use Rattle.leg_machine.specs.Effects.{is_reply}
use Rattle.leg_machine.specs.Leg.{LegState}
use Rattle.leg_machine.specs.LegTable.{effect_of}
use Rattle.leg_machine.specs.Openings.{leg_for_new, open_in_step, open_out_step, opening_effect, opening_of}
use Rattle.leg_machine.specs.Steps.{Step, answers, answered, asking, full_step, gap_step, inval_step, invalidated, judged_step}
use Rattle.leg_machine.specs.Steps.{message_step, no_room, not_asking, nothing_sent, numbered_step, prepared, taken, taken_step}
use Rattle.leg_machine.specs.Steps.{handled_step, vnak_step}
use Rattle.leg_machine.specs.Working.{heeds_inval, is_unaddressed, refusal, wants_vnak}
use Rattle.outbox.specs.Outbox.{put}
use Rattle.peer_accounts.specs.Accounts.{stepped, with_accepted}
use Rattle.peer_accounts.specs.Grants.{granted}
use Rattle.peer_legs.specs.Legs.{NamedLeg, with_leg, with_place}
use Rattle.peer_lock.specs.Arrivals.{MediaTaken, answering, datagram_step, delivered_step, media_step, mini_media, trunk_media}
use Rattle.peer_lock.specs.Delivery.{Delivery, Reaches, NeedsNumber, NoToken, Gets, Pongs, NoCall, answer_octets, delivery}
use Rattle.peer_lock.specs.Delivery.{reject_for}
use Rattle.laws_of_peers.specs.Loads.{Load, Puts, datagram_load, delivered_load, dropped_for_room, frames_packed, load_of}
use Rattle.laws_of_peers.specs.Loads.{no_load}
use Rattle.laws_of_peers.specs.Loads.{plus, tick_load}
use Rattle.peer_lock.specs.Openings.{opens_in, opens_out, rejects_new, with_opened, with_seated}
use Rattle.peer_lock.specs.Peer.{PeerView, counted, flushed_if, with_datagram, with_sent, with_step, without_leg}
use Rattle.peer_lock.specs.Pokes.{answered as pokes_answered, pokes_after, pokes_sent}
use Rattle.peer_lock.specs.declared.pokes.Pokes.{Pokes}
use Rattle.peer_lock.specs.Ticks.{asked, LegsTick, Packs, PacksFronts, Ticks, flushed_ahead, legs_tick}
use Rattle.peer_lock.specs.Trunks.{has_any, goes_ahead, is_due, waits}
use Rattle.peer_lock.specs.declared.steps.TickReport.{TickReport}
use Rattle.peer_lock.specs.declared.steps.Rejection.TheVariants.{NoNumber}
use Rattle.peer_lock.specs.Delivery.{UnknownAnswer}
use Rattle.peer_lock.proofs.Choices.{either}
use Rattle.laws_of_peers.proofs.Room.{flush_puts, none_put, put_puts, puts_less, puts_too, sent_puts, then_puts}
use Rattle.seq_window.specs.Window.{is_full, judged_acknowledgement, judged_number}
use Rattle.seq_window.specs.declared.judgements.Received.{Received}
use Rattle.seq_window.specs.declared.judgements.Received.TheVariants as received
use Rattle.trunk_packer.specs.Queue.{QueueEntry}

-- ---- few answers

answers_few : (answering : Answering) (leg : LegState) (frame : FullFrame) (now : ℕ) → length (answers leg frame now answering)
    ≤ 1
answers_few (answerings.Answered reply) leg frame now = omega arith
answers_few answerings.Acknowledged leg frame now = omega arith
answers_few answerings.Silent leg frame now = omega arith

pub taken_few : (effect : Effect) (leg : LegState) (frame : FullFrame) (message : Message) (now : ℕ)
    → length (taken_step effect leg frame message now).replies ≤ 1
taken_few effect leg frame message now =
    either (λ (s : Step). length s.replies ≤ 1) (is_reply effect.answer && is_full leg.window) (no_room leg)
    (answered effect.answer (taken effect leg frame message now) frame now effect.signal)
    (omega arith) (answers_few effect.answer (taken effect leg frame message now) frame now)

gap_few : (leg : LegState) (frame : FullFrame) (now : ℕ) → length (gap_step leg frame now).replies ≤ 1
gap_few leg frame now =
    either (λ (s : Step). length s.replies ≤ 1) (wants_vnak leg now) (asking leg frame now) (not_asking leg) (omega arith)
    (omega arith)

judged_few : (judged : Received) (leg : LegState) (frame : FullFrame) (message : Message) (now : ℕ)
    → length (judged_step judged leg frame message now).replies ≤ 1
judged_few received.Taken leg frame message now = taken_few (effect_of leg frame message) leg frame message now
judged_few received.Repeat leg frame message now = omega arith
judged_few received.Gap leg frame message now = gap_few leg frame now

pub numbered_few : (leg : LegState) (frame : FullFrame) (message : Message) (now : ℕ)
    → length (numbered_step leg frame message now).replies ≤ 1
numbered_few leg frame message now =
    either (λ (s : Step). length s.replies ≤ 1) (is_numbered message)
    (judged_step (judged_number leg.window.history frame.head.oseqno) leg frame message now) (nothing_sent leg)
    (judged_few (judged_number leg.window.history frame.head.oseqno) leg frame message now) (omega arith)

pub inval_few : (leg : LegState) (frame : FullFrame) (now : ℕ) → length (inval_step leg frame now).replies ≤ 1
inval_few leg frame now =
    either (λ (s : Step). length s.replies ≤ 1) (heeds_inval leg frame) (invalidated leg now) (nothing_sent leg) (omega arith)
    (omega arith)

message_few : (message : Message) (leg : LegState) (frame : FullFrame) (now : ℕ) → is_vnak message ≡ false
    → length (message_step message leg frame now).replies ≤ 1
message_few message leg frame now other =
    let numbered : Step = numbered_step (prepared leg frame) frame message now in
    let asked : Step = vnak_step (judged_acknowledgement leg.window.history frame.head.iseqno) (prepared leg frame)
    frame.head.iseqno now in
    either (λ (s : Step). length s.replies ≤ 1) (is_inval message) (inval_step leg frame now)
    (cond (is_vnak message) asked numbered)
    (inval_few leg frame now)
    (subst (λ (b : Bool). length (cond b asked numbered).replies ≤ 1) (sym other) (numbered_few (prepared leg frame) frame message
    now))

full_few : (leg : LegState) (frame : FullFrame) (now : ℕ) → is_vnak (message_of frame.head) ≡ false
    → length (full_step leg frame now).replies ≤ 1
full_few leg frame now other =
    let message = message_of frame.head in
    let P : Step → Type 0 = λ s. length s.replies ≤ 1 in
    either P (is_some (refusal leg frame)) (nothing_sent leg) (handled_step leg frame now) (omega arith)
    (either P (is_unaddressed leg frame) (numbered_step leg frame message now) (message_step message leg frame now)
    (numbered_few leg frame message now) (message_few message leg frame now other))

delivered_few : (to : Delivery) (frame : FullFrame) (now : ℕ) → is_vnak (message_of frame.head) ≡ false
    → (delivered_load to frame now).datagrams ≤ 1
delivered_few (Reaches named) frame now other = full_few named.leg frame now other
delivered_few NeedsNumber frame now other = omega arith
delivered_few NoToken frame now other = omega arith
delivered_few (Gets answer) frame now other = omega arith
delivered_few Pongs frame now other = omega arith
delivered_few NoCall frame now other = omega arith

pub full_frame_few : (peer : PeerView) (frame : FullFrame) (now : ℕ) → is_vnak (message_of frame.head) ≡ false
    → (datagram_load peer (Full frame) now).datagrams ≤ 1
full_frame_few peer frame now other = delivered_few (delivery peer frame now) frame now other

-- ---- datagrams

-- a step that puts nothing
nothing_put : (peer : PeerView) → Puts (load_of 1) peer (counted peer)
nothing_put peer =
    puts_less no_load (load_of 1) peer (counted peer) (omega arith) (omega arith)
    (puts_too no_load peer peer peer.legs (stepped peer.accounts) refl (none_put peer))

-- the state of POKEs has no weight
puts_pokes : (load : Load) (old new : PeerView) (pokes : Pokes) → Puts load old new → Puts load old (record new { pokes = pokes })
puts_pokes load old new pokes puts = record {
  rules = puts.rules;
  most = puts.most;
  sent = puts.sent;
  entries = puts.entries;
  octets = puts.octets;
  queued = puts.queued;
}

-- media of a datagram is put elsewhere
media_puts : (peer : PeerView) (media : MediaTaken) → Puts no_load peer (media_step peer media).peer
media_puts peer media =
    puts_too no_load peer peer peer.legs (with_accepted (stepped peer.accounts) media.octets) refl (none_put peer)

-- an answer without a leg
answering_puts : (peer : PeerView) (answer : UnknownAnswer) → Puts (load_of 1) peer (answering peer answer).peer
answering_puts peer answer =
    puts_too (load_of 1) peer (with_datagram peer (answer_octets answer)) peer.legs (stepped peer.accounts) refl
    (put_puts peer (answer_octets answer ∷ []))

delivered_puts : (first : ℕ) (peer : PeerView) (to : Delivery) (frame : FullFrame) (now : ℕ)
    → Puts (delivered_load to frame now) peer (delivered_step first peer to frame now).peer
delivered_puts first peer (Reaches named) frame now =
    let s = full_step named.leg frame now in
    let datagrams : List (List ℕ) = map spelling s.replies in
    let with : PeerView = with_sent peer named.name.number datagrams in
    let octets : ℕ = (granted first peer.accounts.accepted s.signal).octets in
    puts_less (load_of (length datagrams)) (load_of (length s.replies)) peer (with_step peer named.name s.leg datagrams octets)
    (omega (arith, length-map s.replies spelling)) (omega arith)
    (puts_too (load_of (length datagrams)) peer with (with_leg with.legs named.name s.leg)
    (with_accepted (stepped with.accounts) octets) refl
    (sent_puts peer named.name.number datagrams))
delivered_puts first peer NeedsNumber frame now = nothing_put peer
delivered_puts first peer NoToken frame now = nothing_put peer
delivered_puts first peer (Gets answer) frame now =
    answering_puts peer answer
delivered_puts first peer Pongs frame now =
    puts_pokes (load_of 1) peer (counted peer) (pokes_answered peer.pokes now) (nothing_put peer)
delivered_puts first peer NoCall frame now = nothing_put peer

pub datagram_puts : (first : ℕ) (peer : PeerView) (datagram : Datagram) (now : ℕ)
    → Puts (datagram_load peer datagram now) peer (datagram_step first peer datagram now).peer
datagram_puts first peer (Full frame) now = delivered_puts first peer (delivery peer frame now) frame now
datagram_puts first peer (Mini mini) now = media_puts peer (mini_media first peer mini)
datagram_puts first peer (Video video) now = puts_too no_load peer peer peer.legs (stepped peer.accounts) refl (none_put peer)
datagram_puts first peer (Trunk trunk) now = media_puts peer (trunk_media first peer trunk)

-- ---- openings

opened_puts : (peer : PeerView) (named : NamedLeg) (datagrams : List (List ℕ)) → length datagrams ≤ 1
    → Puts (load_of 1) peer (with_opened peer named datagrams)
opened_puts peer named datagrams few =
    puts_too (load_of 1) peer (record peer { outbox = put peer.outbox datagrams }) (with_seated peer named).legs
    (stepped peer.accounts) refl
    (puts_less (load_of (length datagrams)) (load_of 1) peer (record peer { outbox = put peer.outbox datagrams }) few
    (omega arith) (put_puts peer datagrams))

pub call_in_puts : (peer : PeerView) (name : LegName) (frame : FullFrame) (now : ℕ) (challenge : List ℕ)
    → Puts (load_of 1) peer (opens_in peer name frame now challenge).peer
call_in_puts peer name frame now challenge =
    let s = open_in_step peer.rules name.number frame now challenge in
    opened_puts peer (record { name = name; leg = s.leg }) (map spelling s.replies)
    (omega (
      arith,
      length-map s.replies spelling,
      taken_few (opening_effect (opening_of peer.rules frame)) (leg_for_new peer.rules name.number frame now challenge) frame New
          now,
    ))

pub rejection_puts : (peer : PeerView) (frame : FullFrame) → Puts (load_of 1) peer (rejects_new peer frame).peer
rejection_puts peer frame = answering_puts peer (reject_for NoNumber frame.head)

pub call_out_puts : (peer : PeerView) (name : LegName) (called caller : List ℕ) (format : Format) (now : ℕ)
    → Puts (load_of 1) peer (opens_out peer name called caller format now).peer
call_out_puts peer name called caller format now =
    let s = open_out_step peer.rules name.number called caller format now in
    opened_puts peer (record { name = name; leg = s.leg }) (map spelling s.replies) (omega arith)

pub retiring_puts : (peer : PeerView) (name : LegName) → Puts no_load peer (without_leg peer name)
retiring_puts peer name =
    let goes = goes_ahead peer.rules peer.queue name.number in
    let flushed : PeerView = flushed_if goes peer in
    puts_too no_load peer flushed (with_place peer.legs name.number None) flushed.accounts refl (flush_puts goes peer)

-- ---- ticks

-- a shorter queue is no more datagrams
any_less : (old new : List QueueEntry) → length new ≤ length old → (cond (has_any new) 1 0) ≤ (cond (has_any old) 1 0)
any_less old [] less = omega arith
any_less [] (e ∷ new) less = absurd (omega (arith, less))
any_less (o ∷ old) (e ∷ new) less = omega arith

fronts_shorter : (timed : Bool) (now : ℕ) (old : List QueueEntry) (datagrams : List (List ℕ)) (new : List QueueEntry)
    → PacksFronts timed now old datagrams new → length new ≤ length old
fronts_shorter timed now old [] new packs = omega (arith, ap (λ (q : List QueueEntry). length q) packs)
fronts_shorter timed now old (datagram ∷ datagrams) new packs =
    omega (arith, packs.2, fronts_shorter timed now packs.0 datagrams new packs.3)

packs_puts : (wait : Option ℕ) (old : PeerView) (now octets : ℕ) (new : PeerView) (packs : Packs wait old now octets new)
    → Puts (load_of (frames_packed wait old now octets new packs)) old new
packs_puts None old now octets new packs =
    let shorter = fronts_shorter old.rules.trunk_timestamps now old.queue packs.datagrams new.queue packs.fronts in
    let longer : length new.outbox.waiting ≡ length (old.outbox.waiting ++ packs.datagrams) =
    ap (λ (p : PeerView). length p.outbox.waiting) packs.rest in
    record {
      rules = ap (λ (p : PeerView). p.rules) packs.rest;
      most = omega (arith, any_less old.queue new.queue shorter, longer, length-append old.outbox.waiting packs.datagrams);
      sent = λ _. ap (λ (p : PeerView). p.outbox.lost) packs.rest;
      entries = omega (arith, shorter);
      octets = omega (arith, packs.media);
      queued = λ _. ap (λ (p : PeerView). dropped_for_room p.accounts) packs.rest;
    }
packs_puts (Some wait) old now octets new packs =
    subst (λ (p : PeerView). Puts no_load old p) (sym packs.rest)
    (flush_puts (is_due old.rules.trunk_ms old.since now && nat_lt (length old.outbox.waiting) 256) old)

pub tick_puts : (old : PeerView) (now : ℕ) (report : TickReport) (new : PeerView) (ticks : Ticks old now report new)
    → Puts (tick_load old now report new ticks) old new
tick_puts old now report new ticks =
    let sent : List (List ℕ) = pokes_sent old.rules old.pokes now in
    let pokes : ℕ = length sent in
    let first : PeerView = asked (counted old) now in
    let all : LegsTick = legs_tick ticks.legs.skips first.legs.places now in
    let flushed : PeerView = flushed_ahead first all.datagrams in
    let stepped_legs : PeerView = record flushed {
      legs = record first.legs { places = all.places };
      outbox = put flushed.outbox all.datagrams;
    } in
    let sends : ℕ = length all.datagrams in
    let packed : ℕ = frames_packed ticks.between.rules.trunk_ms ticks.between now ticks.octets new ticks.packs in
    let poke : Puts (load_of pokes) old first =
    puts_pokes (load_of pokes) old (record (counted old) { outbox = put old.outbox sent }) (pokes_after old.rules old.pokes now)
    (puts_too (load_of pokes) old (record old { outbox = put old.outbox sent }) old.legs (stepped old.accounts) refl
    (put_puts old sent)) in
    let ahead : Puts (plus (load_of pokes) no_load) old flushed =
    then_puts (load_of pokes) no_load old first flushed poke
    (flush_puts (has_any all.datagrams && waits first.rules) first) in
    let out : Puts (load_of sends) flushed stepped_legs =
    puts_too (load_of sends) flushed (record flushed { outbox = put flushed.outbox all.datagrams })
    (record first.legs { places = all.places }) flushed.accounts refl (put_puts flushed all.datagrams) in
    let before : Load = plus (load_of pokes) no_load in
    let legs : Puts (plus before (load_of sends)) old ticks.between =
    subst (λ (p : PeerView). Puts (plus before (load_of sends)) old p) (sym ticks.legs.legs)
    (then_puts before (load_of sends) old flushed stepped_legs ahead out) in
    puts_less (plus (plus before (load_of sends)) (load_of packed)) (load_of (pokes + sends + packed)) old new (omega arith)
    (omega arith)
    (then_puts (plus before (load_of sends)) (load_of packed) old ticks.between new legs
    (packs_puts ticks.between.rules.trunk_ms ticks.between now ticks.octets new ticks.packs))
