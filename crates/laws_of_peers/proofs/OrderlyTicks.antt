-- What a tick of a peer carries on.
use Rattle.std.specs.Prelude.{map, nat_lt, ◌==◌}
use Rattle.std.specs.List.{AllByRecursion}
use Rattle.std.proofs.Common.{ℕ, inl, inr, ◌≡◌, ◌≢◌, ◌<◌, ◌&&◌, Bool, true, false, cond, List, [], ◌∷◌, ◌++◌, Option, None, Some}
use Rattle.std.proofs.Common.{length}
use Rattle.std.proofs.Common.{ap, sym, subst, refl, ◌∙◌, arith}
use Rattle.std.proofs.lemmas.List.{append-nil, append_assoc, map-append}
use Rattle.iax_frames.specs.FullFrame.{FullFrame, spelling}
use Rattle.iax_frames.specs.TrunkFrame.{SpellsTrunk, entry, trunk_head}
use Rattle.leg_machine.specs.Ticks.{tick_step}
use Rattle.outbox.specs.Outbox.{put}
use Rattle.call_signals.specs.declared.rules.PeerRules.{PeerRules}
use Rattle.peer_legs.specs.Legs.{NamedLeg}
use Rattle.laws_of_peers.specs.CarriedOn.{queued_of}
use Rattle.laws_of_peers.proofs.Orderly.{queued_both, sent_entries}
use Rattle.laws_of_peers.specs.CarriedOn.{CarriesOn, IsOutgoing, Outgoing, Trunk, entries_in, nothing, octets_of}
use Rattle.laws_of_peers.specs.CarriedOn.{ordered_in}
use Rattle.peer_lock.specs.Peer.{PeerView, counted}
use Rattle.peer_lock.specs.Pokes.{is_poke_due, poke_head, poke_octets, poke_stamp, pokes_after, pokes_sent}
use Rattle.peer_lock.specs.Ticks.{LegsTick, Packs, PacksFronts, Ticks, asked, flushed_ahead, legs_tick, place_tick}
use Rattle.peer_lock.specs.Trunks.{has_any, is_due, waits}
use Rattle.peer_lock.specs.declared.steps.TickReport.{TickReport}
use Rattle.laws_of_peers.proofs.OldFrames.{AreOld, old_both, tick_old}
use Rattle.laws_of_peers.proofs.OrderlyParts.{carries_then, carries_too, flush_carries, put_carries}
use Rattle.laws_of_peers.proofs.OrderlySteps.{counted_carries}
use Rattle.trunk_packer.specs.Queue.{QueueEntry, trunk_of, trunk_spelling}

-- ---- full frames

-- these datagrams are full frames without new media
record Frames (datagrams : List (List ℕ)) : Type 0 where
  frames : List FullFrame
  spelled : map spelling frames ≡ datagrams
  old : AreOld frames

no_frames : Frames []
no_frames = record { frames = []; spelled = refl; old = tt }

both_frames : (one other : List (List ℕ)) → Frames one → Frames other → Frames (one ++ other)
both_frames one other first second = record {
  frames = first.frames ++ second.frames;
  spelled = map-append spelling first.frames second.frames ∙ (λ i. first.spelled i ++ second.spelled i);
  old = old_both first.frames second.frames first.old second.old;
}

put_frames : (peer : PeerView) (datagrams : List (List ℕ)) → Frames datagrams
    → CarriesOn peer (record peer { outbox = put peer.outbox datagrams })
put_frames peer datagrams frames =
    subst (λ (d : List (List ℕ)). CarriesOn peer (record peer { outbox = put peer.outbox d })) frames.spelled
    (put_carries peer frames.frames frames.old)

poke_frames : (due : Bool) (timestamp : ℕ) → Frames (cond due (poke_octets timestamp ∷ []) [])
poke_frames true timestamp = record {
  frames = record { head = poke_head timestamp; payload = [] } ∷ [];
  spelled = refl;
  old = ((λ is. absurd (omega (arith, is))), tt);
}
poke_frames false timestamp = no_frames

place_frames : (skipped : ℕ) (place : Option NamedLeg) (now : ℕ) → Frames (place_tick skipped place now).datagrams
place_frames skipped None now = no_frames
place_frames skipped (Some named) now =
    record {
      frames = (tick_step (skipped == 0) named.leg now).replies;
      spelled = refl;
      old = tick_old
          (skipped == 0) named.leg now;
    }

legs_frames : (skips : List ℕ) (places : List (Option NamedLeg)) (now : ℕ) → Frames (legs_tick skips places now).datagrams
legs_frames skips [] now = no_frames
legs_frames [] (place ∷ places) now =
    both_frames (place_tick 0 place now).datagrams (legs_tick [] places now).datagrams (place_frames 0 place now)
    (legs_frames [] places now)
legs_frames (skipped ∷ skips) (place ∷ places) now =
    both_frames (place_tick skipped place now).datagrams (legs_tick skips places now).datagrams (place_frames skipped place now)
    (legs_frames skips places now)

-- ---- trunk frames

-- these datagrams are trunk frames of the front of a queue, and the rest of it stays
record Fronts (timed : Bool) (old : List QueueEntry) (datagrams : List (List ℕ)) (new : List QueueEntry) : Type 0 where
  outs : List Outgoing
  spelled : map (octets_of timed) outs ≡ datagrams
  whole : old ≡ entries_in outs ++ new
  ordered : ordered_in outs ≡ []
  outgoing : AllByRecursion IsOutgoing outs

spells : (timed : Bool) (now : ℕ) (front : List QueueEntry) (octets : List ℕ) → SpellsTrunk octets (trunk_of timed now front)
    → trunk_spelling timed now front ≡ octets
spells timed now front octets spelled =
    let t = trunk_of timed now front in
    sym (spelled.whole ∙ ap (λ (rest : List ℕ). trunk_head t.command_data t.timestamp ++ rest) spelled.entries.whole)

some_front : (front old rest : List QueueEntry) → old ≡ front ++ rest → length rest < length old → front ≢ []
some_front front old rest whole shorter none =
    let same : length old ≡ length rest = ap (λ (l : List QueueEntry). length l) (whole ∙ (λ i. none i ++ rest)) in
    omega (arith, same, shorter)

fronts_are : (timed : Bool) (now : ℕ) (old : List QueueEntry) (datagrams : List (List ℕ)) (new : List QueueEntry)
    → PacksFronts timed now old datagrams new → Fronts timed old datagrams new
fronts_are timed now old [] new same = record { outs = []; spelled = refl; whole = sym same; ordered = refl; outgoing = tt }
fronts_are timed now old (datagram ∷ datagrams) new packs =
    let front : List QueueEntry = packs.1.front in
    let later = fronts_are timed now packs.0 datagrams new packs.3 in
    record {
      outs = Trunk now front ∷ later.outs;
      spelled = λ i. spells timed now front datagram packs.1.spelled i ∷ later.spelled i;
      whole = packs.1.whole ∙ ap (λ (l : List QueueEntry). front ++ l) later.whole
          ∙ sym (append_assoc front (entries_in later.outs) new);
      ordered = later.ordered;
      outgoing = (some_front front old packs.0 packs.1.whole packs.2, later.outgoing);
    }

none_behind : (front rest : List QueueEntry) → [] ≡ front ++ rest → rest ≡ []
none_behind [] rest is = sym is
none_behind (entry ∷ front) rest is = cc

packs_carry : (wait : Option ℕ) (old : PeerView) (now octets : ℕ) (new : PeerView) → Packs wait old now octets new
    → CarriesOn old new
packs_carry None old now octets new packs =
    let timed : Bool = old.rules.trunk_timestamps in
    let fronts = fronts_are timed now old.queue packs.datagrams new.queue packs.fronts in record {
      carried = record nothing { put = fronts.outs };
      order = record {
        rules = ap (λ (p : PeerView). p.rules) packs.rest;
        queue = append-nil old.queue ∙ fronts.whole;
        outbox = ap (λ (p : PeerView). p.outbox.waiting) packs.rest
            ∙ ap (λ (l : List (List ℕ)). old.outbox.waiting ++ l) (sym fronts.spelled);
        lost = ap (λ (p : PeerView). p.outbox.lost) packs.rest;
        dropped = let same : new.accounts.dropped ≡ old.accounts.dropped = ap (λ (p : PeerView). p.accounts.dropped) packs.rest in
            omega (arith, same);
        outgoing = fronts.outgoing;
        in_turn = λ goes number.
            append-nil (queued_of number old.queue) ∙ ap (queued_of number) fronts.whole
            ∙ queued_both number (entries_in fronts.outs) new.queue
            ∙ ap (λ (l : List (List ℕ)). l ++ queued_of number new.queue) (sym (sent_entries number fronts.outs fronts.ordered));
        ahead = λ goes.
            let rules : new.rules ≡ old.rules = ap (λ (p : PeerView). p.rules) packs.rest in
            elim goes [
              | inl waiting ↦ inl (
                ap (λ (r : PeerRules). waits r) rules ∙ waiting.0,
                ap (λ (r : PeerRules). r.trunk) rules ∙ waiting.1,
              )
              | inr none ↦ inr (
                ap (λ (r : PeerRules). r.trunk) rules ∙ none.0,
                none_behind (entries_in fronts.outs) new.queue (sym none.1 ∙ fronts.whole),
              )
            ];
      };
      none_taken = refl;
      no_media = record { kept = refl; queued = refl; put = fronts.ordered; dropped = refl };
    }
packs_carry (Some wait) old now octets new packs =
    subst (λ (p : PeerView). CarriesOn old p) (sym packs.rest)
    (flush_carries (is_due old.rules.trunk_ms old.since now && nat_lt (length old.outbox.waiting) 256) old)

-- ---- the tick

pub tick_carries : (old : PeerView) (now : ℕ) (report : TickReport) (new : PeerView) → Ticks old now report new
    → CarriesOn old new
tick_carries old now report new ticks =
    let begins : PeerView = counted old in
    let pokes : List (List ℕ) = pokes_sent old.rules old.pokes now in
    let poked : PeerView = record begins { outbox = put begins.outbox pokes } in
    let first : PeerView = asked begins now in
    let all : LegsTick = legs_tick ticks.legs.skips first.legs.places now in
    let flushed : PeerView = flushed_ahead first all.datagrams in
    let out : PeerView = record flushed { outbox = put flushed.outbox all.datagrams } in
    let asks : CarriesOn old first =
    carries_then old begins first (counted_carries old)
    (carries_too begins poked poked.legs (pokes_after old.rules old.pokes now) poked.accounts refl
    (put_frames begins pokes (poke_frames (is_poke_due old.rules old.pokes now) (poke_stamp old.rules now)))) in
    let ahead : CarriesOn old flushed =
    carries_then old first flushed asks (flush_carries (has_any all.datagrams && waits first.rules) first) in
    let sends : CarriesOn old out =
    carries_then old flushed out ahead (put_frames flushed all.datagrams (legs_frames ticks.legs.skips first.legs.places now)) in
    let legs : CarriesOn old ticks.between =
    subst (λ (p : PeerView). CarriesOn old p) (sym ticks.legs.legs)
    (carries_too old out (record first.legs { places = all.places }) out.pokes out.accounts refl sends) in
    carries_then old ticks.between new legs (packs_carry ticks.between.rules.trunk_ms ticks.between now ticks.octets new
    ticks.packs)
