-- The ticks of a peer's legs, one after another.
use Rattle.std.specs.Prelude.{◌&&◌, All, map}
use Rattle.iax_frames.specs.FullFrame.{spelling}
use Rattle.std.proofs.Common.{◌≡◌, ◌≤◌, ℕ, zero, suc, ◌+◌, ◌<◌, Bool, true, false, List, [], ◌∷◌, ◌++◌, Option, Some, None}
use Rattle.std.proofs.Common.{slice_get, slice_set, length, take, drop, cond, ◌==◌, ap, sym, subst, refl, ◌∙◌, arith}
use Rattle.std.proofs.Math.Nat.{add_assoc}
use Rattle.std.proofs.lemmas.List.{append_assoc, append-nil, length-append, take_all, drop_all, take-append-drop}
use Rattle.leg_machine.specs.Leg.{LegState, entered, failed, must_end, end_failure}
use Rattle.leg_machine.specs.Stage.{is_ended}
use Rattle.leg_machine.specs.Ticks.{Tick, quiet, sends_if, must_hang_up, hang_up_step, must_ping, pinged, ping_step, last_step}
use Rattle.leg_machine.specs.Ticks.{due_frames, tick_step, is_idle}
use Rattle.leg_machine.specs.Tries.{tries}
use Rattle.call_signals.specs.declared.failure.Failure.TheVariants as failures
use Rattle.call_signals.specs.declared.reply.ReplyFrame.{ReplyFrame}
use Rattle.call_signals.specs.declared.reply.ReplyFrame.TheVariants as replies
use Rattle.call_signals.specs.declared.stage.Stage.TheVariants as stages
use Rattle.peer_legs.specs.Legs.{NamedLeg}
use Rattle.outbox.specs.Outbox.{put}
use Rattle.peer_lock.specs.Peer.{PeerView}
use Rattle.peer_legs.specs.Rests.{is_quiet, is_resting}
use Rattle.peer_lock.specs.Ticks.{LegsTick, PlaceTick, TicksLegs, flushed_ahead, place_tick, legs_tick, then_ticks}
use Rattle.peer_lock.specs.Trunks.{waits}
use Rattle.peer_lock.proofs.Choices.{either}
use Rattle.outbox.proofs.Puts.{put_none}
use Rattle.peer_lock.proofs.Trunks.{outbox_twice, queue_twice, accounts_twice}
use Rattle.seq_window.specs.Window.{held_count}

-- writing the element that is there already
pub place_same : (places : List (Option NamedLeg)) (index : ℕ) (place : Option NamedLeg) → slice_get places index ≡ Some place
    → places ≡ slice_set places index place
place_same [] index place there = cc
place_same (first ∷ places) zero place there = ap (λ p. p ∷ places) (cc)
place_same (first ∷ places) (suc index) place there = ap (λ ps. first ∷ ps) (place_same places index place there)

-- ---- the count of frames without memory

few_sends : (grown : Bool) (leg changed : LegState) (now : ℕ) (reply : ReplyFrame)
    → (sends_if grown leg changed now reply).skipped ≤ 1
few_sends true leg changed now reply = omega arith
few_sends false leg changed now reply = omega arith

few_quiet : (leg : LegState) → (quiet leg).skipped ≤ 1
few_quiet leg = omega arith

few_hung : (grown : Bool) (leg : LegState) (now : ℕ) → (hang_up_step grown leg now).skipped ≤ 1
few_hung grown leg now =
    either (λ (t : Tick). t.skipped ≤ 1) (must_hang_up leg) (sends_if grown leg (entered leg stages.Closing now) now
    (replies.Hangup leg.cause)) (quiet leg)
    (few_sends grown leg (entered leg stages.Closing now) now (replies.Hangup leg.cause)) (few_quiet leg)

few_pinged : (grown : Bool) (leg : LegState) (now : ℕ) → (ping_step grown leg now).skipped ≤ 1
few_pinged grown leg now =
    either (λ (t : Tick). t.skipped ≤ 1) (must_ping leg now) (sends_if grown leg (pinged leg now) now replies.Ping) (quiet leg)
    (few_sends grown leg (pinged leg now) now replies.Ping) (few_quiet leg)

few_last : (grown spent : Bool) (leg : LegState) (now : ℕ) → (last_step grown spent leg now).skipped ≤ 1
few_last grown spent leg now =
    either (λ (t : Tick). t.skipped ≤ 1) spent (quiet (failed leg failures.RetriesSpent now)) (ping_step grown leg now)
    (few_quiet (failed leg failures.RetriesSpent now)) (few_pinged grown leg now)

both_few : (a b : ℕ) → a ≤ 1 → b ≤ 1 → a + b ≤ 2
both_few a b one other = omega arith

few_due : (grown : Bool) (leg : LegState) (now : ℕ) → (due_frames grown leg now).skipped ≤ 2
few_due grown leg now =
    let hung = hang_up_step grown leg now in
    let tried = tries (held_count leg.window) hung.leg now in
    both_few hung.skipped (last_step grown tried.spent tried.leg now).skipped (few_hung grown leg now)
    (few_last grown tried.spent tried.leg now)

few_ticked : (grown : Bool) (leg : LegState) (now : ℕ) → (tick_step grown leg now).skipped ≤ 2
few_ticked grown leg now =
    either (λ (t : Tick). t.skipped ≤ 2) (is_ended leg.stage) (quiet leg)
    (cond (must_end leg now) (quiet (failed leg (end_failure leg) now)) (due_frames grown leg now))
    (omega arith)
    (either (λ (t : Tick). t.skipped ≤ 2) (must_end leg now) (quiet (failed leg (end_failure leg) now)) (due_frames grown leg now)
    (omega arith) (few_due grown leg now))

few_placed : (skipped : ℕ) (place : Option NamedLeg) (now : ℕ) → (place_tick skipped place now).skipped ≤ 2
few_placed skipped None now = omega arith
few_placed skipped (Some named) now = few_ticked (skipped == 0) named.leg now

pub few_at : (places : List (Option NamedLeg)) (index skipped now : ℕ) → index < length places
    → ((place : Option NamedLeg) → slice_get places index ≡ Some place → skipped ≡ (place_tick skipped place now).skipped)
    → skipped ≤ 2
few_at [] index skipped now within is = absurd (omega arith)
few_at (place ∷ places) zero skipped now within is = subst (λ n. n ≤ 2) (sym (is place refl)) (few_placed skipped place now)
few_at (place ∷ places) (suc index) skipped now within is = few_at places index skipped now (omega arith) is

-- ---- place after place

-- the ticks of the places so far
pub record AreTicked (start : PeerView) (now place : ℕ) (peer : PeerView) (skipped : ℕ) : Type 0 where
  pub skips : List ℕ
  pub count : length skips ≡ place
  pub skipped_are : skipped ≡ (legs_tick skips (take place start.legs.places) now).skipped
  pub here : peer ≡ record (flushed_ahead start (legs_tick skips (take place start.legs.places) now).datagrams) {
    legs = record start.legs {
      places = (legs_tick skips (take place start.legs.places) now).places ++ drop place
          start.legs.places;
    };
    outbox = put (flushed_ahead start (legs_tick skips (take place start.legs.places) now).datagrams).outbox
        (legs_tick skips (take place start.legs.places) now).datagrams;
  }

ticked_len : (skips : List ℕ) (places : List (Option NamedLeg)) (now : ℕ) → length (legs_tick skips places now).places
    ≡ length places
ticked_len skips [] now = refl
ticked_len [] (place ∷ places) now = ap suc (ticked_len [] places now)
ticked_len (s ∷ skips) (place ∷ places) now = ap suc (ticked_len skips places now)

-- one place more
ticked_more : (skips : List ℕ) (s : ℕ) (places : List (Option NamedLeg)) (place : Option NamedLeg) (now : ℕ)
    → length skips ≡ length places
    → legs_tick (skips ++ s ∷ []) (places ++ place ∷ []) now
    ≡ record {
      places = (legs_tick skips places now).places ++ (place_tick s place now).place ∷ [];
      datagrams = (legs_tick skips places now).datagrams ++ (place_tick s place now).datagrams;
      skipped = (legs_tick skips places now).skipped + (place_tick s place now).skipped;
    }
ticked_more [] s [] place now same = λ i. record {
  places = (place_tick s place now).place ∷ [];
  datagrams = append-nil (place_tick s place now).datagrams i;
  skipped = (nothing_more (place_tick s place now).skipped) i;
}
  where
    nothing_more : (n : ℕ) → n + 0 ≡ 0 + n
    nothing_more n = omega arith
ticked_more [] s (p ∷ places) place now same = absurd (omega arith)
ticked_more (t ∷ skips) s [] place now same = absurd (omega arith)
ticked_more (t ∷ skips) s (p ∷ places) place now same =
    ap (then_ticks (place_tick t p now)) (ticked_more skips s places place now (omega arith))
    ∙ λ i. record {
      places = (place_tick t p now).place ∷ ((legs_tick skips places now).places ++ (place_tick s place now).place ∷ []);
      datagrams = (sym (append_assoc (place_tick t p now).datagrams (legs_tick skips places now).datagrams
          (place_tick s place now).datagrams)) i;
      skipped = (sym (add_assoc (place_tick t p now).skipped (legs_tick skips places now).skipped
          (place_tick s place now).skipped)) i;
    }

-- the element at the border of two lists
seam_get : (front : List (Option NamedLeg)) (place : Option NamedLeg) (rest : List (Option NamedLeg))
    → slice_get (front ++ place ∷ rest) (length front) ≡ Some place
seam_get [] place rest = refl
seam_get (p ∷ front) place rest = seam_get front place rest

seam_set : (front : List (Option NamedLeg)) (place new : Option NamedLeg) (rest : List (Option NamedLeg))
    → slice_set (front ++ place ∷ rest) (length front) new ≡ front ++ new ∷ rest
seam_set [] place new rest = refl
seam_set (p ∷ front) place new rest = ap (λ ps. p ∷ ps) (seam_set front place new rest)

split_at : (places : List (Option NamedLeg)) (index : ℕ) (place : Option NamedLeg) → slice_get places index ≡ Some place
    → drop index places ≡ place ∷ drop (suc index) places
split_at [] index place there = cc
split_at (p ∷ places) zero place there = ap (λ q. q ∷ places) (cc)
split_at (p ∷ places) (suc index) place there = split_at places index place there

take_one : (places : List (Option NamedLeg)) (index : ℕ) (place : Option NamedLeg) → slice_get places index ≡ Some place
    → take (suc index) places ≡ take index places ++ place ∷ []
take_one [] index place there = cc
take_one (p ∷ places) zero place there = ap (λ q. q ∷ []) (cc)
take_one (p ∷ places) (suc index) place there = ap (λ ps. p ∷ ps) (take_one places index place there)

taken_len : (places : List (Option NamedLeg)) (index : ℕ) (place : Option NamedLeg) → slice_get places index ≡ Some place
    → length (take index places) ≡ index
taken_len [] index place there = cc
taken_len (p ∷ places) zero place there = refl
taken_len (p ∷ places) (suc index) place there = ap suc (taken_len places index place there)

-- the next place is unchanged so far
pub next_is : (start peer : PeerView) (now place skipped : ℕ) (so : AreTicked start now place peer skipped) (p : Option NamedLeg)
    → slice_get start.legs.places place ≡ Some p
    → (slice_get peer.legs.places place ≡ Some p)
next_is start peer now place skipped so p there =
    ap (λ (q : PeerView). slice_get q.legs.places place) so.here
    ∙ ap (λ rest. slice_get (front ++ rest) place) (split_at start.legs.places place p there)
    ∙ ap (λ i. slice_get (front ++ p ∷ drop (suc place) start.legs.places) i) (sym here)
    ∙ seam_get front p (drop (suc place) start.legs.places)
  where
    front : List (Option NamedLeg)
    front = (legs_tick so.skips (take place start.legs.places) now).places

    here : length front ≡ place
    here = ticked_len so.skips (take place start.legs.places) now ∙ taken_len start.legs.places place p there

pub more_ticked : (start peer next : PeerView) (now place skipped s : ℕ) → AreTicked start now place peer skipped
    → (p : Option NamedLeg) → slice_get start.legs.places place ≡ Some p
    → next ≡ record (flushed_ahead peer (place_tick s p now).datagrams) {
      legs = record peer.legs { places = slice_set peer.legs.places place (place_tick s p now).place };
      outbox = put (flushed_ahead peer (place_tick s p now).datagrams).outbox (place_tick s p now).datagrams;
    }
    → s ≡ (place_tick s p now).skipped
    → AreTicked start now (suc place) next (skipped + s)
more_ticked start peer next now place skipped s so p there went count = record {
  skips = so.skips ++ s ∷ [];
  count = length-append so.skips (s ∷ []) ∙ one_more (length so.skips) ∙ ap suc so.count;
  skipped_are = ap (λ n. n + s) so.skipped_are ∙ ap (λ n. (legs_tick so.skips (take place start.legs.places) now).skipped + n)
      count ∙ sym (ap (λ (t : LegsTick). t.skipped) joined);
  here = went ∙ ap after so.here ∙ λ i. record start {
    legs = record start.legs { places = places_are i };
    outbox = outbox_is i;
    queue = queue_is i;
    accounts = accounts_are i;
  };
}
  where
    one_more : (n : ℕ) → n + 1 ≡ suc n
    one_more n = omega arith

    before : LegsTick
    before = legs_tick so.skips (take place start.legs.places) now

    after : PeerView → PeerView
    after q = record (flushed_ahead q (place_tick s p now).datagrams) {
      legs = record q.legs { places = slice_set q.legs.places place (place_tick s p now).place };
      outbox = put (flushed_ahead q (place_tick s p now).datagrams).outbox (place_tick s p now).datagrams;
    }

    joined : legs_tick (so.skips ++ s ∷ []) (take (suc place) start.legs.places) now ≡ record {
      places = before.places ++ (place_tick s p now).place ∷ [];
      datagrams = before.datagrams ++ (place_tick s p now).datagrams;
      skipped = before.skipped + (place_tick s p now).skipped;
    }
    joined =
        ap (λ ps. legs_tick (so.skips ++ s ∷ []) ps now) (take_one start.legs.places place p there)
        ∙ ticked_more so.skips s (take place start.legs.places) p now (so.count ∙ sym (taken_len start.legs.places place p there))

    here : length before.places ≡ place
    here = ticked_len so.skips (take place start.legs.places) now ∙ taken_len start.legs.places place p there

    places_are : slice_set (before.places ++ drop place start.legs.places) place (place_tick s p now).place
        ≡ (legs_tick (so.skips ++ s ∷ []) (take (suc place) start.legs.places) now).places ++ drop (suc place) start.legs.places
    places_are =
        ap (λ rest. slice_set (before.places ++ rest) place (place_tick s p now).place) (split_at start.legs.places place p there)
        ∙ ap (λ n. slice_set (before.places ++ p ∷ drop (suc place) start.legs.places) n (place_tick s p now).place) (sym here)
        ∙ seam_set before.places p (place_tick s p now).place (drop (suc place) start.legs.places)
        ∙ sym (append_assoc before.places ((place_tick s p now).place ∷ []) (drop (suc place) start.legs.places))
        ∙ sym (ap (λ (t : LegsTick). t.places ++ drop (suc place) start.legs.places) joined)

    here_now : List (List ℕ)
    here_now = (place_tick s p now).datagrams

    outbox_is : (after (record (flushed_ahead start before.datagrams) {
      outbox = put (flushed_ahead start before.datagrams).outbox
          before.datagrams;
    })).outbox
        ≡ put (flushed_ahead start (legs_tick (so.skips ++ s ∷ []) (take (suc place) start.legs.places) now).datagrams).outbox
        (legs_tick (so.skips ++ s ∷ []) (take (suc place) start.legs.places) now).datagrams
    outbox_is =
        outbox_twice (waits start.rules) start.rules.trunk_timestamps start.since start.outbox before.datagrams here_now
        start.queue
        ∙ sym (ap (λ (t : LegsTick). put (flushed_ahead start t.datagrams).outbox t.datagrams) joined)

    queue_is : (after (flushed_ahead start before.datagrams)).queue
        ≡ (flushed_ahead start (legs_tick (so.skips ++ s ∷ []) (take (suc place) start.legs.places) now).datagrams).queue
    queue_is =
        queue_twice (waits start.rules) before.datagrams here_now start.queue
        ∙ sym (ap (λ (t : LegsTick). (flushed_ahead start t.datagrams).queue) joined)

    accounts_are : (after (flushed_ahead start before.datagrams)).accounts
        ≡ (flushed_ahead start (legs_tick (so.skips ++ s ∷ []) (take (suc place) start.legs.places) now).datagrams).accounts
    accounts_are =
        accounts_twice (waits start.rules) before.datagrams here_now start.queue start.accounts
        ∙ sym (ap (λ (t : LegsTick). (flushed_ahead start t.datagrams).accounts) joined)

pub none_ticked : (start : PeerView) (now : ℕ) → length start.outbox.waiting ≤ 256 → AreTicked start now 0 start 0
none_ticked start now short = record {
  skips = [];
  count = refl;
  skipped_are = refl;
  here = λ i. record start { outbox = (put_none start.outbox short) i };
}

pub all_ticked : (start peer : PeerView) (now place skipped : ℕ) → AreTicked start now place peer skipped
    → length start.legs.places ≤ place → TicksLegs start now skipped peer
all_ticked start peer now place skipped so past = record {
  skips = so.skips;
  count = so.skipped_are ∙ ap (λ ps. (legs_tick so.skips ps now).skipped) whole;
  legs = so.here ∙ λ i. record (flushed_ahead start (legs_tick so.skips (whole i) now).datagrams) {
    legs = record start.legs { places = places_are i };
    outbox = put (flushed_ahead start (legs_tick so.skips (whole i) now).datagrams).outbox
        (legs_tick so.skips (whole i) now).datagrams;
  };
}
  where
    whole : take place start.legs.places ≡ start.legs.places
    whole = take_all place start.legs.places past

    places_are : (legs_tick so.skips (take place start.legs.places) now).places ++ drop place start.legs.places
        ≡ (legs_tick so.skips start.legs.places now).places
    places_are =
        ap (λ rest. (legs_tick so.skips (take place start.legs.places) now).places ++ rest)
        (drop_all place start.legs.places past)
        ∙ append-nil (legs_tick so.skips (take place start.legs.places) now).places
        ∙ ap (λ ps. (legs_tick so.skips ps now).places) whole

-- the ticks don't change the number of places
pub ticked_count : (start peer : PeerView) (now place skipped : ℕ) → AreTicked start now place peer skipped
    → length peer.legs.places ≡ length start.legs.places
ticked_count start peer now place skipped so =
    ap (λ (q : PeerView). length q.legs.places) so.here
    ∙ length-append (legs_tick so.skips (take place start.legs.places) now).places (drop place start.legs.places)
    ∙ ap (λ n. n + length (drop place start.legs.places)) (ticked_len so.skips (take place start.legs.places) now)
    ∙ sym (length-append (take place start.legs.places) (drop place start.legs.places))
    ∙ ap length (take-append-drop place start.legs.places)

-- a place within the list has an element
pub some_at : (places : List (Option NamedLeg)) (index : ℕ) → index < length places → (p : Option NamedLeg) ×
    (slice_get places index ≡ Some p)
some_at [] index within = absurd (omega arith)
some_at (p ∷ places) zero within = (p, refl)
some_at (p ∷ places) (suc index) within = some_at places index (omega arith)

-- ---- if all legs rest

-- an idle leg stays as it is
abbrev pub IdleLegsStay : Type 0
IdleLegsStay = (grown : Bool) (leg : LegState) (now : ℕ) → is_idle leg now ≡ true → tick_step grown leg now ≡ quiet leg

and-right : (a b : Bool) → (a && b) ≡ true → b ≡ true
and-right true b is = is
and-right false b is = cc

resting_place : IdleLegsStay → (skipped now : ℕ) (place : Option NamedLeg) → is_resting place now ≡ true
    → place_tick skipped place now ≡ record { place = place; datagrams = []; skipped = 0 }
resting_place stay skipped now None rests = refl
resting_place stay skipped now (Some named) rests =
    ap (λ (t : Tick). record {
      place = Some (record { name = named.name; leg = t.leg });
      datagrams = map spelling t.replies;
      skipped = t.skipped;
    })
    (stay (skipped == 0) named.leg now (and-right (is_quiet (Some named)) (is_idle named.leg now) rests))

rest_more : (first : PlaceTick) (rest : LegsTick) (place : Option NamedLeg) (places : List (Option NamedLeg))
    → first ≡ record { place = place; datagrams = []; skipped = 0 } → rest ≡ record {
      places = places;
      datagrams = [];
      skipped = 0;
    }
    → then_ticks first rest ≡ record { places = place ∷ places; datagrams = []; skipped = 0 }
rest_more first rest place places first_is rest_is = λ i. then_ticks (first_is i) (rest_is i)

pub resting_places : IdleLegsStay → (skips : List ℕ) (now : ℕ) (places : List (Option NamedLeg))
    → All (λ place. is_resting place now ≡ true) places
    → legs_tick skips places now ≡ record { places = places; datagrams = []; skipped = 0 }
resting_places stay skips now [] all = refl
resting_places stay [] now (place ∷ places) all =
    rest_more (place_tick 0 place now) (legs_tick [] places now) place places
    (resting_place stay 0 now place (all 0 place (omega arith)))
    (resting_places stay [] now places (λ k d within. all (suc k) d (omega arith)))
resting_places stay (skipped ∷ skips) now (place ∷ places) all =
    rest_more (place_tick skipped place now) (legs_tick skips places now) place places
    (resting_place stay skipped now place (all 0 place (omega arith)))
    (resting_places stay skips now places (λ k d within. all (suc k) d (omega arith)))

-- the legs that rest stay at a tick
abbrev pub RestingLegsStay : Type 0
RestingLegsStay = (skips : List ℕ) (now : ℕ) (places : List (Option NamedLeg)) → All (λ place. is_resting place now ≡ true) places
    → legs_tick skips places now ≡ record { places = places; datagrams = []; skipped = 0 }

pub none_to_tick : RestingLegsStay → (start : PeerView) (now : ℕ) → length start.outbox.waiting ≤ 256
    → All (λ place. is_resting place now ≡ true) start.legs.places
    → TicksLegs start now 0 start
none_to_tick stay start now short all = record {
  skips = [];
  count = ap (λ (t : LegsTick). t.skipped) (sym still);
  legs = (λ i. record start { outbox = (put_none start.outbox short) i })
      ∙ ap (λ (t : LegsTick). record (flushed_ahead start t.datagrams) {
        legs = record start.legs { places = t.places };
        outbox = put (flushed_ahead start t.datagrams).outbox t.datagrams;
      }) (sym still);
}
  where
    still : legs_tick [] start.legs.places now ≡ record { places = start.legs.places; datagrams = []; skipped = 0 }
    still = stay [] now start.legs.places all
