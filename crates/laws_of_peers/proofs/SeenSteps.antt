-- The visible effect of an opening, an order, a tick, and the removal of a leg.
use Rattle.std.specs.Prelude.{◌&&◌, not, option_map, nat_lt, ◌↔◌, is_some, if◌then◌else◌}
use Rattle.std.proofs.Common.{◌≡◌, ◌≢◌, ℕ, zero, suc, ◌+◌, ◌<◌, ◌≤◌, ◌==◌, nat_le, Bool, true, false, cond, inl, inr, List, []}
use Rattle.std.proofs.Common.{◌∷◌, length, Option, Some, None, slice_get, refl, sym, ap, subst, ◌∙◌, ◌-◌}
use Rattle.std.proofs.lemmas.Bool.{cases_Bool, eqb-true, leb-true, ltb-true}
use Rattle.call_book.specs.declared.leg_name.LegName.{LegName}
use Rattle.iax_frames.specs.FullFrame.{FullFrame}
use Rattle.iax_frames.specs.MiniFrame.{mini_spelling}
use Rattle.leg_machine.specs.Leg.{LegState}
use Rattle.leg_machine.specs.Media.{media_sent}
use Rattle.leg_machine.specs.Openings.{open_in_step, open_out_step}
use Rattle.leg_machine.specs.OrderTable.{order_refused, order_carried, wants_memory, refuses_digits}
use Rattle.leg_machine.specs.Seen.{SeenLeg, seen, kind_of, stage_after, stage_ordered, fresh_leg, IsSeenOpening, IsSeenOrder}
use Rattle.leg_machine.specs.Seen.{IsSeenTick}
use Rattle.leg_machine.specs.Ticks.{tick_step}
use Rattle.call_signals.specs.declared.format.Format.{Format}
use Rattle.leg_machine.specs.declared.media.MediaSent.{MediaSent}
use Rattle.leg_machine.specs.declared.media.MediaSent.TheVariants as sent
use Rattle.call_signals.specs.Order.{Kind, Order}
use Rattle.call_signals.specs.declared.order.Command.TheVariants as commands
use Rattle.call_signals.specs.declared.order.OrderError.{OrderError as LegError}
use Rattle.call_signals.specs.declared.order.OrderError.TheVariants as leg_errors
use Rattle.call_signals.specs.declared.rules.PeerRules.{PeerRules}
use Rattle.call_signals.specs.declared.stage.Stage.{Stage}
use Rattle.call_signals.specs.declared.stage.Stage.TheVariants.{Waiting}
use Rattle.peer_legs.specs.Legs.{NamedLeg, PeerLegs, filled, leg_at, leg_named, if_named, with_place, with_leg}
use Rattle.peer_legs.specs.Legs.{is_free_name}
use Rattle.peer_lock.specs.Openings.{opens_in, opens_out}
use Rattle.peer_lock.specs.Orders.{order_refused_by, refused_at, from_leg_due, ordered_if, ordered_at, ordered_step}
use Rattle.peer_lock.specs.Orders.{IsOrderRefusal, counted_media, short_media, queued_media, waiting_media, carried_media}
use Rattle.peer_lock.specs.Orders.{with_media}
use Rattle.peer_lock.specs.Peer.{PeerView, flushed_if, handed_up, with_datagram}
use Rattle.peer_lock.specs.Seen.{SeenNamed, seen_named, seen_at, TurnsAt, OpensIn, OpensOut, Obeys, IsGone, Refuses}
use Rattle.peer_lock.specs.Seen.{refuses_order, IsSeenRefusal, IsTickedAt, TicksAll, Retires}
use Rattle.peer_lock.specs.Statuses.{is_done}
use Rattle.peer_lock.specs.Ticks.{legs_tick, place_tick, Ticks}
use Rattle.peer_lock.specs.Trunks.{is_full_for, begins_next}
use Rattle.peer_accounts.specs.declared.account.Carried.TheVariants.{Packed}
use Rattle.peer_lock.specs.declared.errors.OrderError.{OrderError}
use Rattle.peer_lock.specs.declared.errors.OrderError.TheVariants as errors
use Rattle.peer_lock.specs.declared.steps.TickReport.{TickReport}
use Rattle.trunk_packer.specs.Queue.{QueueEntry}
use Rattle.peer_lock.proofs.Choices.{either}
use Rattle.laws_of_peers.proofs.TrunkSending.{packs_legs}
use Rattle.laws_of_peers.proofs.SeenChanges.{named_at, none_named, seen_of_name, placed_turns, put_turns, leg_turns}

-- ---- openings

pub record IsFree (legs : PeerLegs) (name : LegName) : Type 0 where
  pub peer : name.peer ≡ legs.peer
  pub first : legs.first ≤ name.number
  pub within : name.number < legs.first + length legs.places
  pub none : leg_at legs name.number ≡ None

not_some : (o : Option NamedLeg) → not (is_some o) ≡ true → o ≡ None
not_some None e = refl
not_some (Some named) e = cc

all_four : (a b c d : Bool) → (a && (b && c) && d) ≡ true → (a ≡ true) × (b ≡ true) × (c ≡ true) × (d ≡ true)
all_four true true true d e = (refl, refl, refl, e)
all_four true true false d e = cc
all_four true false c d e = cc
all_four false b c d e = cc

pub free_name : (legs : PeerLegs) (name : LegName) → is_free_name legs name ≡ true → IsFree legs name
free_name legs name free =
    let all = all_four (name.peer == legs.peer) (nat_le legs.first name.number)
    (nat_lt name.number (legs.first + length legs.places))
    (not (is_some (leg_at legs name.number))) free in
    record {
      peer = eqb-true name.peer legs.peer all.0;
      first = leb-true legs.first name.number all.1;
      within = ltb-true name.number (legs.first + length legs.places) all.2;
      none = not_some (leg_at legs name.number) all.3;
    }

module _ (law : (rules : PeerRules) (number : ℕ) (frame : FullFrame) (now : ℕ) (challenge : List ℕ) → 1 ≤ rules.window
    → IsSeenOpening (seen (open_in_step rules number frame now challenge).leg)
    (open_in_step rules number frame now challenge).signal) where
  pub call_in_seen : (peer : PeerView) (name : LegName) (frame : FullFrame) (now : ℕ) (challenge : List ℕ) → 1 ≤ peer.rules.window
      → is_free_name peer.legs name ≡ true
      → OpensIn peer.legs name (opens_in peer name frame now challenge)
  call_in_seen peer name frame now challenge some free =
      let is = free_name peer.legs name free in
      let s = open_in_step peer.rules name.number frame now challenge in
      let opening = law peer.rules name.number frame now challenge some in
      let turns = placed_turns peer.legs name.number (Some (record { name = name; leg = s.leg })) is.first is.within in
      record {
        peer = is.peer;
        free = ap (option_map seen_named) is.none;
        opening = opening.0;
        turns = record {
          peer = turns.peer;
          there = turns.there ∙ (λ i. Some (record { name = name; seen = opening.1 i }));
          rest = turns.rest;
        };
        signals = ap (handed_up name) opening.2;
        touched = refl;
      }

module _ (law : (rules : PeerRules) (number : ℕ) (called : List ℕ) (caller : List ℕ) (format : Format) (now : ℕ)
    → seen (open_out_step rules number called caller format now).leg ≡ fresh_leg Waiting) where
  pub call_out_seen : (peer : PeerView) (name : LegName) (called : List ℕ) (caller : List ℕ) (format : Format) (now : ℕ)
      → is_free_name peer.legs name ≡ true
      → OpensOut peer.legs (opens_out peer name called caller format now).peer.legs name
  call_out_seen peer name called caller format now free =
      let is = free_name peer.legs name free in
      let s = open_out_step peer.rules name.number called caller format now in
      let turns = placed_turns peer.legs name.number (Some (record { name = name; leg = s.leg })) is.first is.within in
      record {
        peer = is.peer;
        free = ap (option_map seen_named) is.none;
        turns = record {
          peer = turns.peer;
          there = turns.there ∙ (λ i. Some (record {
            name = name;
            seen = law peer.rules name.number called caller format now i;
          }));
          rest = turns.rest;
        };
      }

-- ---- orders

-- the legs after media are those of the leg that sent it
queued_legs : (peer : PeerView) (entry : QueueEntry) (now : ℕ) → (queued_media peer entry now).legs ≡ peer.legs
queued_legs peer entry now = elim (cases_Bool (is_full_for peer.queue (length entry.media))) [
  | inl e ↦ rw e refl
  | inr e ↦ rw e refl
]

short_legs : (peer : PeerView) (number timestamp : ℕ) (media : List ℕ) (now : ℕ)
    → (short_media peer number timestamp media now).legs ≡ peer.legs
short_legs peer number timestamp media now =
    let entry : QueueEntry = record { number = number; timestamp = timestamp; media = media } in
    either (λ (p : PeerView). p.legs ≡ peer.legs) peer.rules.trunk (waiting_media peer entry now)
    (carried_media (with_datagram peer (mini_spelling (record { source = number; timestamp = timestamp; media = media }))) Packed
    (length media))
    (queued_legs (flushed_if (begins_next peer.rules peer.queue number (length media)) peer) entry now) refl

media_legs : (how : MediaSent) (peer : PeerView) (number : ℕ) (media : List ℕ) (now : ℕ)
    → (counted_media how peer number media now).legs ≡ peer.legs
media_legs sent.Quelched peer number media now = refl
media_legs sent.Voice peer number media now = refl
media_legs (sent.Mini timestamp) peer number media now = short_legs peer number timestamp media now

pub ordered_legs : (peer : PeerView) (named : NamedLeg) (order : Order) (now : ℕ) → (ordered_at peer named order now).legs
    ≡ with_leg peer.legs named.name (order_carried named.leg order now).leg
ordered_legs peer named (commands.Media media) now =
    media_legs (media_sent named.leg now) (with_media (media_sent named.leg now) peer named media.now now) named.name.number
    media.now now
ordered_legs peer named (commands.Accept format) now = refl
ordered_legs peer named (commands.Reject cause) now = refl
ordered_legs peer named (commands.Indicate indication) now = refl
ordered_legs peer named commands.Answer now = refl
ordered_legs peer named (commands.Dtmf digit) now = refl
ordered_legs peer named (commands.Hangup cause) now = refl
ordered_legs peer named (commands.Doom cause) now = refl
ordered_legs peer named commands.Paid now = refl

none_due : (due : Option LegError) → from_leg_due due ≡ None → due ≡ None
none_due None e = refl
none_due (Some due) e = cc

-- an existing leg doesn't refuse the order
pub unspent : (spent : Bool) (refusal : Option OrderError) → (if spent then Some errors.StepsSpent else refusal) ≡ None
    → refusal ≡ None
unspent true refusal e = cc
unspent false refusal e = e

turned_name : (old new : PeerLegs) (named : NamedLeg) (name : LegName) (after : SeenLeg) → named.name ≡ name
    → TurnsAt old new named.name.number (Some (record { name = named.name; seen = after }))
    → TurnsAt old new name.number (Some (record { name = name; seen = after }))
turned_name old new named name after is turns =
    subst (λ (n : LegName). TurnsAt old new n.number (Some (record { name = n; seen = after }))) is turns

module _ (law : (leg : LegState) (order : Order) (now : ℕ) → order_refused leg order now ≡ None
    → IsSeenOrder (kind_of order) (seen leg) (seen (order_carried leg order now).leg)) where
  obeyed : (peer : PeerView) (name : LegName) (order : Order) (now : ℕ) (o : Option NamedLeg) → leg_named peer.legs name ≡ o
      → refused_at o order now ≡ None
      → Obeys peer.legs (ordered_if peer o order now).legs name (kind_of order)
  obeyed peer name order now None is none = cc
  obeyed peer name order now (Some named) is none =
      let at = named_at peer.legs name named is in
      let after = (order_carried named.leg order now).leg in
      let here : leg_at peer.legs named.name.number ≡ Some named = ap (λ (n : LegName). leg_at peer.legs n.number) at.is
      ∙ at.at in
      record {
        before = seen named.leg;
        at = seen_of_name peer.legs name named at;
        after = seen after;
        order = law named.leg order now (none_due (order_refused named.leg order now) none);
        turns = turned_name peer.legs _ named name (seen after) at.is
            (subst (λ (legs : PeerLegs). TurnsAt peer.legs legs named.name.number
            (Some (record { name = named.name; seen = seen after })))
            (sym (ordered_legs peer named order now)) (leg_turns peer.legs named after here));
      }

  pub order_seen : (peer : PeerView) (credit : ℕ) (name : LegName) (order : Order) (now : ℕ)
      → order_refused_by peer credit name order now ≡ None
      → Obeys peer.legs (ordered_step peer name order now).legs name (kind_of order)
  order_seen peer credit name order now none =
      obeyed peer name order now (leg_named peer.legs name) refl (unspent (peer.accounts.steps == credit)
      (refused_at (leg_named peer.legs name) order now) none)

-- ---- refusals

gone : (legs : PeerLegs) (name : LegName) → leg_named legs name ≡ None → IsGone legs name
gone legs name none before = gone_at (leg_at legs name.number) name before none
  where
    gone_at : (o : Option NamedLeg) (name : LegName) (before : SeenLeg) → if_named name o ≡ None
        → option_map seen_named o ≢ Some (record { name = name; seen = before })
    gone_at None name before none = λ at. cc
    gone_at (Some named) name before none = λ at.
        let same : seen_named named ≡ record { name = name; seen = before } = cc in
        none_named (Some named) name named none refl (ap (λ (n : SeenNamed). n.name) same)

-- an order that a leg may refuse for want of memory it may refuse for want of room
alike : (kind : Kind) → (refuses_order kind errors.WindowFull ≡ refuses_order kind errors.Memory) ×
    (refuses_order kind errors.RecordFull ≡ refuses_order kind errors.Memory)
alike (commands.Doom cause) = (refl, refl)
alike commands.Paid = (refl, refl)
alike kind = (refl, refl)

-- an order that a leg may refuse
refusable : (leg : LegState) (order : Order) (now : ℕ) (due : LegError) → order_refused leg order now ≡ Some due
    → refuses_order (kind_of order) errors.Memory ≡ true
refusable leg (commands.Doom cause) now due is = cc
refusable leg commands.Paid now due is = cc
refusable leg order now due is = refl

-- .. or for which it may need memory
unsure : (leg : LegState) (order : Order) (now : ℕ) → wants_memory leg order now ≡ true
    → refuses_order (kind_of order) errors.Memory ≡ true
unsure leg (commands.Doom cause) now wants = cc
unsure leg commands.Paid now wants = cc
unsure leg order now wants = refl

right_stage : (there : Option Stage) → there ≢ None → is_some there ≡ true
right_stage None some = absurd (some refl)
right_stage (Some stage) some = refl

-- an order without a next stage from a stage changes no leg of that stage
none_ordered : (leg : LegState) (kind : Kind) → stage_after kind leg.stage ≡ None → stage_ordered leg kind ≡ None
none_ordered leg (commands.Dtmf digit) none = either_way (refuses_digits leg)
  where
    either_way : (b : Bool) → cond b None (stage_after (commands.Dtmf digit) leg.stage) ≡ None
    either_way true = refl
    either_way false = none
none_ordered leg kind none = none

-- an order that a leg of the right stage ignores is a digit
digit_refused : (leg : LegState) (kind : Kind) → stage_ordered leg kind ≡ None → is_some (stage_after kind leg.stage) ≡ true
    → refuses_order kind errors.WrongStage ≡ true
digit_refused leg (commands.Dtmf digit) none right = refl
digit_refused leg kind none right =
    let never : is_some (stage_after kind leg.stage) ≡ false = ap is_some none in cc

module _ (law : (leg : LegState) (order : Order) (now : ℕ) → (order_refused leg order now ≡ Some leg_errors.WrongStage)
    ↔ (stage_ordered leg (kind_of order) ≡ None)) where
  -- an existing leg refuses an order at a right stage
  there : (legs : PeerLegs) (name : LegName) (named : NamedLeg) (order : Order) (now : ℕ) (error : OrderError)
      → leg_named legs name ≡ Some named
      → order_refused named.leg order now ≢ Some leg_errors.WrongStage → refuses_order (kind_of order) error ≡ true
      → Refuses legs name (kind_of order) error true
  there legs name named order now error is right refuses = record {
    before = seen named.leg;
    at = seen_of_name legs name named (named_at legs name named is);
    right = right_stage (stage_after (kind_of order) named.leg.stage)
        (λ none. right ((law named.leg order now).1 (none_ordered named.leg (kind_of order) none)));
    refuses = λ e. refuses;
  }

  due_seen : (legs : PeerLegs) (name : LegName) (named : NamedLeg) (order : Order) (now : ℕ) (error : OrderError)
      (due : Option LegError) → leg_named legs name ≡ Some named
      → order_refused named.leg order now ≡ due → IsOrderRefusal (from_leg_due due) error
      → (error ≡ errors.Memory → (one : NamedLeg) → leg_named legs name ≡ Some one → wants_memory one.leg order now ≡ true)
      → IsSeenRefusal legs name (kind_of order) error
  due_seen legs name named order now error None is none refused wants =
      rw refused (there legs name named order now errors.Memory is (λ wrong. let never : None ≡ Some leg_errors.WrongStage = sym
      none ∙ wrong in cc)
      (unsure named.leg order now (wants refused named is)))
  due_seen legs name named order now error (Some leg_errors.WrongStage) is due refused wants =
      rw refused (
        is_some (stage_after (kind_of order) named.leg.stage),
        record {
          before = seen named.leg;
          at = seen_of_name legs name named (named_at legs name named is);
          right = refl;
          refuses = digit_refused named.leg (kind_of order) ((law named.leg order now).0 due);
        },
      )
  due_seen legs name named order now error (Some leg_errors.WindowFull) is due refused wants =
      rw refused (there legs name named order now errors.WindowFull is (λ wrong. let never : Some leg_errors.WindowFull
      ≡ Some leg_errors.WrongStage = sym due ∙ wrong in cc)
      ((alike (kind_of order)).0 ∙ refusable named.leg order now _ due))
  due_seen legs name named order now error (Some leg_errors.RecordFull) is due refused wants =
      rw refused (there legs name named order now errors.RecordFull is (λ wrong. let never : Some leg_errors.RecordFull
      ≡ Some leg_errors.WrongStage = sym due ∙ wrong in cc)
      ((alike (kind_of order)).1 ∙ refusable named.leg order now _ due))
  due_seen legs name named order now error (Some leg_errors.Memory) is due refused wants =
      rw refused (there legs name named order now errors.Memory is (λ wrong. let never : Some leg_errors.Memory
      ≡ Some leg_errors.WrongStage = sym due ∙ wrong in cc)
      (refusable named.leg order now _ due))

  at_leg_seen : (legs : PeerLegs) (name : LegName) (order : Order) (now : ℕ) (error : OrderError) (o : Option NamedLeg)
      → leg_named legs name ≡ o
      → IsOrderRefusal (refused_at o order now) error
      → (error ≡ errors.Memory → (one : NamedLeg) → leg_named legs name ≡ Some one → wants_memory one.leg order now ≡ true)
      → IsSeenRefusal legs name (kind_of order) error
  at_leg_seen legs name order now error None is refused wants = rw refused (gone legs name is)
  at_leg_seen legs name order now error (Some named) is refused wants =
      due_seen legs name named order now error (order_refused named.leg order now) is refl refused wants

  refusal_at : (legs : PeerLegs) (name : LegName) (order : Order) (now : ℕ) (error : OrderError) (spent : Bool)
      → IsOrderRefusal (if spent then Some errors.StepsSpent else refused_at (leg_named legs name) order now) error
      → (error ≡ errors.Memory → (one : NamedLeg) → leg_named legs name ≡ Some one → wants_memory one.leg order now ≡ true)
      → IsSeenRefusal legs name (kind_of order) error
  refusal_at legs name order now error true refused wants = rw refused tt
  refusal_at legs name order now error false refused wants = at_leg_seen legs name order now error (leg_named legs name) refl
      refused wants

  pub refusal_seen : (peer : PeerView) (credit : ℕ) (name : LegName) (order : Order) (now : ℕ) (error : OrderError)
      → IsOrderRefusal (order_refused_by peer credit name order now) error
      → (error ≡ errors.Memory → (one : NamedLeg) → leg_named peer.legs name ≡ Some one → wants_memory one.leg order now ≡ true)
      → IsSeenRefusal peer.legs name (kind_of order) error
  refusal_seen peer credit name order now error refused wants = refusal_at peer.legs name order now error
      (peer.accounts.steps == credit) refused wants

-- ---- ticks

module _ (law : (grown : Bool) (leg : LegState) (now : ℕ) → IsSeenTick (seen leg) (seen (tick_step grown leg now).leg)) where
  place_seen : (skipped : ℕ) (place : Option NamedLeg) (now : ℕ)
      → IsTickedAt (option_map seen_named place) (option_map seen_named (place_tick skipped place now).place)
  place_seen skipped None now = refl
  place_seen skipped (Some named) now = (
    seen (tick_step (skipped == 0) named.leg now).leg,
    law (skipped == 0) named.leg now,
    refl,
  )

  places_seen : (skips : List ℕ) (places : List (Option NamedLeg)) (now index : ℕ)
      → IsTickedAt (option_map seen_named (filled (slice_get places index)))
      (option_map seen_named (filled (slice_get (legs_tick skips places now).places index)))
  places_seen skips [] now index = refl
  places_seen [] (place ∷ places) now zero = place_seen 0 place now
  places_seen [] (place ∷ places) now (suc index) = places_seen [] places now index
  places_seen (skipped ∷ skips) (place ∷ places) now zero = place_seen skipped place now
  places_seen (skipped ∷ skips) (place ∷ places) now (suc index) = places_seen skips places now index

  number_seen : (legs : PeerLegs) (skips : List ℕ) (now number : ℕ)
      → IsTickedAt (seen_at legs number) (seen_at (record legs { places = (legs_tick skips legs.places now).places }) number)
  number_seen legs skips now number = elim (cases_Bool (nat_le legs.first number)) [
    | inl e ↦ rw e (places_seen skips legs.places now (number - legs.first))
    | inr e ↦ rw e refl
  ]

  pub tick_seen : (old new : PeerView) (now : ℕ) (report : TickReport) → Ticks old now report new → TicksAll old.legs new.legs
  tick_seen old new now report ticks =
      let same : new.legs ≡ record old.legs { places = (legs_tick ticks.legs.skips old.legs.places now).places } =
      packs_legs ticks.between.rules.trunk_ms ticks.between now ticks.octets new ticks.packs ∙ ap (λ (p : PeerView). p.legs)
      ticks.legs.legs in
      record {
        peer = ap (λ (legs : PeerLegs). legs.peer) same;
        each = λ number. subst (λ (legs : PeerLegs). IsTickedAt (seen_at old.legs number) (seen_at legs number)) (sym same)
            (number_seen old.legs ticks.legs.skips now number);
      }

-- ---- taking a leg out

done_at : (legs : PeerLegs) (name : LegName) (o : Option NamedLeg) → leg_named legs name ≡ o → is_done o ≡ true
    → Retires legs (with_place legs name.number None) name
done_at legs name None is done = cc
done_at legs name (Some named) is done =
    let at = named_at legs name named is in
    record {
      before = seen named.leg;
      at = seen_of_name legs name named at;
      done = done;
      turns = put_turns legs name.number named None at.at;
    }

pub retiring_seen : (legs : PeerLegs) (name : LegName) → is_done (leg_named legs name) ≡ true
    → Retires legs (with_place legs name.number None) name
retiring_seen legs name done = done_at legs name (leg_named legs name) refl done
