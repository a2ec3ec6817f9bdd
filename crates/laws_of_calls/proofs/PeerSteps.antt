-- The steps of a peer, and its ticks, are steps of the world.
use Rattle.call_control.specs.declared.need.Need.TheVariants as needs
use Rattle.call_control.specs.declared.reply.Reply.TheVariants as replies
use Rattle.call_signals.specs.declared.stage.Stage.TheVariants as stages
use Rattle.peer_lock.specs.Seen as peer
use Rattle.peer_lock.specs.Statuses as statuses
use Rattle.peer_lock.specs.declared.errors.OrderError.TheVariants as order_errors
use Rattle.std.proofs.lemmas.Option.{slice_get_past}
use Rattle.call_control.specs.Scene.{opens_in}
use Rattle.std.proofs.Common.{◌≡◌, Some, None, Bool, true, false, refl, ℕ, zero, suc, ◌+◌, ◌≤◌, List, [], ◌∷◌, ◌++◌, ap, arith}
use Rattle.std.proofs.Common.{inl, inr, Option, cond, length, sym, subst, ◌∙◌, is_some, ◌==◌, ◌-◌, ◌≢◌, ◌<◌}
use Rattle.std.proofs.lemmas.Bool.{cases_Bool, eqb-true, ltb-true}
use Rattle.std.proofs.lemmas.Bool.Decides.{nat_tests}
use Rattle.std.specs.Prelude.{Ok, Err, nat_le, option_map, if◌then◌else◌, nat_lt}
use Rattle.call_book.specs.Book.{is_same}
use Rattle.call_book.specs.declared.leg_name.LegName.{LegName}
use Rattle.call_signals.specs.Order.{kind_of}
use Rattle.call_control.specs.Scene.{handed_up, Leg, Scene, Choice, RefusesOrder, Brings, HasMedia, Lapses, Opens, leg_at}
use Rattle.call_control.specs.Scene.{leg_named, replaced, without, Answer, answer, brought, brings, all_media, all_lapsed}
use Rattle.call_control.specs.Scene.{is_leased, dropped, can_open, busy_in, opens_out, busy_out, carried, obeys, at_leg}
use Rattle.call_control.specs.Scene.{at_order, status_of, told_cause, is_done, retires, keeps, answered, if_named, let_lapse}
use Rattle.call_control.specs.Scene.{lapsed_at, Goes, TellsCause, media_up}
use Rattle.call_control.specs.SeenReply.{heard, seen_reply}
use Rattle.call_control.specs.Sees.{look_of, Sees, AreApart, IsWorldStep}
use Rattle.call_signals.specs.declared.order.Command.{Command}
use Rattle.call_control.specs.declared.need.Need.{Need}
use Rattle.call_control.specs.declared.reply.Reply.{Reply}
use Rattle.call_signals.specs.declared.signal.MediaSpan.{MediaSpan}
use Rattle.call_signals.specs.declared.stage.Stage.{Stage}
use Rattle.leg_machine.specs.Seen.{frame_effect, opening_effect, stage_after, Lapse, SeenLeg, moved, fresh_leg, ordered, lapsed}
use Rattle.peer_lock.specs.Legs.{NamedLeg, PeerLegs, leg_at as peer_leg_at, filled}
use Rattle.peer_lock.specs.Peer.{PeerStep}
use Rattle.peer_lock.specs.Seen.{SeenNamed, seen_named, seen_at, TurnsAt}
use Rattle.peer_lock.specs.declared.errors.OrderError.{OrderError}
use Rattle.call_book.proofs.NameLaws.{same_name}
use Rattle.call_control.proofs.Held.{found_at, found_if}
use Rattle.laws_of_calls.proofs.WorldLegs.{IsFound, found_seen, none_seen, leg_seen, named_seen, replaced_there, replaced_apart}
use Rattle.laws_of_calls.proofs.WorldLegs.{IsSeenSo, turned_sees, added_sees, gone_sees}

media_same : (all : List Leg) (legs : PeerLegs) (media : List (ℕ × MediaSpan)) → Sees all legs
    → all_media all legs.peer media ≡ peer.all_media legs media
media_same all legs [] sees = refl
media_same all legs (one ∷ media) sees =
    λ i. (up (leg_at all legs.peer one.0) one.1 ∙ ap (λ (o : Option SeenNamed). peer.media_up o one.1) (sees one.0)) i
    ++ media_same all legs media sees i
  where
    up : (o : Option Leg) (span : MediaSpan) → media_up o span ≡ peer.media_up (option_map look_of o) span
    up None span = refl
    up (Some leg) span = refl

none_named : (o : Option Leg) (name : LegName)
    → ((before : SeenLeg) → option_map look_of o ≢ Some (record { name = name; seen = before })) → if_named name o ≡ None
none_named None name gone = refl
none_named (Some leg) name gone = go (is_same leg.name name) refl
  where
    go : (b : Bool) → is_same leg.name name ≡ b → (if b then Some leg else None) ≡ None
    go false e = refl
    go true e = absurd (gone leg.seen (ap (λ (n : LegName). Some (record { name = n; seen = leg.seen }))
        (same_name leg.name name e)))

no_stage : (there : Option Stage) → is_some there ≡ false → there ≡ None
no_stage there none = grind arith

module _ (scene : Scene) (called : Bool) (old : PeerLegs) (sees : Sees scene.legs old) where
  -- a step of the world with this outcome
  pub world_step : {need : Need} {new : PeerLegs} {reply : Reply} {leases : List LegName} (choice : Choice) (a : Answer)
      → answered scene need called choice ≡ a → a.reply ≡ seen_reply reply → IsSeenSo scene.legs a.scene.legs old new
      → a.scene.book ≡ scene.book → a.scene.leases ≡ leases → IsWorldStep scene need called old new reply leases
  world_step {new = new} choice a is answers so book leases_are = record {
    choice = choice;
    answers = ap (λ (b : Answer). b.reply) is ∙ answers;
    sees = subst (λ (b : Answer). Sees b.scene.legs new) (sym is) so.sees;
    apart = subst (λ (b : Answer). AreApart old.peer scene.legs b.scene.legs) (sym is) so.apart;
    same_book = ap (λ (b : Answer). b.scene.book) is ∙ book;
    leases_are = ap (λ (b : Answer). b.scene.leases) is ∙ leases_are;
  }

  same_legs : (new : PeerLegs) → new ≡ old → IsSeenSo scene.legs scene.legs old new
  same_legs new same = record { sees = subst (Sees scene.legs) (sym same) sees; apart = λ other number ne. refl }

  pub nothing_changed : {need : Need} {reply : Reply} (choice : Choice)
      → answered scene need called choice ≡ answer scene (seen_reply reply)
      → IsWorldStep scene need called old old reply scene.leases
  nothing_changed {reply = reply} choice is = world_step choice (answer scene (seen_reply reply)) is refl (same_legs old refl)
      refl refl

  -- ---- datagrams

  abbrev heard_in : PeerStep → Reply
  heard_in step = replies.Datagram (Ok (heard step.step.touched step.signals))

  pub datagram_is : (step : PeerStep) → peer.IsSeenDatagram old step
      → IsWorldStep scene (needs.Datagram old.peer) called old step.peer.legs (heard_in step) scene.leases
  datagram_is step (inl b) =
      let found = leg_seen scene.legs old b.named.name.number b.named sees b.at in
      let leg = found.leg in
      let turns : TurnsAt old step.peer.legs b.named.name.number (Some (look_of (brought b.frame leg))) =
      subst (λ (n : SeenNamed). TurnsAt old step.peer.legs b.named.name.number
      (Some (record n { seen = moved n.seen (frame_effect b.frame n.seen.stage).stage })))
      (sym found.looks) b.turns in
      world_step (Brings b.named.name.number b.frame) (brings scene (Some leg) b.frame)
      (ap (λ (o : Option Leg). brings scene o b.frame) found.at)
      (λ i. replies.Datagram (Ok (heard ((ap (λ (n : SeenNamed). Some n.name) found.looks ∙ sym b.touched) i)
      ((ap (λ (n : SeenNamed). handed_up n.name (frame_effect b.frame n.seen.stage).signal) found.looks ∙ sym b.signals) i))))
      (turned_sees scene.legs old step.peer.legs b.named.name.number leg (brought b.frame leg) sees found.at refl turns) refl refl
  datagram_is step (inr b) = world_step (HasMedia b.media)
      (answer scene (replies.Datagram (Ok (heard None (all_media scene.legs old.peer b.media))))) refl
      (λ i. replies.Datagram (Ok (heard (sym b.touched i) ((media_same scene.legs old b.media sees ∙ sym b.signals) i))))
      (same_legs step.peer.legs b.same) refl refl

  -- ---- openings

  can : (name : LegName) → name.peer ≡ old.peer → seen_at old name.number ≡ None → is_leased scene.leases name ≡ true
      → can_open scene name ≡ true
  can name is free leased =
      let none : leg_at scene.legs name.peer name.number ≡ None =
      ap (λ (peer : ℕ). leg_at scene.legs peer name.number) is ∙ none_seen (leg_at scene.legs old.peer name.number)
      (sees name.number ∙ free) in
      rw (leased, none) refl

  pub call_in_is : (step : PeerStep) (name : LegName) → is_leased scene.leases name ≡ true → peer.OpensIn old name step
      → IsWorldStep scene (needs.OpenIn name) called old step.peer.legs
      (replies.OpenIn (Ok (heard step.step.touched step.signals))) (dropped scene.leases name)
  call_in_is step name leased o = world_step (Opens o.opening) (opens_in scene name o.opening)
      (ap (λ (b : Bool). cond b (opens_in scene name o.opening) (busy_in scene)) (can name o.peer o.free leased))
      (λ i. replies.OpenIn (Ok (heard (sym o.touched i) (sym o.signals i))))
      (added_sees scene.legs old step.peer.legs (record {
        name = name;
        called = false;
        seen = fresh_leg (opening_effect o.opening).stage;
      }) sees o.peer o.turns) refl refl

  pub call_out_is : (new : PeerLegs) (name : LegName) → is_leased scene.leases name ≡ true → peer.OpensOut old new name
      → IsWorldStep scene (needs.OpenOut name) called old new (replies.OpenOut (Ok tt)) (dropped scene.leases name)
  call_out_is new name leased o = world_step Goes (opens_out scene name called)
      (ap (λ (b : Bool). cond b (opens_out scene name called) (busy_out scene)) (can name o.peer o.free leased)) refl
      (added_sees scene.legs old new (record { name = name; called = called; seen = fresh_leg stages.Waiting }) sees o.peer
      o.turns) refl refl

  -- ---- orders

  module _ (name : LegName) (is : name.peer ≡ old.peer) where
    -- the leg of a name, in the world
    named_in : (before : SeenLeg) → seen_at old name.number ≡ Some (record { name = name; seen = before })
        → IsFound (leg_named scene.legs name) (record { name = name; seen = before })
    named_in before at =
        let found = leg_seen scene.legs old name.number (record { name = name; seen = before }) sees at in
        record {
          leg = found.leg;
          at = named_seen (leg_at scene.legs name.peer name.number) name found.leg
              (ap (λ (peer : ℕ). leg_at scene.legs peer name.number) is ∙ found.at)
              (ap (λ (n : SeenNamed). n.name) found.looks);
          looks = found.looks;
        }

    pub order_is : (new : PeerLegs) (command : Command MediaSpan) → peer.Obeys old new name (kind_of command)
        → IsWorldStep scene (needs.Order name command) called old new (replies.Order (Ok tt)) scene.leases
    order_is new command o =
        let found = named_in o.before o.at in
        let leg = found.leg in
        let leads : stage_after (kind_of command) leg.seen.stage ≡ Some o.order.0 =
        ap (λ (n : SeenNamed). stage_after (kind_of command) n.seen.stage) found.looks ∙ o.order.1 in
        let after : record { name = name; seen = o.after } ≡ look_of (carried (kind_of command) leg o.order.0) =
        λ i. record {
          name = sym (ap (λ (n : SeenNamed). n.name) found.looks) i;
          seen = (o.order.2 ∙ (λ j. ordered (kind_of command) (sym (ap (λ (n : SeenNamed). n.seen) found.looks) j) o.order.0)) i;
        } in
        let there : leg_at scene.legs old.peer name.number ≡ Some leg =
        ap (λ (peer : ℕ). leg_at scene.legs peer name.number) (sym is)
        ∙ (found_if name (leg_at scene.legs name.peer name.number) leg found.at).0 in
        world_step Goes (obeys scene (kind_of command) leg (Some o.order.0))
        (ap (λ (l : Option Leg). at_leg scene (kind_of command) l Goes) found.at ∙ ap (obeys scene (kind_of command) leg) leads)
        refl (turned_sees scene.legs old new name.number leg (carried (kind_of command) leg o.order.0) sees there refl
        (subst (λ (n : SeenNamed). TurnsAt old new name.number (Some n)) after o.turns)) refl refl

    module _ (command : Command MediaSpan) where
      -- a leg that is there refuses, in a stage that is a right one or isn't
      there_refuses : (error : OrderError) (right : Bool) → peer.Refuses old name (kind_of command) error right
          → (leg : Leg) × (leg_named scene.legs name ≡ Some leg)
          × (is_some (stage_after (kind_of command) leg.seen.stage) ≡ right)
      there_refuses error right r =
          let found = named_in r.before r.at in (
            found.leg,
            found.at,
            ap (λ (n : SeenNamed). is_some (stage_after (kind_of command) n.seen.stage)) found.looks ∙ r.right,
          )

      no_room : (error : OrderError) → peer.Refuses old name (kind_of command) error true
          → at_order scene name (kind_of command) (RefusesOrder error)
          ≡ at_leg scene (kind_of command) (leg_named scene.legs name) (RefusesOrder error)
          → IsWorldStep scene (needs.Order name command) called old old (replies.Order (Err error)) scene.leases
      no_room error r falls =
          let there = there_refuses error true r in
          nothing_changed (RefusesOrder error) (falls ∙ rw (there.1, r.refuses refl, there.2) refl)

      pub refusal_is : (error : OrderError) → peer.IsSeenRefusal old name (kind_of command) error
          → IsWorldStep scene (needs.Order name command) called old old (replies.Order (Err error)) scene.leases
      refusal_is order_errors.StepsSpent r = nothing_changed (RefusesOrder order_errors.StepsSpent) refl
      refusal_is order_errors.Gone r =
          let none : leg_named scene.legs name ≡ None =
          none_named (leg_at scene.legs name.peer name.number) name (λ before e. r before (sym (sees name.number)
          ∙ ap (λ (peer : ℕ). option_map look_of (leg_at scene.legs peer name.number)) (sym is) ∙ e)) in
          nothing_changed Goes (ap (λ (l : Option Leg). at_leg scene (kind_of command) l Goes) none)
      refusal_is order_errors.WrongStage (true, r) = no_room order_errors.WrongStage r refl
      refusal_is order_errors.WrongStage (false, r) =
          let there = there_refuses order_errors.WrongStage false r in
          nothing_changed Goes (ap (λ (l : Option Leg). at_leg scene (kind_of command) l Goes) there.1
          ∙ ap (obeys scene (kind_of command) there.0) (no_stage (stage_after (kind_of command) there.0.seen.stage) there.2))
      refusal_is error r = no_room error r refl

    -- ---- taking a leg out

    pub retiring_is : (new : PeerLegs) → leg_at (without scene.legs name) name.peer name.number ≡ None → peer.Retires old new name
        → IsWorldStep scene (needs.Retire name) called old new (replies.Retire true) (name ∷ scene.leases)
    retiring_is new none r =
        let found = named_in r.before r.at in
        let done : is_done (leg_named scene.legs name) ≡ true =
        ap is_done found.at ∙ ap (λ (n : SeenNamed). is_done (Some (record found.leg { seen = n.seen }))) found.looks ∙ r.done in
        world_step Goes (retires scene name) (ap (λ (b : Bool). cond b (retires scene name) (keeps scene)) done) refl
        (gone_sees scene.legs old new name sees is none r.turns) refl refl

  -- ---- looking at a leg

  pub look_is : (number : ℕ) → IsWorldStep scene (needs.Look old.peer number) called old old
      (replies.Look (option_map statuses.status_of (peer_leg_at old number))) scene.leases
  look_is number = nothing_changed (told (peer_leg_at old number))
      (ap (answer scene) (look (leg_at scene.legs old.peer number) (peer_leg_at old number) (sees number)))
    where
      told : Option NamedLeg → Choice
      told None = Goes
      told (Some named) = TellsCause named.leg.cause

      look : (o : Option Leg) (p : Option NamedLeg) → option_map look_of o ≡ option_map seen_named p
          → replies.Look (status_of (told_cause (told p)) o) ≡ seen_reply (replies.Look (option_map statuses.status_of p))
      look None None e = refl
      look None (Some named) e = cc
      look (Some leg) None e = cc
      look (Some leg) (Some named) e =
          let same : look_of leg ≡ seen_named named = cc in
          λ i. replies.Look (Some (record {
            name = (same i).name;
            stage = (same i).seen.stage;
            owes = (same i).seen.owes;
            cause = named.leg.cause;
            held = 0;
            entries = 0;
          }))

-- ---- ticks

-- the lapse of a leg at a tick, if there was one
abbrev lapses_of : (number : ℕ) (o after : Option SeenNamed) → peer.IsTickedAt o after → List (ℕ × Lapse)
lapses_of number None after ticked = []
lapses_of number (Some named) after (seen, inl same, is) = []
lapses_of number (Some named) after (seen, inr (lapse, e), is) = (number, lapse) ∷ []

-- .. of the legs of count numbers, from the first on
abbrev lapses_from : (old new : PeerLegs) (each : (number : ℕ) → peer.IsTickedAt (seen_at old number) (seen_at new number))
    (first count : ℕ) → List (ℕ × Lapse)
lapses_from old new each first zero = []
lapses_from old new each first (suc count) = lapses_of first (seen_at old first) (seen_at new first) (each first) ++ lapses_from
    old new each (suc first) count

-- a peer's legs after lapses: those of some numbers are seen so, all others stay
record IsLapsed (peer : ℕ) (all after : List Leg) (new : PeerLegs) (first count : ℕ) : Type 0 where
  pub these : (number : ℕ) → first ≤ number → number < first + count → option_map look_of (leg_at after peer number) ≡ seen_at new
      number
  pub below : (number : ℕ) → number < first → leg_at after peer number ≡ leg_at all peer number
  pub past : (number : ℕ) → first + count ≤ number → leg_at after peer number ≡ leg_at all peer number
  pub apart : AreApart peer all after

lapsed_append : (peer : ℕ) (a b : List (ℕ × Lapse)) (all : List Leg) → all_lapsed peer (a ++ b) all ≡ all_lapsed peer b
    (all_lapsed peer a all)
lapsed_append peer [] b all = refl
lapsed_append peer (one ∷ a) b all = lapsed_append peer a b (lapsed_at (leg_at all peer one.0) one.1 all)

-- one number
record IsLapsedAt (peer number : ℕ) (all after : List Leg) (there : Option SeenNamed) : Type 0 where
  pub this : option_map look_of (leg_at after peer number) ≡ there
  pub rest : (other : ℕ) → other ≢ number → leg_at after peer other ≡ leg_at all peer other
  pub apart : AreApart peer all after

kept_at : (who number : ℕ) (all : List Leg) (after : Option SeenNamed) → option_map look_of (leg_at all who number) ≡ after
    → IsLapsedAt who number all all after
kept_at who number all after is = record { this = is; rest = λ other ne. refl; apart = λ other k ne. refl }

one_lapsed : (who number : ℕ) (all : List Leg) (o after : Option SeenNamed) (ticked : peer.IsTickedAt o after)
    → option_map look_of (leg_at all who number) ≡ o
    → IsLapsedAt who number all (all_lapsed who (lapses_of number o after ticked) all) after
one_lapsed who number all None after ticked is = kept_at who number all after (is ∙ sym ticked)
one_lapsed who number all (Some named) after (seen, inl same, now) is = kept_at who number all after
    (is ∙ (λ i. Some (record named { seen = sym same i })) ∙ sym now)
one_lapsed who number all (Some named) after (seen, inr (lapse, e), now) is =
    let found = found_seen (leg_at all who number) named is in
    let leg = found.leg in
    let there = found_at all who number leg found.at in
    let new = let_lapse lapse leg in
    let left : lapsed_at (leg_at all who number) lapse all ≡ replaced all new = ap (λ (l : Option Leg). lapsed_at l lapse all)
    found.at in
    let turned : IsLapsedAt who number all (replaced all new) after = record {
      this = ap (option_map look_of) (replaced_there all leg new who number found.at refl)
          ∙ (λ i. Some (record { name = (found.looks i).name; seen = lapsed lapse (found.looks i).seen }))
          ∙ (λ i. Some (record named { seen = sym e i })) ∙ sym now;
      rest = λ other ne. replaced_apart all new who other
          (λ n p k same. ne (sym k ∙ ap (λ (m : LegName). m.number) same ∙ there.1));
      apart = λ other k ne. replaced_apart all new other k
          (λ n p m same. ne (sym p ∙ ap (λ (m : LegName). m.peer) same ∙ there.0));
    } in
    subst (λ (legs : List Leg). IsLapsedAt who number all legs after) (sym left) turned

beyond : (first number : ℕ) → first ≤ number → (number == first) ≡ false → suc first ≤ number
beyond first number le e = grind (arith, nat_tests)

all_from : (old new : PeerLegs) (each : (number : ℕ) → peer.IsTickedAt (seen_at old number) (seen_at new number))
    (first count : ℕ) (all : List Leg)
    → ((number : ℕ) → first ≤ number → option_map look_of (leg_at all old.peer number) ≡ seen_at old number)
    → IsLapsed old.peer all (all_lapsed old.peer (lapses_from old new each first count) all) new first count
all_from old new each first zero all sees = record {
  these = λ number le lt. absurd (omega (arith, le, lt));
  below = λ number lt. refl;
  past = λ number le. refl;
  apart = λ other k ne. refl;
}
all_from old new each first (suc count) all sees =
    let here = lapses_of first (seen_at old first) (seen_at new first) (each first) in
    let mid = all_lapsed old.peer here all in
    let one = one_lapsed old.peer first all (seen_at old first) (seen_at new first) (each first) (sees first (omega arith)) in
    let rest = all_from old new each (suc first) count mid
    (λ number le. ap (option_map look_of) (one.rest number (λ e. absurd (omega (arith, le, e))))
    ∙ sees number (omega (arith, le))) in
    let joined = lapsed_append old.peer here (lapses_from old new each (suc first) count) all in
    subst (λ (after : List Leg). IsLapsed old.peer all after new first (suc count)) (sym joined) (record {
      these = λ number le lt. elim (cases_Bool (number == first)) [
        | inl e ↦
            let same : number ≡ first = eqb-true number first e in
            rw same (ap (option_map look_of) (rest.below first (omega arith)) ∙ one.this)
        | inr e ↦ rest.these number (beyond first number le e) (omega (arith, lt))
      ];
      below = λ number lt. rest.below number (omega (arith, lt)) ∙ one.rest number (λ e. absurd (omega (arith, lt, e)));
      past = λ number le. rest.past number (omega (arith, le)) ∙ one.rest number (λ e. absurd (omega (arith, le, e)));
      apart = λ other k ne. rest.apart other k ne ∙ one.apart other k ne;
    })

-- no leg has a number past the places of its peer
none_past : (legs : PeerLegs) (number : ℕ) → legs.first + length legs.places ≤ number → seen_at legs number ≡ None
none_past legs number le = ap (option_map seen_named) none
  where
    none : peer_leg_at legs number ≡ None
    none = elim (cases_Bool (nat_le legs.first number)) [
      | inl e ↦ rw e (ap filled (slice_get_past legs.places (number - legs.first) (omega (arith, le))))
      | inr e ↦ rw e refl
    ]

pub tick_is : (scene : Scene) (called : Bool) (old : PeerLegs) (sees : Sees scene.legs old) (new : PeerLegs) (quiet : Bool)
    → peer.TicksAll old new → IsWorldStep scene (needs.Tick old.peer) called old new (replies.Tick (Ok quiet)) scene.leases
tick_is scene called old sees new quiet t =
    let count = old.first + length old.places in
    let lapses = lapses_from old new t.each 0 count in
    let done = all_from old new t.each 0 count scene.legs (λ number le. sees number) in
    world_step scene called old sees (Lapses lapses quiet)
    (answer (record scene { legs = all_lapsed old.peer lapses scene.legs }) (replies.Tick (Ok quiet))) refl refl
    (record {
      sees = λ number. subst (λ (peer : ℕ). option_map look_of (leg_at (all_lapsed old.peer lapses scene.legs) peer number)
          ≡ seen_at new number) (sym t.peer)
          (elim (cases_Bool (nat_lt number count)) [
            | inl e ↦ done.these number (omega arith) (omega (arith, ltb-true number count e))
            | inr e ↦
                let le : count ≤ number = grind (arith, nat_tests) in
                ap (option_map look_of) (done.past number (omega (arith, le))) ∙ sees number ∙ none_past old number le
                ∙ sym (subst (λ (o : Option SeenNamed). peer.IsTickedAt o (seen_at new number)) (none_past old number le)
                (t.each number))
          ]);
      apart = done.apart;
    }) refl refl
