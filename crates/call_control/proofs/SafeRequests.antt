-- The step of each request is safe.
use Rattle.call_control.specs.declared.place.Place.TheVariants as places
use Rattle.call_control.specs.declared.reply.Reply.TheVariants as replies
use Rattle.call_signals.specs.declared.stage.Stage.TheVariants as stages
use Rattle.call_control.specs.declared.reply.StepReply.{StepReply}
use Rattle.call_control.proofs.Prelude.{◌≡◌, Some, None, true, false, refl, ℕ, ◌+◌, ◌≤◌, List, [], ◌∷◌, ◌++◌, ap, arith, inl, inr}
use Rattle.call_control.proofs.Prelude.{◌⊎◌, Option, sym, subst, ◌∙◌, is_some, ◌≢◌, cases_Bool, true≢false, Ok, Err, Result}
use Rattle.call_control.proofs.Prelude.{is_same, Book, has_name, reserve_answer, bridge_answer, partner_of, after_reserve}
use Rattle.call_control.proofs.Prelude.{bridged, released, BridgeError, ReserveError, LegName, times, names_of, is_kept, words}
use Rattle.call_control.proofs.Prelude.{handed_up, Leg, Choice, leg_at, replaced, without, heard_of, brought, brings, all_media}
use Rattle.call_control.proofs.Prelude.{at_datagram, all_lapsed, at_tick, dropped, at_open_in, at_open_out, at_retire, reserves}
use Rattle.call_control.proofs.Prelude.{bridges, at_release, media_up, heard, Work, Rest, after_heard, told_at, at, in_hand}
use Rattle.call_control.proofs.Prelude.{ended, Place, Reply, Cause, Format, Opening, MediaSpan, Signal, SeenFrame, frame_effect}
use Rattle.call_control.proofs.Prelude.{opening_effect, fresh_leg, Speaks, IsReserved, reserved, IsBridged, bridged_by}
use Rattle.call_control.proofs.Prelude.{is_same_itself, same_name, bit, has_name_is, one_per_number, has_name_from, partner_has}
use Rattle.call_control.proofs.Prelude.{released_before, reserved_none, reserved_before, released_after, bridged_first}
use Rattle.call_control.proofs.Prelude.{bridged_second, bridged_before, bridged_after, reserved_after}
use Rattle.call_control.proofs.Held.{scene, IsHeld, some_bit, bit_most, names_replaced, found_at}
use Rattle.call_control.proofs.Onward.{onward_hand}
use Rattle.call_control.proofs.Runs.{times-append}
use Rattle.call_control.proofs.Safe.{offers, care, past, fresh_at, go_on_care, go_on_past, lets_go, told_past, told_care, all_map}
use Rattle.call_control.proofs.Safe.{all_replaced, all_without, all_found, all_at_lapses, all_map_in, in_book, some_of}
use Rattle.call_control.proofs.Safe.{other_than, Covers, lapsed_kept, lapsed_name, brought_kept, fresh_few, no_fresh, moves}
use Rattle.call_control.proofs.SafeSteps.{Surroundings, seen, Sees, Before, Safe, SafeAnswer, unchanged, more_care, quiet}
use Rattle.call_control.proofs.Steps.{open_in_ways, open_out_ways, retire_ways, datagram_ways, tick_ways, release_made, own_known}

some_more : (o more : Option LegName) → ((p : LegName) → o ≡ Some p → more ≡ Some p) → bit (is_some o) ≤ bit (is_some more)
some_more None more h = omega arith
some_more (Some p) more h = let e : bit (is_some more) ≡ 1 = ap (λ o. bit (is_some o)) (h p refl) in omega arith

module _ (around : Surroundings) where
  open around use {others_fresh, beside, few, book, legs}

  -- ---- reserve
  pub reserves_safe : {place : Place} {rest : Rest} (peer : ℕ) (b : Before around place rest) → in_hand place ≡ []
      → ((name : LegName) → in_hand (told_at place (replies.Reserve (Ok name)) rest).place ≡ name ∷ [])
      → ((r : Result LegName ReserveError) → lets_go place (replies.Reserve r) ≡ false)
      → SafeAnswer around place rest (reserves (scene book legs []) peer (reserve_answer book peer))
  reserves_safe {place = place} {rest = rest} peer b none hand held = go (reserve_answer book peer) refl
    where
      next : Book
      next = after_reserve book peer

      reserved_safe : (name : LegName) → IsReserved book peer name → SafeAnswer around place rest
          (reserves (scene book legs []) peer (Ok name))
      reserved_safe name did =
          let to : Work = told_at place (replies.Reserve (Ok name)) rest in
          let own : (x : LegName) → 1 ≤ fresh_at to.place x → name ≡ x = λ x some.
          same_name name x (some_bit (is_same name x) (omega (
            arith,
            fresh_few to.place x,
            ap (times x) (hand name),
          ))) in
          record {
            past = λ x some. inl (omega (arith, told_past place (replies.Reserve (Ok name)) rest x refl));
            fresh = λ x some. inr (omega (arith, ap (λ n. n.serial) (own x some), did.serial));
            next = omega (arith, did.next);
            covered = all_map (Covers book (seen around (at place rest))) (Covers next (seen around to)) legs
                (λ leg c kept. omega (
                  arith,
                  c kept,
                  told_care place (replies.Reserve (Ok name)) rest leg.name (held (Ok name)),
                  some_more (partner_of book leg.name) (partner_of next leg.name) (reserved_after book peer name b.held.sound did
                      leg.name),
                )) b.covered;
            lone = λ y p some is. absurd (reserved_none book peer name b.held.sound did p
                (ap (partner_of next) (own y some) ∙ is));
            others_lone = λ y p some is. reserved_before book peer name b.held.sound did y p
                (in_book beside (scene book legs (in_hand place)) b.held y (omega (arith, few y))) is;
          }

      go : (r : Result LegName ReserveError) → reserve_answer book peer ≡ r
          → SafeAnswer around place rest (reserves (scene book legs []) peer r)
      go (Err e) is = quiet around b (replies.Reserve (Err e)) refl (held (Err e))
      go (Ok name) is = reserved_safe name (reserved book peer name b.held.sound is)

  -- ---- bridge
  pub bridging_safe : (offered target : LegName) (format : Format) (rest : Rest)
      → Before around (places.Bridging offered target format) rest → SafeAnswer around (places.Bridging offered target format)
      rest (bridges (scene book legs (target ∷ [])) offered target (bridge_answer book offered target))
  bridging_safe offered target format rest b = go (bridge_answer book offered target) refl
    where
      own_bit : (n : LegName) → bit (is_same n n) ≡ 1
      own_bit n = ap bit (is_same_itself n)

      next : Book
      next = bridged book offered target

      did_safe : IsBridged book offered target → Safe around (places.Bridging offered target format) rest
          (scene next legs (target ∷ [])) (at (places.Accepting offered target format) rest)
      did_safe did = record {
        past = λ x some. inl (omega arith);
        fresh = λ x some. inl some;
        next = omega arith;
        covered = all_map (Covers book (seen around (at (places.Bridging offered target format) rest)))
            (Covers next (seen around (at (places.Accepting offered target format) rest))) legs
            (λ leg c kept. elim (cases_Bool (is_same offered leg.name)) [
              | inl same ↦
                  let one : bit (is_some (partner_of next leg.name)) ≡ 1 = ap (λ o. bit (is_some o)) (ap (partner_of next)
                  (sym (same_name offered leg.name same)) ∙ bridged_first book offered target did) in
                  omega arith
              | inr other ↦ omega (
                arith,
                c kept,
                ap bit other,
                some_more (partner_of book leg.name) (partner_of next leg.name) (bridged_after book offered target did leg.name),
              )
            ]) b.covered;
        lone = λ y p some is.
            let e : target ≡ y = same_name target y (some_bit (is_same target y) (omega arith)) in
            sym (bridged_second book offered target did) ∙ ap (partner_of next) e ∙ is;
        others_lone = λ y p some is.
            let known : has_name book y ≡ true = in_book beside (scene book legs (target ∷ [])) b.held y (omega (arith, few y)) in
            let there : (n : LegName) → has_name book n ≡ true → y.number ≡ n.number → 1 ≤ others_fresh n =
            λ n has e. subst (λ n. 1 ≤ others_fresh n) (one_per_number book y n known has e) some in
            bridged_before book offered target did y p
            (λ e. absurd (omega (
              arith,
              there offered (has_name_from book offered did.has_a) e,
              own_bit offered,
              b.apart offered (omega (arith, own_bit offered)),
            )))
            (λ e. absurd (omega (
              arith,
              there target (has_name_from book target did.has_b) e,
              own_bit target,
              bit_most (has_name book target),
              b.held.once target,
              few target,
            ))) is;
      }

      go : (r : Result (Unit {0}) BridgeError) → bridge_answer book offered target ≡ r
          → SafeAnswer around (places.Bridging offered target format) rest (bridges (scene book legs (target ∷ [])) offered target
          r)
      go (Err e) is = quiet around b (replies.Bridge (Err e)) refl refl
      go (Ok tt) is = did_safe (bridged_by book offered target b.held.sound is)

  -- ---- release
  -- a former partner is seen to
  module _ {place : Place} {rest : Rest} (name : LegName) (b : Before around place rest) (hand : in_hand place ≡ name ∷ [])
      (calm : (o : Option LegName) → lets_go place (replies.Release (Ok o)) ≡ false)
      (seen_to : (x : LegName) → partner_of book name ≡ Some x
      → 1 ≤ care (told_at place (replies.Release (Ok (partner_of book name))) rest) x)
      (empty : in_hand (told_at place (replies.Release (Ok (partner_of book name))) rest).place ≡ []) where
    abbrev reply : Reply
    reply = replies.Release (Ok (partner_of book name))

    abbrev to : Work
    to = told_at place reply rest

    abbrev next : Book
    next = released book name

    held : IsHeld beside (scene book legs (name ∷ []))
    held = subst (λ ls. IsHeld beside (scene book legs ls)) hand b.held

    known : has_name book name ≡ true
    known = own_known beside (scene book legs (name ∷ [])) name refl held

    one_lost : (leg : Leg) → is_same name leg.name ≡ false → (o : Option LegName) → partner_of book leg.name ≡ o
        → 1 ≤ bit (is_some o) + seen around (at place rest) leg.name
        → 1 ≤ bit (is_some (partner_of next leg.name)) + seen around to leg.name
    one_lost leg other None is c = omega (arith, told_care place reply rest leg.name (calm (partner_of book name)))
    one_lost leg other (Some p) is c =
        let apart : leg.name.number ≢ name.number = λ e.
        let same : leg.name ≡ name = one_per_number book leg.name name (partner_has book leg.name p is) known e in
        true≢false (sym (is_same_itself name) ∙ ap (is_same name) (sym same) ∙ other) in
        elim (released_after book name b.held.sound (has_name_is book name known) leg.name p apart is) [
          | inl stays ↦ omega (arith, ap (λ o. bit (is_some o)) stays)
          | inr former ↦ omega (arith, seen_to leg.name former)
        ]

    pub release_safe : SafeAnswer around place rest (at_release (scene book legs (name ∷ [])) name)
    release_safe = subst (SafeAnswer around place rest) (sym (release_made (scene book legs (name ∷ [])) name refl known))
        (record {
          past = λ x some. inl (omega (arith, told_past place reply rest x refl));
          fresh = λ x some. no_fresh to.place x _ empty some;
          next = omega arith;
          covered = all_map_in (Covers book (seen around (at place rest))) (Covers next (seen around to)) legs
              (λ leg there c kept. one_lost leg (other_than name leg.name (names_of legs) (omega (
                arith,
                held.once name,
                ap bit known,
                ap bit (is_same_itself name),
              )) there) (partner_of book leg.name) refl (c kept)) b.covered;
          lone = λ y p some is. no_fresh to.place y _ empty some;
          others_lone = λ y p some is. released_before book name held.sound (has_name_is book name known) y p is;
        })

  pub give_back_safe : (name : LegName) (rest : Rest) → Before around (places.GiveBack name) rest
      → SafeAnswer around (places.GiveBack name) rest (at_release (scene book legs (name ∷ [])) name)
  give_back_safe name rest b = release_safe name b refl (λ r. refl) (λ x is. let never : None ≡ Some x = b.lone name x
      (omega (arith, ap bit (is_same_itself name))) is in absurd (cc)) refl

  same_bit : (a x : LegName) → Some a ≡ Some x → bit (is_same a x) ≡ 1
  same_bit a x is = let e : a ≡ x = cc in ap bit (ap (is_same a) (sym e) ∙ is_same_itself a)

  pub undoing_safe : (offered target : LegName) (rest : Rest) → Before around (places.Undoing offered target) rest
      → SafeAnswer around (places.Undoing offered target) rest (at_release (scene book legs (target ∷ [])) target)
  undoing_safe offered target rest b = release_safe target b refl (λ r. refl) (λ x is. omega (
    arith,
    same_bit offered x (b.lone target x (omega (arith, ap bit (is_same_itself target))) is),
  )) refl

  pub freeing_safe : (name : LegName) (cause : Cause) (rest : Rest) → Before around (places.Freeing name cause) rest
      → SafeAnswer around (places.Freeing name cause) rest (at_release (scene book legs (name ∷ [])) name)
  freeing_safe name cause rest b = release_safe name b refl (λ r. refl) (λ x some. cared x (partner_of book name) some)
      (empty (partner_of book name))
    where
      cared : (x : LegName) (o : Option LegName) → o ≡ Some x
          → 1 ≤ care (told_at (places.Freeing name cause) (replies.Release (Ok o)) rest) x
      cared x None is = absurd (cc)
      cared x (Some former) is = omega (arith, same_bit former x is)

      empty : (o : Option LegName) → in_hand (told_at (places.Freeing name cause) (replies.Release (Ok o)) rest).place ≡ []
      empty None = onward_hand rest.onward rest.touched rest.looks
      empty (Some former) = refl

  -- ---- steps of a peer: openings, datagrams and ticks

  heard_hand : (heard : StepReply) (rest : Rest) → in_hand (after_heard heard rest).place ≡ []
  heard_hand heard rest = onward_hand heard.onwards.signals heard.touched rest.looks

  -- ---- openings
  opened_safe : {place : Place} {rest : Rest} (b : Before around place rest) (new : Leg) (leases : List LegName) (to : Work)
      → in_hand to.place ≡ [] → ((x : LegName) → 1 ≤ past to x → (1 ≤ past (at place rest) x) ⊎ (new.name ≡ x))
      → ((x : LegName) → care (at place rest) x ≤ care to x) → (is_kept new ≡ true → 1 ≤ care to new.name)
      → Safe around place rest (scene book (new ∷ legs) leases) to
  opened_safe b new leases to empty less more own = record {
    past = λ x some. elim (less x some) [
      | inl before ↦ inl before
      | inr same ↦ inr (omega (arith, ap bit (ap (is_same new.name) (sym same) ∙ is_same_itself new.name)))
    ];
    fresh = λ x some. no_fresh to.place x _ empty some;
    next = omega arith;
    covered = ((λ kept. omega (arith, own kept)), more_care around b to more);
    lone = λ y p some at. no_fresh to.place y _ empty some;
    others_lone = λ y p some at. at;
  }

  -- the remaining work if a leg handed this up
  abbrev handed : LegName → Option Signal → Rest → Rest
  handed name signal rest = record rest { onward = handed_up name signal; touched = Some name }

  handed_past : (name : LegName) (signal : Option Signal) (rest : Rest) (x : LegName)
      → 1 ≤ past (after_heard (heard_of name signal) rest) x → name ≡ x
  handed_past name signal rest x some = go signal (omega (arith, go_on_past (handed name signal rest) x))
    where
      go : (signal : Option Signal) → 1 ≤ times x (words (handed_up name signal)) → name ≡ x
      go None some = absurd (omega arith)
      go (Some signal) some = same_name name x (some_bit (is_same name x) (omega arith))

  pub open_in_safe : (name : LegName) (rest : Rest) (choice : Choice) → Before around (places.OpenIn name) rest
      → SafeAnswer around (places.OpenIn name) rest (at_open_in (scene book legs (name ∷ [])) name choice)
  open_in_safe name rest choice b = open_in_ways (SafeAnswer around (places.OpenIn name) rest) (scene book legs (name ∷ [])) name
      choice (λ error. quiet around b (replies.OpenIn (Err error)) refl refl)
      (λ opening.
      let signal : Option Signal = (opening_effect opening).signal in
      opened_safe b (record { name = name; called = false; seen = fresh_leg (opening_effect opening).stage })
      (dropped (name ∷ []) name) (after_heard (heard_of name signal) rest) (heard_hand (heard_of name signal) rest)
      (λ x some. inr (handed_past name signal rest x some)) (λ x. omega arith)
      (λ kept. omega (arith, kept_new opening kept, go_on_care (handed name signal rest) name)))
    where
      kept_new : (opening : Opening)
          → is_kept (record { name = name; called = false; seen = fresh_leg (opening_effect opening).stage }) ≡ true
          → 1 ≤ offers name (handed_up name (opening_effect opening).signal)
      kept_new opening kept = grind (arith, is_same_itself)

  pub opening_out_safe : (offered target : LegName) (rest : Rest) (choice : Choice)
      → Before around (places.OpenOut offered target) rest → SafeAnswer around (places.OpenOut offered target) rest
      (at_open_out (scene book legs (target ∷ [])) target false choice)
  opening_out_safe offered target rest choice b = open_out_ways (SafeAnswer around (places.OpenOut offered target) rest)
      (scene book legs (target ∷ [])) target false choice
      (λ error. quiet around b (replies.OpenOut (Err error)) refl refl)
      (opened_safe b (record { name = target; called = false; seen = fresh_leg stages.Waiting }) (dropped (target ∷ []) target)
      (at (places.Checking target) rest) refl (λ x some. inl some) (λ x. omega arith)
      (λ kept. omega (arith, ap bit (is_same_itself target))))

  pub open_call_safe : (name : LegName) (rest : Rest) (choice : Choice) → Before around (places.OpenCall name) rest
      → SafeAnswer around (places.OpenCall name) rest (at_open_out (scene book legs (name ∷ [])) name true choice)
  open_call_safe name rest choice b = open_out_ways (SafeAnswer around (places.OpenCall name) rest)
      (scene book legs (name ∷ [])) name true choice
      (λ error. quiet around b (replies.OpenOut (Err error)) refl refl)
      (opened_safe b (record { name = name; called = true; seen = fresh_leg stages.Waiting }) (dropped (name ∷ []) name) ended
      refl (λ x some. absurd (omega arith)) (λ x. omega arith) (λ kept. absurd (cc)))

  -- ---- retiring
  pub retiring_safe : (name : LegName) (cause : Cause) (rest : Rest) (choice : Choice)
      → Before around (places.Retiring name cause) rest → SafeAnswer around (places.Retiring name cause) rest
      (at_retire (scene book legs []) name choice)
  retiring_safe name cause rest choice b = retire_ways (SafeAnswer around (places.Retiring name cause) rest) (scene book legs [])
      name choice (quiet around b (replies.Retire false) refl refl)
      (λ done. unchanged around b (without legs name) (at (places.Freeing name cause) rest)
      (moves (places.Retiring name cause) (replies.Retire true) rest refl)
      (all_without (Covers book (seen around (at (places.Freeing name cause) rest))) legs name
      (more_care around b (at (places.Freeing name cause) rest) (λ x. omega arith))))

  -- ---- datagrams
  words-append : (us vs : List (LegName × Signal)) → words (us ++ vs) ≡ words us ++ words vs
  words-append [] vs = refl
  words-append (u ∷ us) vs = ap (λ ws. u.0 ∷ ws) (words-append us vs)

  -- media names legs that are there
  all_media_past : (peer : ℕ) (media : List (ℕ × MediaSpan)) (x : LegName) → 1 ≤ times x (words (all_media legs peer media))
      → 1 ≤ times x (names_of legs)
  all_media_past peer [] x some = absurd (omega arith)
  all_media_past peer (one ∷ media) x some =
      let here : List (LegName × Signal) = media_up (leg_at legs peer one.0) one.1 in
      let both : times x (words (here ++ all_media legs peer media)) ≡ times x (words here)
      + times x (words (all_media legs peer media)) = ap (times x) (words-append here (all_media legs peer media))
      ∙ times-append x (words here) (words (all_media legs peer media)) in
      elim (some_of (times x (words here)) (times x (words (all_media legs peer media))) (omega arith)) [
        | inl first ↦ at_leg (leg_at legs peer one.0) refl first
        | inr there ↦ all_media_past peer media x there
      ]
    where
      signalled : (leg : Leg) (signal : Option Signal) → leg_at legs peer one.0 ≡ Some leg
          → 1 ≤ times x (words (handed_up leg.name signal)) → 1 ≤ times x (names_of legs)
      signalled leg None is some = absurd (omega arith)
      signalled leg (Some signal) is some =
          let e : leg.name ≡ x = same_name leg.name x (some_bit (is_same leg.name x) (omega arith)) in
          subst (λ n. 1 ≤ times n (names_of legs)) e (found_at legs peer one.0 leg is).2

      at_leg : (o : Option Leg) → leg_at legs peer one.0 ≡ o → 1 ≤ times x (words (media_up o one.1))
          → 1 ≤ times x (names_of legs)
      at_leg None is some = absurd (omega arith)
      at_leg (Some leg) is some = signalled leg (frame_effect (Speaks one.1) leg.seen.stage).signal is some

  pub datagram_safe : (peer : ℕ) (rest : Rest) (choice : Choice) → Before around (places.Datagram peer) rest
      → SafeAnswer around (places.Datagram peer) rest (at_datagram (scene book legs []) peer choice)
  datagram_safe peer rest choice b = datagram_ways (SafeAnswer around (places.Datagram peer) rest) (scene book legs []) peer
      choice
      (λ error. quiet around b (replies.Datagram (Err error)) refl refl)
      (λ media. heard_so legs (heard None (all_media legs peer media))
      (λ x some. all_media_past peer media x (omega (
        arith,
        go_on_past (record rest {
          onward = all_media legs peer media;
          touched = None;
        }) x,
      )))
      (more_care around b (after_heard (heard None (all_media legs peer media)) rest) (λ x. omega arith)))
      brought_safe
    where
      heard_so : (new : List Leg) (h : StepReply)
          → ((x : LegName) → 1 ≤ past (after_heard h rest) x → 1 ≤ times x (names_of new)) → Sees around (after_heard h rest) new
          → Safe around (places.Datagram peer) rest (scene book new []) (after_heard h rest)
      heard_so new h less covered = record {
        past = λ x some. inr (less x some);
        fresh = λ x some. no_fresh (after_heard h rest).place x _ (heard_hand h rest) some;
        next = omega arith;
        covered = covered;
        lone = λ y p some is. no_fresh (after_heard h rest).place y _ (heard_hand h rest) some;
        others_lone = λ y p some is. is;
      }

      brought_safe : (leg : Leg) (number : ℕ) (frame : SeenFrame) → leg_at legs peer number ≡ Some leg
          → SafeAnswer around (places.Datagram peer) rest (brings (scene book legs []) (Some leg) frame)
      brought_safe leg number frame is =
          let new : Leg = brought frame leg in
          let signal : Option Signal = (frame_effect frame leg.seen.stage).signal in
          let from : Leg → Type 0 = Covers book (seen around (at (places.Datagram peer) rest)) in
          let own : from leg = all_found from legs peer number leg b.covered is in
          heard_so (replaced legs new) (heard_of leg.name signal)
          (λ x some. rw (names_replaced legs new) (subst (λ n. 1 ≤ times n (names_of legs)) (handed_past leg.name signal rest x
          some) (found_at legs peer number leg is).2))
          (all_replaced from (Covers book (seen around (after_heard (heard_of leg.name signal) rest))) legs new
          (λ kept. elim (brought_kept frame leg kept) [
            | inl before ↦ omega (arith, own before)
            | inr offered ↦ omega (arith, offered, go_on_care (handed leg.name signal rest) leg.name)
          ])
          (λ other differs c kept. omega (arith, c kept)) b.covered)

  -- ---- ticks
  pub tick_safe : (peer : ℕ) (rest : Rest) (choice : Choice) → Before around (places.Tick peer) rest
      → SafeAnswer around (places.Tick peer) rest (at_tick (scene book legs []) peer choice)
  tick_safe peer rest choice b = tick_ways (SafeAnswer around (places.Tick peer) rest) (scene book legs []) peer choice
      (quiet around b (replies.Tick (Err (record {}))) refl refl)
      (quiet around b (replies.Tick (Ok false)) refl refl)
      (λ lapses is_quiet.
      let to : Work = told_at (places.Tick peer) (replies.Tick (Ok is_quiet)) rest in
      unchanged around b (all_lapsed peer lapses legs) to (moves (places.Tick peer) (replies.Tick (Ok is_quiet)) rest refl)
      (all_at_lapses (Covers book (seen around to)) (λ lapse leg own kept.
      subst (λ n. 1 ≤ bit (is_some (partner_of book n)) + seen around to n) (sym (lapsed_name lapse leg))
      (own (lapsed_kept lapse leg kept))) peer lapses legs
      (more_care around b to (λ x. told_care (places.Tick peer) (replies.Tick (Ok is_quiet)) rest x refl))))
