-- After each step no order of a continuing call meets a leg that is only offered.
use Rattle.call_book.specs.declared.errors.ReserveError.TheVariants as reserve_errors
use Rattle.call_signals.specs.declared.order.Command.TheVariants as commands
use Rattle.call_control.specs.declared.need.Need.TheVariants as needs
use Rattle.call_control.specs.declared.place.Place.TheVariants as places
use Rattle.call_control.specs.declared.reply.Reply.TheVariants as replies
use Rattle.call_control.proofs.Prelude.{◌≡◌, Some, None, true, false, refl, ℕ, ◌+◌, ◌≤◌, List, [], ◌∷◌, ap, arith, inl, inr, ◌⊎◌}
use Rattle.call_control.proofs.Prelude.{Option, sym, subst, ◌∙◌, ◌≢◌, cases_Bool, true≢false, AllByRecursion, Ok, Err, Result}
use Rattle.call_control.proofs.Prelude.{is_same, Book, has_name, bridge_answer, partner_of, bridged, released, BridgeError}
use Rattle.call_control.proofs.Prelude.{LegName, times, names_of, Leg, Scene, Choice, leg_named, replaced, Answer, carried}
use Rattle.call_control.proofs.Prelude.{bridges, releases, at_release, answered, is_call, Rest, next_at, advance, told_at}
use Rattle.call_control.proofs.Prelude.{in_hand}
use Rattle.call_control.proofs.Prelude.{after_reserve_in, after_find, Command, Need, Place, Reply, Format, Stage, stage_after}
use Rattle.call_control.proofs.Prelude.{MediaSpan}
use Rattle.call_control.proofs.Prelude.{IsBridged, bridged_by, is_same_itself, same_name, bit, has_name_is, one_per_number}
use Rattle.call_control.proofs.Prelude.{has_name_from, partner_has, bridged_first, bridged_before, released_gone}
use Rattle.call_control.proofs.Held.{scene, IsHeld, some_bit, bit_most, found_named}
use Rattle.call_control.proofs.Safe.{fresh_at, offered_of, all_replaced, all_map_in, some_of, zero_if, no_fresh}
use Rattle.call_control.proofs.SafeSteps.{Surroundings, Before, SafeAnswer}
use Rattle.call_control.proofs.Safety.{SafeIf}
use Rattle.call_control.proofs.Steps.{order_ways, release_made, own_known}
use Rattle.call_control.proofs.TalkPlaces.{is_pending, NotPending, is_bridge, opens_name, need_not_pending, need_partners}
use Rattle.call_control.proofs.TalkPlaces.{opening_at, opening_fresh, onward_plain, leads_on, leads_to_plain, opened_from}
use Rattle.call_control.proofs.TalkPlaces.{accept_fresh, Asks, asks_plain, SettledAt, PartnersAt, IsTalkStep}

-- ---- the lease of a place that opens an incoming leg

unopened_name : (place : Place) (need : Need) (p : LegName) → next_at place ≡ Some need → opening_at place p ≡ 0
    → opens_name p need ≡ false
unopened_name place need p is none = grind arith

module _ (around : Surroundings) (others_opening : LegName → ℕ) (few_opening : (x : LegName) → others_opening x ≤ around.beside x)
  where
    open around use {others_fresh, beside, book, legs}

    abbrev Settled : Place → LegName → Type 0
    Settled place p = SettledAt others_opening book legs place p

    -- before a step at a place
    pub record Talks (place : Place) (rest : Rest) : Type 0 where
      pub safe : Before around place rest
      pub asks : Asks (Settled place) place
      pub partners : PartnersAt others_opening others_fresh book legs place

    abbrev made : Place → Need → Choice → Answer
    made place need choice = answered (scene book legs (in_hand place)) need (is_call place) choice

    -- ---- the step of any place
    module _ {place : Place} {rest : Rest} (b : Talks place rest) (need : Need) (choice : Choice) (is : next_at place ≡ Some need)
        (safe : SafeAnswer around place rest (made place need choice)) where
      abbrev a : Answer
      a = made place need choice

      abbrev to : Place
      to = (told_at place a.reply rest).place

      abbrev SettledTo : LegName → Type 0
      SettledTo = SettledAt others_opening a.scene.book a.scene.legs to

      abbrev PartnersTo : Type 0
      PartnersTo = PartnersAt others_opening others_fresh a.scene.book a.scene.legs to

      -- a settled leg stays settled
      stays_settled : (p : LegName) → Settled place p → SettledTo p
      stays_settled p h = record {
        known = omega (arith, h.known, safe.next);
        not_pending = need_not_pending p (scene book legs (in_hand place)) need (is_call place) choice
            (unopened_name place need p is (omega (arith, h.unopened))) h.not_pending;
        unopened = omega (
          arith,
          h.unopened,
          zero_if (opening_at to p) (λ some. elim (safe.fresh p (omega (arith, opening_fresh to p))) [
            | inl before ↦ no_fresh place p ⊥ (opened_from place a.reply rest p some) before
            | inr late ↦ absurd (omega (arith, h.known, late))
          ]),
        );
      }

      -- a name that was that of a lease may have the partner that its place tells
      partners_by : is_bridge need ≡ false → ((x p : LegName) → 1 ≤ fresh_at place x → offered_of place ≡ Some p
          → partner_of a.scene.book x ≡ Some p → (1 ≤ fresh_at to x + others_fresh x) ⊎ SettledTo p) → PartnersTo
      partners_by apart lease x p has =
          let old : partner_of book x ≡ Some p =
          need_partners p (scene book legs (in_hand place)) b.safe.held.sound need (is_call place) choice apart x p has in
          elim (b.partners x p old) [
            | inl some ↦
                elim (some_of (fresh_at place x) (others_fresh x) some) [
                  | inl own ↦ lease x p own (b.safe.lone x p own old) has
                  | inr other ↦ inl (omega arith)
                ]
            | inr settled ↦ inr (stays_settled p settled)
          ]

      no_lease : is_bridge need ≡ false → offered_of place ≡ None → PartnersTo
      no_lease apart none = partners_by apart (λ x p own lone has. let never : None ≡ Some p = sym none ∙ lone in absurd (cc))

      plain_asks : leads_on place ≡ true → Asks SettledTo to
      plain_asks on = asks_plain SettledTo to (leads_to_plain place a.reply rest on)

      step_by : Asks SettledTo to → PartnersTo → IsTalkStep others_opening others_fresh book legs place a.scene to
      step_by asks partners = record { settled = stays_settled; asks = asks; partners = partners }

    -- ---- the leg that gets an order of a continuing call, and the leg whose far leg is opened

    found_asks : (name : LegName) (command : Command MediaSpan) (rest : Rest) → Talks (places.Finding name command) rest
        → (o : Option LegName)
        → partner_of book name ≡ o → Asks (SettledAt others_opening book legs (after_find (replies.Partner o) command rest).place)
        (after_find (replies.Partner o) command rest).place
    found_asks name command rest b None is = asks_plain _ (advance rest).place (onward_plain rest.onward rest.touched rest.looks)
    found_asks name command rest b (Some partner) is = elim (b.partners name partner is) [
      | inl fresh ↦ absurd (omega (arith, b.safe.apart name (omega (arith, ap bit (is_same_itself name)))))
      | inr settled ↦ settled
    ]

    any : (ls : List Leg) → AllByRecursion (λ other. Unit {0}) ls
    any [] = tt
    any (other ∷ ls) = (tt, any ls)

    -- the offered leg once it is accepted
    accepted : (offered target : LegName) (format : Format) (rest : Rest) → Talks (places.Accepting offered target format) rest
        → (leg : Leg) (stage : Stage) → leg_named legs offered ≡ Some leg → stage_after (commands.Accept format) leg.seen.stage
        ≡ Some stage
        → SettledAt others_opening book (replaced legs (carried (commands.Accept format) leg stage))
        (places.OpenOut offered target)
        offered
    accepted offered target format rest b leg stage found ok =
        let there = found_named legs offered leg found in
        let has : has_name book offered ≡ true = some_bit (has_name book offered)
        (omega (arith, b.safe.held.once offered, there.1)) in
        record {
          known = (b.safe.held.sound.placed offered.number offered (has_name_is book offered has)).2;
          not_pending = all_replaced (λ other. Unit {0}) (NotPending offered) legs (carried (commands.Accept format) leg stage)
              (λ same. linked leg.seen.stage stage ok)
              (λ other differs _. λ same. absurd (true≢false (sym same ∙ ap (is_same other.name) (sym there.0) ∙ differs)))
              (any legs);
          unopened = omega (
            arith,
            few_opening offered,
            b.safe.held.once offered,
            there.1,
            bit_most (has_name book offered),
          );
        }
      where
        linked : (before after : Stage) → stage_after (commands.Accept format) before ≡ Some after → is_pending after ≡ false
        linked before after ok = grind arith

    reserved_asks : (P : LegName → Type 0) (reply : Reply) (peer : ℕ) (rest : Rest)
        → Asks P (after_reserve_in reply peer rest).place
    reserved_asks P (replies.Reserve (Err reserve_errors.NoNumber)) peer rest = tt
    reserved_asks P reply peer rest = tt

    -- ---- partners

    module _ (offered target : LegName) (format : Format) (rest : Rest) (b : Talks (places.Bridging offered target format) rest)
      where
        abbrev next : Book
        next = bridged book offered target

        -- the far leg isn't opened yet
        unopened : IsBridged book offered target → SettledAt others_opening next legs (places.Accepting offered target format)
            target
        unopened did =
            let few : times target (names_of legs) + others_opening target ≤ 0 = omega (
              arith,
              ap bit (is_same_itself target),
              bit_most (has_name book target),
              b.safe.held.once target,
              few_opening target,
            ) in
            record {
              known = (b.safe.held.sound.placed target.number target did.has_b).2;
              not_pending = all_map_in (λ other. Unit {0}) (NotPending target) legs (λ leg there _. λ same. absurd (omega (
                arith,
                ap (λ n. times n (names_of legs)) (same_name leg.name target same),
              ))) (any legs);
              unopened = omega arith;
            }

        did_partners : IsBridged book offered target
            → PartnersAt others_opening others_fresh next legs (places.Accepting offered target format)
        did_partners did x p has =
            let known : has_name book x ≡ true = partner_has next x p has in
            let apart : (n : LegName) → has_name book n ≡ true → is_same n x ≡ false → x.number ≢ n.number = λ n there other e.
            let same : x ≡ n = one_per_number book x n known there e in
            true≢false (sym (is_same_itself n) ∙ ap (is_same n) (sym same) ∙ other) in
            elim (cases_Bool (is_same offered x)) [
              | inl first ↦
                  let both : Some target ≡ Some p = sym (bridged_first book offered target did)
                  ∙ ap (partner_of next) (same_name offered x first) ∙ has in
                  let e : target ≡ p = cc in
                  inr (subst (SettledAt others_opening next legs (places.Accepting offered target format)) e (unopened did))
              | inr not_first ↦
                  elim (cases_Bool (is_same target x)) [
                    | inl second ↦ inl (omega (arith, ap bit second))
                    | inr not_second ↦ elim (b.partners x p (bridged_before book offered target did x p
                        (apart offered (has_name_from book offered did.has_a) not_first)
                        (apart target (has_name_from book target did.has_b) not_second) has)) [
                          | inl some ↦ inl some
                          | inr settled ↦ inr (record {
                            known = settled.known;
                            not_pending = settled.not_pending;
                            unopened = settled.unopened;
                          })
                        ]
                  ]
            ]

        bridging_partners : (r : Result (Unit {0}) BridgeError) → bridge_answer book offered target ≡ r
            → PartnersAt others_opening others_fresh (bridges (scene book legs (target ∷ [])) offered target r).scene.book
            (bridges (scene book legs (target ∷ [])) offered target r).scene.legs
            (told_at (places.Bridging offered target format) (bridges (scene book legs (target ∷ [])) offered target r).reply
            rest).place
        bridging_partners (Err error) is = b.partners
        bridging_partners (Ok tt) is = did_partners (bridged_by book offered target b.safe.held.sound is)

    released_none : (name x p : LegName) → IsHeld beside (scene book legs (name ∷ [])) → is_same name x ≡ true
        → partner_of (at_release (scene book legs (name ∷ [])) name).scene.book x ≡ Some p → ⊥
    released_none name x p held same has =
        let s : Scene = scene book legs (name ∷ []) in
        let made : at_release s name ≡ releases s name = release_made s name refl (own_known beside s name refl held) in
        let there : partner_of (released book name) x ≡ Some p = subst (λ a. partner_of a.scene.book x ≡ Some p) made has in
        true≢false (sym (partner_has (released book name) x p there) ∙ ap (has_name (released book name))
        (sym (same_name name x same)) ∙ released_gone book name)

    -- ---- every place

    abbrev pub TalksIf : Place → Rest → Choice → Option Need → Type 0
    TalksIf place rest choice None = Unit {0}
    TalksIf place rest choice (Some need) = IsTalkStep others_opening others_fresh book legs place
        (made place need choice).scene (told_at place (made place need choice).reply rest).place

    pub place_talks : (place : Place) (rest : Rest) (choice : Choice) → Talks place rest
        → SafeIf around place rest choice (next_at place) → TalksIf place rest choice (next_at place)
    place_talks (places.ReserveIn peer) rest choice b safe = step_by b _ choice refl safe (reserved_asks _ _ peer rest)
        (no_lease b _ choice refl safe refl refl)
    place_talks (places.Finding name command) rest choice b safe = step_by b _ choice refl safe
        (found_asks name command rest b (partner_of book name) refl) (no_lease b _ choice refl safe refl refl)
    place_talks (places.Accepting offered target format) rest choice b safe =
        let place : Place = places.Accepting offered target format in
        step_by b _ choice refl safe
        (order_ways (λ a. Asks (SettledAt others_opening a.scene.book a.scene.legs (told_at place a.reply rest).place)
        (told_at place a.reply rest).place) (scene book legs (target ∷ [])) offered (commands.Accept format) choice (λ error. tt)
        (accepted offered target format rest b))
        (partners_by b _ choice refl safe refl (λ x p own lone has. inl (omega (
          arith,
          accept_fresh (made place (needs.Order offered (commands.Accept format)) choice).reply offered target format rest x own,
        ))))
    place_talks (places.Bridging offered target format) rest choice b safe = step_by b _ choice refl safe
        (plain_asks b _ choice refl safe refl)
        (bridging_partners offered target format rest b (bridge_answer book offered target) refl)
    place_talks (places.OpenOut offered target) rest choice b safe = step_by b _ choice refl safe
        (plain_asks b _ choice refl safe refl)
        (partners_by b _ choice refl safe refl (λ x p own lone has.
        let e : offered ≡ p = cc in
        inr (stays_settled b _ choice refl safe p (subst (Settled (places.OpenOut offered target)) e b.asks))))
    place_talks (places.Undoing offered target) rest choice b safe = step_by b _ choice refl safe
        (plain_asks b _ choice refl safe refl)
        (partners_by b _ choice refl safe refl (λ x p own lone has.
        absurd (released_none target x p b.safe.held (some_bit (is_same target x) (omega arith)) has)))
    place_talks places.End rest choice b safe = tt
    place_talks place rest choice b safe = step_by b _ choice refl safe (plain_asks b _ choice refl safe refl)
        (no_lease b _ choice refl safe refl refl)
