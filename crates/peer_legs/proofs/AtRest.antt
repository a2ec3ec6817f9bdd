-- The moment until which the legs of a peer rest.
use Rattle.std.specs.Prelude.{◌&&◌, All}
use Rattle.std.proofs.Common.{◌≡◌, ℕ, ◌+◌, ◌<◌, ◌≤◌, Bool, true, false, min, List, length, take, Option, None, Some, Result, Ok}
use Rattle.std.proofs.Common.{Err, IfOk, OnOk, OnErr, get_or, slice_get, slice_set, refl, sym, ap, subst, ◌∙◌, arith}
use Rattle.std.proofs.lemmas.List.Elements.{All-more, All-set}
use Rattle.std.proofs.lemmas.Option.{slice_get_within, get_or_from_slice_get}
use Rattle.leg_machine.specs.Leg.{LegState}
use Rattle.leg_machine.specs.Media.{media_sent, after_media}
use Rattle.leg_machine.specs.Ticks.{is_idle}
use Rattle.leg_machine.specs.declared.media.MediaSent.{MediaSent}
use Rattle.leg_machine.specs.declared.media.MediaSent.TheVariants as sents
use Rattle.call_signals.specs.declared.order.OrderError.{OrderError}
use Rattle.peer_legs.specs.Legs.{NamedLeg}
use Rattle.peer_legs.specs.LegsInside.{RestUntil}
use Rattle.peer_legs.specs.Rests.{is_quiet, is_resting}

-- a place changes
pub rest_placed : (until here : ℕ) (places : List (Option NamedLeg)) (index : ℕ) (new : Option NamedLeg) → RestUntil until places
    → ((now : ℕ) → now < here → is_resting new now ≡ true) → RestUntil (min until here) (slice_set places index new)
rest_placed until here places index new rest new_rests now before =
    All-set (λ (place : Option NamedLeg). is_resting place now ≡ true) places index new (new_rests now (omega arith))
    (rest now (omega arith))

-- a leg is removed
pub rest_gone : (until : ℕ) (places : List (Option NamedLeg)) (index : ℕ) → RestUntil until places
    → RestUntil until (slice_set places index None)
rest_gone until places index rest now before = All-set (λ (place : Option NamedLeg). is_resting place now ≡ true) places index
    None refl (rest now before)

-- no leg has to rest before the first moment
pub rest_never : (places : List (Option NamedLeg)) → RestUntil 0 places
rest_never places now before = absurd (omega arith)

-- the leg at a place rests if all do
rest_there : (now : ℕ) (places : List (Option NamedLeg)) (index : ℕ) (place : Option NamedLeg)
    → slice_get places index ≡ Some place
    → All (λ p. is_resting p now ≡ true) places → is_resting place now ≡ true
rest_there now places index place at all =
    subst (λ p. is_resting p now ≡ true) (get_or_from_slice_get places index place place at)
    (all index place (slice_get_within places index place at))

-- only a full frame changes a leg that sends media
module _ (until here : ℕ) (places : List (Option NamedLeg)) (index : ℕ) (named : NamedLeg) (new : LegState)
    (rest : RestUntil until places)
    (at : slice_get places index ≡ Some (Some named)) (within : here ≤ until) where
  rest_kept : new ≡ named.leg → RestUntil here (slice_set places index (Some (record { name = named.name; leg = new })))
  rest_kept same now before =
      let all = rest now (omega arith) in
      All-set (λ p. is_resting p now ≡ true) places index (Some (record { name = named.name; leg = new }))
      (subst (λ (leg : LegState). is_resting (Some (record { name = named.name; leg = leg })) now ≡ true) (sym same)
      (rest_there now places index (Some named) at all)) all

  pub rest_media : (result : Result MediaSent OrderError) (media : List ℕ) (moment : ℕ)
      → (result ≡ Ok sents.Voice → (now : ℕ) → now < here → is_resting (Some (record { name = named.name; leg = new })) now
      ≡ true)
      → IfOk result (λ sent. sent ≡ media_sent named.leg moment)
      → OnOk result (new ≡ after_media (media_sent named.leg moment) named.leg media moment)
      → OnErr result (new ≡ named.leg) → RestUntil here (slice_set places index (Some (record { name = named.name; leg = new })))
  rest_media (Ok sents.Voice) media moment voice is carried refused = λ now before.
      All-set (λ p. is_resting p now ≡ true) places index (Some (record { name = named.name; leg = new })) (voice refl now before)
      (rest now (omega arith))
  rest_media (Ok sents.Quelched) media moment voice is carried refused =
      rest_kept (carried ∙ ap (λ (sent : MediaSent). after_media sent named.leg media moment) (sym is))
  rest_media (Ok (sents.Mini timestamp)) media moment voice is carried refused =
      rest_kept (carried ∙ ap (λ (sent : MediaSent). after_media sent named.leg media moment) (sym is))
  rest_media (Err error) media moment voice is carried refused = rest_kept refused

-- a leg that is quiet
pub rest_quiet : (until : ℕ) (places : List (Option NamedLeg)) → RestUntil until places → 0 < until
    → All (λ place. is_quiet place ≡ true) places
rest_quiet until places rest some = λ k d within. quiet_place (get_or places k d) (rest 0 some k d within)
  where
    and-left : (a b : Bool) → (a && b) ≡ true → a ≡ true
    and-left true b is = refl
    and-left false b is = is

    quiet_place : (place : Option NamedLeg) → is_resting place 0 ≡ true → is_quiet place ≡ true
    quiet_place None is = refl
    quiet_place (Some named) is = and-left (is_quiet (Some named)) (is_idle named.leg 0) is

-- one more place
pub rest_more : (until next : ℕ) (places : List (Option NamedLeg)) (index : ℕ) (place : Option NamedLeg) → index < length places
    → place ≡ get_or places index place
    → next ≤ until → RestUntil until (take index places) → ((now : ℕ) → now < next → is_resting place now ≡ true)
    → RestUntil next (take (index + 1) places)
rest_more until next places index place within is less rest here now before =
    All-more (λ p. is_resting p now ≡ true) places index place within (rest now (omega arith))
    (subst (λ p. is_resting p now ≡ true) is (here now before))
