-- What is taken out of outboxes in the turns of a run is given to its wire.
use Rattle.std.proofs.Common.{ℕ, ◌≡◌, ◌==◌, Bool, true, false, cond, List, [], ◌∷◌, ◌++◌, Option, None, Some, refl, sym, ap}
use Rattle.std.proofs.Common.{subst, ◌∙◌, append_assoc, append-nil, inl, inr}
use Rattle.std.specs.List.{AllByRecursion}
use Rattle.std.proofs.lemmas.Bool.{cases_Bool}
use Rattle.std.proofs.lemmas.List.{append_cancel_left}
use Rattle.call_control.specs.Work.{of_datagram, of_tick}
use Rattle.call_control.specs.WorkState.{WorkState, begun, offer_in}
use Rattle.call_control.specs.declared.need.Need.{Need}
use Rattle.call_control.specs.declared.reply.Reply.{Reply}
use Rattle.exchange_core.specs.Traces.{Call, IsHeard, IsMade, IsTrace, MakesAll, moment, told}
use Rattle.laws_of_peers.specs.Followed.{place_of}
use Rattle.step_log.specs.Notes.{Noted, note}
use Rattle.laws_of_peers.specs.Trails.{is_at, taken_at, taken_in}
use Rattle.step_log.specs.declared.made.Made.{Made}
use Rattle.step_log.specs.declared.made.Made.TheVariants as mades
use Rattle.peer_accounts.specs.declared.onwards.Offer.{Offer}
use Rattle.peer_plan.specs.Plan.{PlanView, counts_of, range_of}
use Rattle.peer_plan.specs.declared.endpoint.Endpoint.{Endpoint}
use Rattle.udp_wires.specs.Parcels.{Parcel}
use Rattle.laws_of_workers.specs.CarriedAcross.{Handed, HandsTaken, handed_from, parcels_of}
use Rattle.udp_workers.specs.Emptied.{EmptiesDue, EmptiesIfDue, HandsOut, HasEmptied}
use Rattle.udp_workers.specs.Intake.{MakesAllTurns, Passed, TakesAll, TurnView}
use Rattle.udp_workers.specs.Served.{endpoint_at}
use Rattle.udp_workers.specs.Ticked.{TicksDue, TicksIfDue, is_due}
use Rattle.udp_workers.specs.declared.intake.Intake.{Intake}

abbrev Octets : Type 0
Octets = List (List ℕ)

-- ---- both of two

taken_both : (place : ℕ) (one other : List Made) → taken_at place (one ++ other) ≡ taken_at place one ++ taken_at place other
taken_both place [] other = refl
taken_both place (made ∷ one) other =
    let here : Octets = cond (is_at place (place_of made)) (taken_in made) [] in
    ap (λ (l : Octets). here ++ l) (taken_both place one other)
    ∙ sym (append_assoc here (taken_at place one) (taken_at place other))

parcels_both : (one other : List Handed) → parcels_of (one ++ other) ≡ parcels_of one ++ parcels_of other
parcels_both [] other = refl
parcels_both (first ∷ one) other = ap (λ (l : List Parcel). first.parcel ∷ l) (parcels_both one other)

handed_both : (place : ℕ) (one other : List Handed) → handed_from place
    (one ++ other) ≡ handed_from place one ++ handed_from place other
handed_both place [] other = refl
handed_both place (first ∷ one) other =
    let here : Octets = cond (first.peer == place) (first.parcel.octets ∷ []) [] in
    ap (λ (l : Octets). here ++ l) (handed_both place one other)
    ∙ sym (append_assoc here (handed_from place one) (handed_from place other))

all_both : (P : Handed → Type 0) (one other : List Handed) → AllByRecursion P one → AllByRecursion P other
    → AllByRecursion P (one ++ other)
all_both P [] other first second = second
all_both P (one ∷ more) other first second = (first.0, all_both P more other first.1 second)

-- ---- notes that take nothing out

one_untaken : (place : ℕ) (made : Made) (taken : Octets) → taken_in made ≡ []
    → cond (is_at place (place_of made)) (taken_in made) [] ++ taken ≡ taken
one_untaken place made taken none =
    subst (λ (l : Octets). cond (is_at place (place_of made)) l [] ++ taken ≡ taken) (sym none) (by (is_at place (place_of made)))
  where
    by : (b : Bool) → cond b [] [] ++ taken ≡ taken
    by true = refl
    by false = refl

made_untaken : (call : Call) (offer : Option Offer) (need : Need) (reply : Reply) (made : Made)
    → IsMade call offer need reply made
    → taken_in made ≡ []
made_untaken call offer need reply (mades.TakeOut peer out) is = absurd is
made_untaken call offer need reply made is = refl

trace_untaken : (call : Call) (from to : WorkState) (steps : List Made) → IsTrace call from steps to → (place : ℕ)
    → taken_at place steps ≡ []
trace_untaken call from to [] trace place = refl
trace_untaken call from to (step ∷ rest) trace place =
    one_untaken place step (taken_at place rest) (made_untaken call (offer_in from.onwards) trace.0 trace.1 step trace.3)
    ∙ trace_untaken call (told from trace.1) to rest trace.4 place

module _ (plan : PlanView) where
  -- notes, and what a wire was given meanwhile
  record Hands (old new : Noted) (before after : List Parcel) : Type 0 where
    notes : List Made
    noted : new.made ≡ old.made ++ notes
    hands : HandsTaken plan notes before after

  hands_none : (old new : Noted) (notes : List Made) (parcels : List Parcel) → new.made ≡ old.made ++ notes
      → ((place : ℕ) → taken_at place notes ≡ []) → Hands old new parcels parcels
  hands_none old new notes parcels noted none = record {
    notes = notes;
    noted = noted;
    hands = record { handed = []; went = sym (append-nil parcels); endpoints = tt; taken = λ place. sym (none place) };
  }

  hands_same : (old new : Noted) (before after : List Parcel) → new ≡ old → after ≡ before → Hands old new before after
  hands_same old new before after same went =
      subst (λ (l : List Parcel). Hands old new before l) (sym went)
      (hands_none old new [] before (ap (λ (n : Noted). n.made) same ∙ sym (append-nil old.made)) (λ place. refl))

  hands_then : (old mid new : Noted) (before between after : List Parcel) → Hands old mid before between
      → Hands mid new between after
      → Hands old new before after
  hands_then old mid new before between after first second =
      let one = first.hands in
      let other = second.hands in
      record {
        notes = first.notes ++ second.notes;
        noted = second.noted ∙ ap (λ (m : List Made). m ++ second.notes) first.noted
            ∙ append_assoc old.made first.notes second.notes;
        hands = record {
          handed = one.handed ++ other.handed;
          went = other.went ∙ ap (λ (l : List Parcel). l ++ parcels_of other.handed) one.went
              ∙ append_assoc before (parcels_of one.handed) (parcels_of other.handed)
              ∙ ap (λ (l : List Parcel). before ++ l) (sym (parcels_both one.handed other.handed));
          endpoints = all_both (λ h. endpoint_at plan h.peer ≡ Some h.parcel.endpoint) one.handed other.handed one.endpoints
              other.endpoints;
          taken = λ place. handed_both place one.handed other.handed ∙ (λ i. one.taken place i ++ other.taken place i)
              ∙ sym (taken_both place first.notes second.notes);
        };
      }

  makes_none : (call : Call) (from : WorkState) (old new : Noted) (parcels : List Parcel) → MakesAll call from old new
      → Hands old new parcels parcels
  makes_none call from old new parcels makes =
      hands_none old new makes.traces.steps parcels makes.traces.noted (trace_untaken call from makes.to makes.traces.steps
      makes.traces.trace)

  -- ---- a turn

  heard_none : (from : Endpoint) (call : Call) (old new : Noted) (parcels : List Parcel) → IsHeard plan from call old new
      → Hands old new parcels parcels
  heard_none from call old new parcels (inl stranger) = hands_same old new parcels parcels stranger.1 refl
  heard_none from call old new parcels (inr known) = makes_none call (begun (of_datagram known.0)) old new parcels known.2

  takes_none : (turn : TurnView) (arrivals : List Parcel) (old new : Noted) (parcels : List Parcel)
      → TakesAll plan turn arrivals old new
      → Hands old new parcels parcels
  takes_none turn [] old new parcels takes = hands_same old new parcels parcels takes refl
  takes_none turn (arrival ∷ earlier) old new parcels takes =
      hands_then old takes.0 new parcels parcels parcels (takes_none turn earlier old takes.0 parcels takes.1)
      (elim takes.2.heard [
        | inl away ↦ hands_same takes.0 new parcels parcels (takes.2.away away) refl
        | inr heard ↦ heard_none arrival.endpoint _ takes.0 new parcels heard
      ])

  if_ticked : (now : ℕ) (all : Bool) (peer : ℕ) (old new : Noted) (parcels : List Parcel) → TicksIfDue plan now all peer old new
      → Hands old new parcels parcels
  if_ticked now all peer old new parcels ticks = elim (cases_Bool (is_due all peer old)) [
    | inl e ↦
        let range = range_of (counts_of plan.peers) peer in
        makes_none (moment plan now) (begun (of_tick peer range.first range.count)) old new parcels (ticks.due e)
    | inr e ↦ hands_same old new parcels parcels (ticks.left_out e) refl
  ]

  ticks_none : (now : ℕ) (all : Bool) (peers : List ℕ) (old new : Noted) (parcels : List Parcel)
      → TicksDue plan now all peers old new
      → Hands old new parcels parcels
  ticks_none now all [] old new parcels ticks = hands_same old new parcels parcels ticks refl
  ticks_none now all (peer ∷ rest) old new parcels ticks =
      hands_then old ticks.0 new parcels parcels parcels (if_ticked now all peer old ticks.0 parcels ticks.1)
      (ticks_none now all rest ticks.0 new parcels ticks.2)

  -- ---- outboxes

  one_out : (peer : ℕ) (to : Endpoint) (out : List ℕ) (old new : Noted) (before after : List Parcel)
      → endpoint_at plan peer ≡ Some to
      → new ≡ note (mades.TakeOut peer (Some out)) old → after ≡ before ++ record { endpoint = to; octets = out } ∷ []
      → Hands old new before after
  one_out peer to out old new before after found is went = record {
    notes = mades.TakeOut peer (Some out) ∷ [];
    noted = ap (λ (n : Noted). n.made) is;
    hands = record {
      handed = record { peer = peer; parcel = record { endpoint = to; octets = out } } ∷ [];
      went = went;
      endpoints = (found, tt);
      taken = λ place. refl;
    };
  }

  hands_out : (peer : ℕ) (to : Endpoint) (outs : List (List ℕ)) (old new : Noted) (before after : List Parcel)
      → endpoint_at plan peer ≡ Some to → HandsOut peer to outs old new before after → Hands old new before after
  hands_out peer to [] old new before after found hands = hands_same old new before after hands.0 hands.1
  hands_out peer to (out ∷ earlier) old new before after found hands =
      hands_then old hands.0 new before hands.1 after (hands_out peer to earlier old hands.0 before hands.1 found hands.2)
      (one_out peer to out hands.0 new hands.1 after found hands.3 hands.4)

  ended : (peer taken : ℕ) (mid new : Noted) (parcels : List Parcel) → HasEmptied peer taken mid new
      → Hands mid new parcels parcels
  ended peer taken mid new parcels (inl full) = hands_same mid new parcels parcels full.1 refl
  ended peer taken mid new parcels (inr none) =
      hands_none mid new (mades.TakeOut peer None ∷ []) parcels (ap (λ (n : Noted). n.made) none.1)
      (λ place. one_untaken place (mades.TakeOut peer None) [] refl)

  if_emptied : (peer : ℕ) (all : Bool) (to : Endpoint) (old new : Noted) (before after : List Parcel)
      → endpoint_at plan peer ≡ Some to
      → EmptiesIfDue all peer to old new before after → Hands old new before after
  if_emptied peer all to old new before after found (inl empties) =
      hands_then old empties.mid new before after after (hands_out peer to empties.outs old empties.mid before after found
      empties.hands)
      (ended peer _ empties.mid new after empties.ended)
  if_emptied peer all to old new before after found (inr left) = hands_same old new before after left.1 left.2

  empties_hand : (all : Bool) (peers : List ℕ) (old new : Noted) (before after : List Parcel)
      → EmptiesDue plan all peers old new before after → Hands old new before after
  empties_hand all [] old new before after empties = hands_same old new before after empties.0 empties.1
  empties_hand all (peer ∷ rest) old new before after empties =
      hands_then old empties.0 new before empties.1 after (if_emptied peer all empties.2 old empties.0 before empties.1
      empties.3 empties.4)
      (empties_hand all rest empties.0 new empties.1 after empties.5)

  -- ---- turns

  turns_hand : (intake : Intake) (peers : List ℕ) (turns : List TurnView) (left : Option Parcel) (received : ℕ) (old new : Noted)
      (first now : Passed) → MakesAllTurns intake plan peers turns left received old new first now
      → Hands old new first.went now.went
  turns_hand intake peers [] left received old new first now run =
      hands_same old new first.went now.went run.same (ap (λ (p : Passed). p.went) run.passed_nothing)
  turns_hand intake peers (turn ∷ earlier) left received old new first now run =
      let makes = run.makes in
      let between : List Parcel = run.between.went in
      hands_then old run.mid new first.went between now.went
      (turns_hand intake peers earlier run.was run.counted old run.mid first run.between run.before)
      (hands_then run.mid makes.taken new between between now.went
      (takes_none turn makes.takes.arrivals run.mid makes.taken between makes.takes.taken)
      (hands_then makes.taken makes.ticked new between between now.went
      (ticks_none turn.now run.all peers makes.taken makes.ticked between makes.ticks)
      (empties_hand run.all peers makes.ticked new between now.went makes.empties)))

  pub run_hands : (intake : Intake) (peers : List ℕ) (turns : List TurnView) (left : Option Parcel) (received : ℕ)
      (old new : Noted)
      (first now : Passed) → MakesAllTurns intake plan peers turns left received old new first now → (trail : List Made)
      → new.made ≡ old.made ++ trail → HandsTaken plan trail first.went now.went
  run_hands intake peers turns left received old new first now run trail noted =
      let hands = turns_hand intake peers turns left received old new first now run in
      let same : hands.notes ≡ trail = append_cancel_left old.made hands.notes trail (sym hands.noted ∙ noted) in
      subst (λ (notes : List Made). HandsTaken plan notes first.went now.went) same hands.hands
