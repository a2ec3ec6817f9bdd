-- The media that is ordered in the turns of a run is that of their datagrams.
use Rattle.std.proofs.Common.{ℕ, ◌≡◌, ◌≢◌, Bool, true, false, cond, List, [], ◌∷◌, ◌++◌, Option, None, Some, Ok, refl, sym}
use Rattle.std.proofs.Common.{ap, subst, ◌∙◌, append_assoc, append-nil, inl, inr}
use Rattle.std.specs.List.{AllByRecursion}
use Rattle.std.proofs.lemmas.Bool.{cases_Bool}
use Rattle.std.proofs.lemmas.List.{append_cancel_left}
use Rattle.call_book.specs.declared.leg_name.LegName.{LegName}
use Rattle.call_signals.specs.Order.{Kind}
use Rattle.call_signals.specs.declared.order.Command.TheVariants as commands
use Rattle.laws_of_peers.specs.Followed.{Follow, place_of}
use Rattle.step_log.specs.Notes.{Noted, note}
use Rattle.laws_of_peers.specs.Trails.{OrderedMedia, is_at, media_at, media_by, media_in}
use Rattle.step_log.specs.declared.made.Made.{Made}
use Rattle.step_log.specs.declared.made.Made.TheVariants as mades
use Rattle.peer_lock.specs.Peer.{PeerView}
use Rattle.exchange_core.specs.Traces.{moment}
use Rattle.peer_plan.specs.Plan.{PlanView, counts_of, range_of}
use Rattle.peer_plan.specs.declared.endpoint.Endpoint.{Endpoint}
use Rattle.udp_wires.specs.Parcels.{Parcel}
use Rattle.laws_of_workers.specs.Carried.{Carries, IsNoMedia}
use Rattle.laws_of_workers.specs.CarriedAcross.{AllOrder, AreSpans, TurnsOrder, arrivals_of}
use Rattle.udp_workers.specs.Emptied.{EmptiesDue, EmptiesIfDue, HandsOut, HasEmptied}
use Rattle.udp_workers.specs.Intake.{MakesAllTurns, MakesTurn, Passed, TakesAll, TurnView}
use Rattle.udp_workers.specs.Ticked.{IsLater, TicksDue, TicksIfDue, is_due}
use Rattle.udp_workers.specs.declared.intake.Intake.{Intake}
use Rattle.laws_of_workers.proofs.CarryingLaws.{heard_carries, ticks_carry_none}
use Rattle.laws_of_workers.proofs.RoomLaws.{none_noted}
use Rattle.udp_workers.proofs.TickLaws.{later_on, later_same}
use Rattle.laws_of_workers.proofs.TurnRoom.{takes_later}

-- ---- media of two trails

media_both : (place : ℕ) (one other : List Made) → media_at place (one ++ other) ≡ media_at place one ++ media_at place other
media_both place [] other = refl
media_both place (made ∷ one) other =
    let here : List OrderedMedia = cond (is_at place (place_of made)) (media_in made) [] in
    ap (λ (l : List OrderedMedia). here ++ l) (media_both place one other)
    ∙ sym (append_assoc here (media_at place one) (media_at place other))

-- peers that follow two trails, one after the other
record Both (one other : List Made) (old new : List PeerView) : Type 0 where
  mid : List PeerView
  first : Follow one old mid
  second : Follow other mid new

both : (one other : List Made) (old new : List PeerView) → Follow (one ++ other) old new → Both one other old new
both [] other old new follow = record { mid = old; first = refl; second = follow }
both (step ∷ one) other old new follow =
    let rest = both one other follow.0 new follow.2 in
    record { mid = rest.mid; first = (follow.0, follow.1, rest.first); second = rest.second }

-- a trail of notes that were made in two parts
parts : (old mid new : Noted) (trail one other : List Made) → new.made ≡ old.made ++ trail → mid.made ≡ old.made ++ one
    → new.made ≡ mid.made ++ other → trail ≡ one ++ other
parts old mid new trail one other noted first second =
    append_cancel_left old.made trail (one ++ other)
    (sym noted ∙ second ∙ ap (λ (m : List Made). m ++ other) first ∙ append_assoc old.made one other)

-- ---- no media

none_by : (kind : Kind) (name : LegName) (media : List ℕ) → kind ≢ commands.Media tt → media_by kind name media ≡ []
none_by (commands.Media tt) name media not = absurd (not refl)
none_by kind name media not = refl

none_in : (made : Made) → IsNoMedia made → media_in made ≡ []
none_in (mades.Order place name kind media now (Ok step)) none = none_by kind name media none.0
none_in made none = refl

one_none : (place : ℕ) (made : Made) (media : List OrderedMedia) → media_in made ≡ []
    → cond (is_at place (place_of made)) (media_in made) [] ++ media ≡ media
one_none place made media none =
    subst (λ (l : List OrderedMedia). cond (is_at place (place_of made)) l [] ++ media ≡ media) (sym none)
    (by (is_at place (place_of made)))
  where
    by : (b : Bool) → cond b [] [] ++ media ≡ media
    by true = refl
    by false = refl

none_at : (place : ℕ) (notes : List Made) → AllByRecursion IsNoMedia notes → media_at place notes ≡ []
none_at place [] none = refl
none_at place (made ∷ notes) none = one_none place made (media_at place notes) (none_in made none.0) ∙ none_at place notes none.1

-- notes without media
record Quiet (place : ℕ) (old new : Noted) : Type 0 where
  notes : List Made
  noted : new.made ≡ old.made ++ notes
  none : media_at place notes ≡ []

quiet_same : (place : ℕ) (old new : Noted) → new ≡ old → Quiet place old new
quiet_same place old new same = record {
  notes = [];
  noted = ap (λ (n : Noted). n.made) same ∙ sym (append-nil old.made);
  none = refl;
}

quiet_then : (place : ℕ) (old mid new : Noted) → Quiet place old mid → Quiet place mid new → Quiet place old new
quiet_then place old mid new first second = record {
  notes = first.notes ++ second.notes;
  noted = second.noted ∙ ap (λ (m : List Made). m ++ second.notes) first.noted ∙ append_assoc old.made first.notes second.notes;
  none = media_both place first.notes second.notes ∙ (λ i. first.none i ++ second.none i);
}

quiet_note : (place : ℕ) (old new : Noted) (made : Made) → media_in made ≡ [] → new ≡ note made old → Quiet place old new
quiet_note place old new made none is = record {
  notes = made ∷ [];
  noted = ap (λ (n : Noted). n.made) is;
  none = one_none place made [] none;
}

-- ---- ticks

if_ticked : (plan : PlanView) (now peer place : ℕ) (all : Bool) (old new : Noted) → TicksIfDue plan now all peer old new
    → Quiet place old new
if_ticked plan now peer place all old new ticks = elim (cases_Bool (is_due all peer old)) [
  | inl e ↦
      let traces = (ticks.due e).traces in
      let range = range_of (counts_of plan.peers) peer in
      record {
        notes = traces.steps;
        noted = traces.noted;
        none = none_at place traces.steps
            (ticks_carry_none (moment plan now) peer range.first range.count traces.steps (ticks.due e).to traces.trace);
      }
  | inr e ↦ quiet_same place old new (ticks.left_out e)
]

ticks_quiet : (plan : PlanView) (now place : ℕ) (all : Bool) (peers : List ℕ) (old new : Noted)
    → TicksDue plan now all peers old new
    → Quiet place old new
ticks_quiet plan now place all [] old new ticks = quiet_same place old new ticks
ticks_quiet plan now place all (peer ∷ rest) old new ticks =
    quiet_then place old ticks.0 new (if_ticked plan now peer place all old ticks.0 ticks.1)
    (ticks_quiet plan now place all rest ticks.0 new ticks.2)

-- ---- outboxes

hands_quiet : (place peer : ℕ) (to : Endpoint) (outs : List (List ℕ)) (old new : Noted) (before after : List Parcel)
    → HandsOut peer to outs old new before after → Quiet place old new
hands_quiet place peer to [] old new before after hands = quiet_same place old new hands.0
hands_quiet place peer to (out ∷ earlier) old new before after hands =
    quiet_then place old hands.0 new (hands_quiet place peer to earlier old hands.0 before hands.1 hands.2)
    (quiet_note place hands.0 new (mades.TakeOut peer (Some out)) refl hands.3)

ended_quiet : (place peer taken : ℕ) (mid new : Noted) → HasEmptied peer taken mid new → Quiet place mid new
ended_quiet place peer taken mid new (inl full) = quiet_same place mid new full.1
ended_quiet place peer taken mid new (inr none) = quiet_note place mid new (mades.TakeOut peer None) refl none.1

if_emptied : (place peer : ℕ) (all : Bool) (to : Endpoint) (old new : Noted) (before after : List Parcel)
    → EmptiesIfDue all peer to old new before after → Quiet place old new
if_emptied place peer all to old new before after (inl empties) =
    quiet_then place old empties.mid new (hands_quiet place peer to empties.outs old empties.mid before after empties.hands)
    (ended_quiet place peer _ empties.mid new empties.ended)
if_emptied place peer all to old new before after (inr left) = quiet_same place old new left.1

empties_quiet : (plan : PlanView) (place : ℕ) (all : Bool) (peers : List ℕ) (old new : Noted) (before after : List Parcel)
    → EmptiesDue plan all peers old new before after → Quiet place old new
empties_quiet plan place all [] old new before after empties = quiet_same place old new empties.0
empties_quiet plan place all (peer ∷ rest) old new before after empties =
    quiet_then place old empties.0 new (if_emptied place peer all empties.2 old empties.0 before empties.1 empties.4)
    (empties_quiet plan place all rest empties.0 new empties.1 after empties.5)

-- ---- turns

-- the notes of a turn behind those of its datagrams have no media
turn_quiet : (intake : Intake) (plan : PlanView) (peers : List ℕ) (all : Bool) (turn : TurnView) (was left : Option Parcel)
    (counted now_counted : ℕ) (old new : Noted) (before after : Passed) (place : ℕ)
    (makes : MakesTurn intake plan peers all turn was left counted now_counted old new before after) → Quiet place makes.taken new
turn_quiet intake plan peers all turn was left counted now_counted old new before after place makes =
    quiet_then place makes.taken makes.ticked new (ticks_quiet plan turn.now place all peers makes.taken makes.ticked makes.ticks)
    (empties_quiet plan place all peers makes.ticked new before.went after.went makes.empties)

turns_later : (intake : Intake) (plan : PlanView) (peers : List ℕ) (turns : List TurnView) (left : Option Parcel) (received : ℕ)
    (old new : Noted) (first now : Passed) → MakesAllTurns intake plan peers turns left received old new first now
    → IsLater old new
turns_later intake plan peers [] left received old new first now run = subst (IsLater old) (sym run.same) (later_same old)
turns_later intake plan peers (turn ∷ earlier) left received old new first now run =
    let makes = run.makes in
    let rest = turn_quiet intake plan peers run.all turn run.was left run.counted received run.mid new run.between now 0 makes in
    later_on old run.mid new (turns_later intake plan peers earlier run.was run.counted old run.mid first run.between run.before)
    (later_on run.mid makes.taken new (takes_later plan turn makes.takes.arrivals run.mid makes.taken makes.takes.taken)
    (rest.notes, rest.noted))

module _ (spans : (octets : List ℕ) (peer : ℕ) (steps : List Made) (before after : List PeerView)
    → Carries peer octets [] [] steps
    → Follow steps before after → (place : ℕ) → AreSpans steps octets 0 (media_at place steps)) (plan : PlanView)
    (place : ℕ) where
  -- nothing was noted of a datagram
  none_ordered : (arrival : Parcel) (before : List Parcel) (old mid new : Noted) (media : List OrderedMedia) → new ≡ mid
      → AllOrder plan place before old mid media → AllOrder plan place (arrival ∷ before) old new media
  none_ordered arrival before old mid new media same orders =
      (mid, media, [], orders, inl (same, refl), sym (append-nil media))

  pub all_order : (turn : TurnView) (arrivals : List Parcel) (old new : Noted) (trail : List Made) (before after : List PeerView)
      → TakesAll plan turn arrivals old new → new.made ≡ old.made ++ trail → Follow trail before after
      → AllOrder plan place arrivals old new (media_at place trail)
  all_order turn [] old new trail before after takes noted follow =
      (takes, ap (media_at place) (none_noted old.made trail (sym (ap (λ (n : Noted). n.made) takes) ∙ noted)))
  all_order turn (arrival ∷ earlier) old new trail before after takes noted follow =
      let none : new ≡ takes.0 → AllOrder plan place (arrival ∷ earlier) old new (media_at place trail) = λ same.
      none_ordered arrival earlier old takes.0 new (media_at place trail) same
      (all_order turn earlier old takes.0 trail before after takes.1 (sym (ap (λ (n : Noted). n.made) same) ∙ noted) follow) in
      elim takes.2.heard [
        | inl away ↦ none (takes.2.away away)
        | inr heard ↦ elim (heard_carries plan arrival.endpoint _ takes.0 new heard) [
          | inl same ↦ none same
          | inr known ↦
              let own = known.2 in
              let later = takes_later plan turn earlier old takes.0 takes.1 in
              let whole : trail ≡ later.0 ++ own.notes = parts old takes.0 new trail later.0 own.notes noted later.1 own.noted in
              let split = both later.0 own.notes before after (subst (λ (t : List Made). Follow t before after) whole follow) in (
                takes.0,
                media_at place later.0,
                media_at place own.notes,
                all_order turn earlier old takes.0 later.0 before split.mid takes.1 later.1 split.first,
                inr (
                  known.0,
                  known.1,
                  record {
                    notes = own.notes;
                    noted = own.noted;
                    media_is = refl;
                    spans = spans arrival.octets known.0 own.notes split.mid after own.carries split.second place;
                  },
                ),
                ap (media_at place) whole ∙ media_both place later.0 own.notes,
              )
        ]
      ]

  pub turns_order : (intake : Intake) (peers : List ℕ) (turns : List TurnView) (left : Option Parcel) (received : ℕ)
      (old new : Noted)
      (first now : Passed) (run : MakesAllTurns intake plan peers turns left received old new first now) (trail : List Made)
      (before after : List PeerView) → new.made ≡ old.made ++ trail → Follow trail before after
      → TurnsOrder plan place (arrivals_of intake plan peers turns left received old new first now run) old (media_at place trail)
  turns_order intake peers [] left received old new first now run trail before after noted follow =
      ap (media_at place) (none_noted old.made trail (sym (ap (λ (n : Noted). n.made) run.same) ∙ noted))
  turns_order intake peers (turn ∷ earlier) left received old new first now run trail before after noted follow =
      let makes = run.makes in
      let sooner = turns_later intake plan peers earlier run.was run.counted old run.mid first run.between run.before in
      let own = takes_later plan turn makes.takes.arrivals run.mid makes.taken makes.takes.taken in
      let rest = turn_quiet intake plan peers run.all turn run.was left run.counted received run.mid new run.between now place
      makes in
      let turned : new.made ≡ run.mid.made ++ (own.0 ++ rest.notes) =
      rest.noted ∙ ap (λ (m : List Made). m ++ rest.notes) own.1 ∙ append_assoc run.mid.made own.0 rest.notes in
      let whole : trail ≡ sooner.0 ++ (own.0 ++ rest.notes) =
      parts old run.mid new trail sooner.0 (own.0 ++ rest.notes) noted sooner.1 turned in
      let split = both sooner.0 (own.0 ++ rest.notes) before after (subst
      (λ (t : List Made). Follow t before after) whole follow) in
      let again = both own.0 rest.notes split.mid after split.second in (
        run.mid,
        makes.taken,
        media_at place sooner.0,
        media_at place own.0,
        turns_order intake peers earlier run.was run.counted old run.mid first run.between run.before sooner.0 before split.mid
            sooner.1 split.first,
        all_order turn makes.takes.arrivals run.mid makes.taken own.0 split.mid again.mid makes.takes.taken own.1 again.first,
        ap (media_at place) whole ∙ media_both place sooner.0 (own.0 ++ rest.notes)
            ∙ ap (λ (l : List OrderedMedia). media_at place sooner.0 ++ l) (media_both place own.0 rest.notes
            ∙ ap (λ (l : List OrderedMedia). media_at place own.0 ++ l) rest.none ∙ append-nil (media_at place own.0)),
      )
