-- The media that orders pass on in the call of a datagram is spans of it, in its order.
use Rattle.std.proofs.Common.{ℕ, ◌≡◌, ◌≤◌, zero, suc, ◌+◌, Bool, true, false, cond, List, [], ◌∷◌, ◌++◌}
use Rattle.std.proofs.Common.{Some, Ok, Err, length, refl, sym, subst, ◌∙◌, arith}
use Rattle.std.specs.Prelude.{Contains}
use Rattle.std.specs.List.{AllByRecursion}
use Rattle.call_book.specs.declared.leg_name.LegName.{LegName}
use Rattle.call_signals.specs.declared.order.Command.TheVariants as commands
use Rattle.call_signals.specs.declared.signal.MediaSpan.{MediaSpan}
use Rattle.call_signals.specs.declared.signal.Signal.{Signal}
use Rattle.call_signals.specs.declared.signal.Signal.TheVariants as signals
use Rattle.iax_frames.specs.Datagram.{Spells}
use Rattle.iax_frames.specs.FullFrame.{FullFrame}
use Rattle.iax_frames.specs.declared.datagram.Datagram.{Datagram}
use Rattle.laws_of_peers.specs.Followed.{Follow, LeadsAll, place_of}
use Rattle.laws_of_peers.specs.Trails.{OrderedMedia, is_at, media_at, media_in}
use Rattle.step_log.specs.declared.made.Made.{Made}
use Rattle.step_log.specs.declared.made.Made.TheVariants as mades
use Rattle.peer_lock.specs.Arrivals.{datagram_step}
use Rattle.laws_of_peers.specs.Ascending.{Ascends, HasNoSpan}
use Rattle.peer_lock.specs.CarriedMedia.{CarriesItsOwn, LiesWithin}
use Rattle.peer_lock.specs.HandedUp.{HandedUp}
use Rattle.peer_lock.specs.Openings.{opens_in}
use Rattle.peer_lock.specs.Peer.{PeerView}
use Rattle.peer_lock.specs.declared.steps.Step.{Step}
use Rattle.laws_of_workers.specs.Carried.{Carries, CarriesAt, PassesOn}
use Rattle.laws_of_workers.specs.CarriedAcross.{AreSpans, HandsUp, IsSpan}

abbrev Signals : Type 0
Signals = List (LegName × Signal)

-- ---- signals that wait

lower : (at other : ℕ) (up : Signals) → at ≤ other → Ascends other up → Ascends at up
lower at other [] le ascends = tt
lower at other ((name, signals.Media span) ∷ up) le ascends =
    let start : at ≤ span.start = omega (arith, le, ascends.0) in (start, ascends.1, ascends.2)
lower at other ((name, signal) ∷ up) le ascends = lower at other up le ascends

-- media that the noted step of a datagram with these octets handed up at this leg
abbrev IsHanded : List Made → List ℕ → LegName × Signal → Type 0
IsHanded full octets (leg, signals.Media span) = HandsUp full octets leg span
IsHanded full octets (leg, signal) = Unit {0}

-- signals that ascend from a place; all their media lies within a datagram with these octets, whose step handed it up
record Waits (full : List Made) (octets : List ℕ) (at : ℕ) (up : Signals) : Type 0 where
  ascends : Ascends at up
  within : AllByRecursion (LiesWithin (length octets)) up
  handed : AllByRecursion (IsHanded full octets) up

-- the signals behind those that are passed over
behind : (full : List Made) (octets : List ℕ) (at : ℕ) (over up : Signals) → Waits full octets at (over ++ up)
    → Waits full octets at up
behind full octets at [] up waits = waits
behind full octets at ((name, signals.Media span) ∷ over) up waits =
    let le : at ≤ span.end = omega (arith, waits.ascends.0, waits.ascends.1) in
    behind full octets at over up (record {
      ascends = lower at span.end (over ++ up) le waits.ascends.2;
      within = waits.within.1;
      handed = waits.handed.1;
    })
behind full octets at ((name, signal) ∷ over) up waits =
    behind full octets at over up (record { ascends = waits.ascends; within = waits.within.1; handed = waits.handed.1 })

-- signals without media
none_wait : (full : List Made) (octets : List ℕ) (at : ℕ) (up : Signals) → AllByRecursion HasNoSpan up
    → Waits full octets at up
none_wait full octets at [] none = record { ascends = tt; within = tt; handed = tt }
none_wait full octets at ((name, signals.Media span) ∷ up) none = absurd none.0
none_wait full octets at ((name, signal) ∷ up) none =
    let rest = none_wait full octets at up none.1 in
    record { ascends = rest.ascends; within = (tt, rest.within); handed = (tt, rest.handed) }

-- ---- lists

there : {A : Type 0} (first : A) (rest : List A) (x : A) → Contains rest x → Contains (first ∷ rest) x
there first rest x found = (suc found.0, omega (arith, found.1), found.2)

begins : {A : Type 0} (first : A) (rest : List A) → Contains (first ∷ rest) first
begins first rest = (zero, omega arith, refl)

-- what the step of a datagram handed up
all_handed : (full : List Made) (octets : List ℕ) (peer now : ℕ) (step : Step) (onwards : HandedUp)
    → Contains full (mades.Datagram peer octets now (Ok step) onwards) → (up : Signals)
    → ((x : LegName × Signal) → Contains up x → Contains onwards.signals x) → AllByRecursion (IsHanded full octets) up
all_handed full octets peer now step onwards noted [] among = tt
all_handed full octets peer now step onwards noted ((leg, signals.Media span) ∷ up) among = (
  record {
    peer = peer;
    now = now;
    step = step;
    onwards = onwards;
    noted = noted;
    signal = among (leg, signals.Media span) (begins (leg, signals.Media span) up);
  },
  all_handed full octets peer now step onwards noted up (λ x found. among x (there (leg, signals.Media span) up x found)),
)
all_handed full octets peer now step onwards noted ((leg, signal) ∷ up) among =
    (tt, all_handed full octets peer now step onwards noted up (λ x found. among x (there (leg, signal) up x found)))

-- ---- a step

-- the media of a step, if it is made at a place
abbrev here : ℕ → Made → List OrderedMedia
here place step = cond (is_at place (place_of step)) (media_in step) []

-- the signals that wait after a step, and the media of the step ahead of the media of later ones
record Onward (full : List Made) (octets : List ℕ) (at place : ℕ) (step : Made) (further : Signals) : Type 0 where
  next : ℕ
  waits : Waits full octets next further
  spans : (others : List OrderedMedia) → AreSpans full octets next others → AreSpans full octets at (here place step ++ others)

spans_lower : (full : List Made) (octets : List ℕ) (at other : ℕ) (media : List OrderedMedia) → at ≤ other
    → AreSpans full octets other media → AreSpans full octets at media
spans_lower full octets at other [] le spans = tt
spans_lower full octets at other (ordered ∷ others) le spans =
    let one = spans.1 in
    let start : at ≤ spans.0.start = omega (arith, le, one.behind) in (
      spans.0,
      record {
        leg = one.leg;
        handed = one.handed;
        partner = one.partner;
        behind = start;
        forward = one.forward;
        within = one.within;
        media = one.media;
      },
      spans.2,
    )

no_more : (full : List Made) (octets : List ℕ) (at : ℕ) (b : Bool) (others : List OrderedMedia) → AreSpans full octets at others
    → AreSpans full octets at (cond b [] [] ++ others)
no_more full octets at true others spans = spans
no_more full octets at false others spans = spans

-- a step that isn't an order of media
quiet : (full : List Made) (octets : List ℕ) (at next place : ℕ) (step : Made) (further : Signals) → media_in step ≡ []
    → at ≤ next
    → Waits full octets next further → Onward full octets at place step further
quiet full octets at next place step further none le waits = record {
  next = next;
  waits = waits;
  spans = λ others spans.
      subst (λ (l : List OrderedMedia). AreSpans full octets at (cond (is_at place (place_of step)) l [] ++ others)) (sym none)
      (no_more full octets at (is_at place (place_of step)) others (spans_lower full octets at next others le spans));
}

-- an order of media, which was obeyed or refused
passes : (full : List Made) (octets : List ℕ) (at : ℕ) (earlier : List Made) (waiting further : Signals) (name : LegName)
    (media : List ℕ) → AllByRecursion (Contains full) earlier → Waits full octets at waiting
    → PassesOn octets earlier waiting further name media
    → (span : MediaSpan) × IsSpan full octets at (record { name = name; media = media }) span
    × Waits full octets span.end further
passes full octets at earlier waiting further name media found waits passing =
    let rest = behind full octets at passing.passed_over ((passing.leg, signals.Media passing.span) ∷ further)
    (subst (λ (up : Signals). Waits full octets at up) passing.waits waits) in
    let named = subst (λ (notes : List Made). AllByRecursion (Contains full) notes) passing.named found in (
      passing.span,
      record {
        leg = passing.leg;
        handed = rest.handed.0;
        partner = named.0;
        behind = rest.ascends.0;
        forward = rest.ascends.1;
        within = rest.within.0.1;
        media = passing.media_is;
      },
      record { ascends = rest.ascends.2; within = rest.within.1; handed = rest.handed.1 },
    )

obeyed : (full : List Made) (octets : List ℕ) (at : ℕ) (b : Bool) (ordered : OrderedMedia) (span : MediaSpan)
    (others : List OrderedMedia)
    → IsSpan full octets at ordered span → AreSpans full octets span.end others
    → AreSpans full octets at (cond b (ordered ∷ []) [] ++ others)
obeyed full octets at true ordered span others is spans = (span, is, spans)
obeyed full octets at false ordered span others is spans =
    let le : at ≤ span.end = omega (arith, is.behind, is.forward) in spans_lower full octets at span.end others le spans

module _ (within : (first : ℕ) (peer : PeerView) (octets : List ℕ) (datagram : Datagram) (now : ℕ) → Spells octets datagram
    → CarriesItsOwn (length octets) (datagram_step first peer datagram now))
    (ascends : (first : ℕ) (peer : PeerView) (datagram : Datagram) (now : ℕ)
    → Ascends 0 (datagram_step first peer datagram now).signals)
    (calls_in : (peer : PeerView) (name : LegName) (frame : FullFrame) (now : ℕ) (challenge : List ℕ)
    → AllByRecursion HasNoSpan (opens_in peer name frame now challenge).signals) (place : ℕ) (full : List Made)
    (octets : List ℕ) (peer : ℕ) where
  onward : (step : Made) (earlier : List Made) (waiting further : Signals) (at : ℕ) (old new : List PeerView)
      → Contains full step → AllByRecursion (Contains full) earlier → (earlier ≡ [] → at ≡ 0) → Waits full octets at waiting
      → CarriesAt peer octets earlier waiting step further → LeadsAll (place_of step) step old new
      → Onward full octets at place step further
  onward (mades.Datagram other received now (Ok step) onwards) earlier waiting further at old new among found begun waits
      carries leads =
      let first = leads.leads.first in
      let before : PeerView = leads.before in
      let datagram : Datagram = leads.leads.datagram in
      let up : onwards.signals ≡ (datagram_step first before datagram now).signals = leads.leads.signals in
      let own = within first before received datagram now leads.leads.spelled in
      let start : at ≡ 0 = begun carries.2 in
      let none : at ≤ 0 = omega (arith, start) in
      let handed : Waits full received 0 onwards.signals = record {
        ascends = subst (λ (s : Signals). Ascends 0 s) (sym up) (ascends first before datagram now);
        within = subst (λ (s : Signals). AllByRecursion (LiesWithin (length received)) s) (sym up) own.within;
        handed = all_handed full received other now step onwards among onwards.signals (λ x found. found);
      } in
      quiet full octets at 0 place (mades.Datagram other received now (Ok step) onwards) further refl none
      (subst (λ (s : Signals). Waits full octets 0 s) (sym carries.3)
      (subst (λ (o : List ℕ). Waits full o 0 onwards.signals) carries.1 handed))
  onward (mades.Datagram other received now (Err error) onwards) earlier waiting further at old new among found begun waits
      carries
      leads =
      quiet full octets at at place (mades.Datagram other received now (Err error) onwards) further refl (omega arith)
      (subst (λ (s : Signals). Waits full octets at s) (sym carries.3) (none_wait full octets at [] tt))
  onward (mades.OpenIn other name head payload now challenge (Ok step) onwards) earlier waiting further at old new among found
      begun
      waits
      carries leads =
      let frame : FullFrame = record { head = head; payload = payload } in
      let before : PeerView = leads.before in
      quiet full octets at at place (mades.OpenIn other name head payload now challenge (Ok step) onwards) further refl
      (omega arith)
      (subst (λ (s : Signals). Waits full octets at s) (sym (carries.2 ∙ leads.leads.signals))
      (none_wait full octets at (opens_in before name frame now challenge).signals
      (calls_in before name frame now challenge)))
  onward (mades.OpenIn other name head payload now challenge (Err error) onwards) earlier waiting further at old new among
      found begun
      waits carries leads =
      quiet full octets at at place (mades.OpenIn other name head payload now challenge (Err error) onwards) further refl
      (omega arith)
      (subst (λ (s : Signals). Waits full octets at s) (sym carries.2) (none_wait full octets at [] tt))
  onward (mades.Order other name (commands.Media tt) media now (Ok step)) earlier waiting further at old new among found begun
      waits
      carries leads =
      let passing = passes full octets at earlier waiting further name media found waits carries.1 in
      record {
        next = passing.0.end;
        waits = passing.2;
        spans = λ others spans.
            obeyed full octets at (is_at place (Some other)) (record { name = name; media = media }) passing.0 others passing.1
            spans;
      }
  onward (mades.Order other name (commands.Media tt) media now (Err error)) earlier waiting further at old new among found
      begun waits
      carries leads =
      let passing = passes full octets at earlier waiting further name media found waits carries.1 in
      let le : at ≤ passing.0.end = omega (arith, passing.1.behind, passing.1.forward) in
      quiet full octets at passing.0.end place (mades.Order other name (commands.Media tt) media now (Err error)) further refl le
      passing.2
  onward (mades.Order other name kind media now (Ok step)) earlier waiting further at old new among found begun waits carries
      leads =
      quiet full octets at at place (mades.Order other name kind media now (Ok step)) further refl (omega arith)
      (subst (λ (s : Signals). Waits full octets at s) (sym carries.1) waits)
  onward (mades.Order other name kind media now (Err error)) earlier waiting further at old new among found begun waits carries
      leads =
      quiet full octets at at place (mades.Order other name kind media now (Err error)) further refl (omega arith)
      (subst (λ (s : Signals). Waits full octets at s) (sym carries.1) waits)
  onward step earlier waiting further at old new among found begun waits carries leads =
      quiet full octets at at place step further refl (omega arith)
      (subst (λ (s : Signals). Waits full octets at s) (sym carries) waits)

  -- ---- all steps of a call

  spans_from : (steps earlier : List Made) (waiting : Signals) (at : ℕ) (old new : List PeerView)
      → AllByRecursion (Contains full) earlier → ((x : Made) → Contains steps x → Contains full x) → (earlier ≡ [] → at ≡ 0)
      → Waits full octets at waiting → Carries peer octets earlier waiting steps → Follow steps old new
      → AreSpans full octets at (media_at place steps)
  spans_from [] earlier waiting at old new found all begun waits carries follow = tt
  spans_from (step ∷ rest) earlier waiting at old new found all begun waits carries follow =
      let one = onward step earlier waiting carries.0 at old follow.0 (all step (begins step rest)) found begun waits carries.1
      follow.1 in
      one.spans (media_at place rest)
      (spans_from rest (step ∷ earlier) carries.0 one.next follow.0 new (all step (begins step rest), found)
      (λ x among. all x (there step rest x among)) (λ is. cc) one.waits carries.2 follow.2)

pub call_spans : (within : (first : ℕ) (peer : PeerView) (octets : List ℕ) (datagram : Datagram) (now : ℕ)
    → Spells octets datagram
    → CarriesItsOwn (length octets) (datagram_step first peer datagram now))
    (ascends : (first : ℕ) (peer : PeerView) (datagram : Datagram) (now : ℕ)
    → Ascends 0 (datagram_step first peer datagram now).signals)
    (calls_in : (peer : PeerView) (name : LegName) (frame : FullFrame) (now : ℕ) (challenge : List ℕ)
    → AllByRecursion HasNoSpan (opens_in peer name frame now challenge).signals)
    (octets : List ℕ) (peer : ℕ) (steps : List Made) (before after : List PeerView) → Carries peer octets [] [] steps
    → Follow steps before after → (place : ℕ) → AreSpans steps octets 0 (media_at place steps)
call_spans within ascends calls_in octets peer steps before after carries follow place =
    spans_from within ascends calls_in place steps octets peer steps [] [] 0 before after tt (λ x among. among) (λ is. refl)
    (record { ascends = tt; within = tt; handed = tt }) carries follow
