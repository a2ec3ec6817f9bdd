-- Laws of the datagrams that a turn takes.
use Rattle.std.proofs.Common.{◌≡◌, ℕ, suc, ◌+◌, ◌≤◌, ◌⊎◌, inl, inr, Bool, true, false, List, [], ◌∷◌, length, map, Option, None}
use Rattle.std.proofs.Common.{Some, Result, Ok, Err, Bor, refl, sym, ap, subst, ◌∙◌, arith, length-append, add-zero, zero-add}
use Rattle.std.proofs.Common.{if◌then◌else◌}
use Rattle.std.proofs.lemmas.List.{length-map}
use Rattle.std.proofs.lemmas.List.Sums.{sum_by-cons}
use Rattle.std.specs.List.{flat_map}
use Rattle.std.specs.Prelude.{◌++◌, sum_by, IsSome, OnErr, is_err, option_map, option_to_list}
use Rattle.std.proofs.Common.{append_assoc, append-nil}
use Rattle.iax_frames.specs.TrunkFrame.{TrunkEntry, TrunkFrame, SpellsTrunk, entry, entry_head, entry_item, trunk_head}
use Rattle.exchange_core.specs.declared.watch.Event.{Event}
use Rattle.step_log.specs.Notes.{Noted}
use Rattle.peer_plan.specs.Plan.{PlanView}
use Rattle.peer_plan.specs.declared.endpoint.Endpoint.{Endpoint}
use Rattle.udp_wires.specs.Parcels.{Parcel}
use Rattle.udp_workers.specs.Intake.{BeginsWith, Fills, IsLoaded, IsTaken, IsWithin, Leaves, TakesAll, TakesWhatCame}
use Rattle.udp_workers.specs.Intake.{TurnView, Weigh, fits, in_order, media_octets, no_weight, plus, with_weight}
use Rattle.udp_workers.specs.Receipts.{Reports}
use Rattle.udp_workers.specs.Runs.{ReportsAll, TakesAndReports}
use Rattle.udp_workers.specs.declared.intake.Intake.{Intake}
use Rattle.udp_workers.specs.declared.intake.Intake.TheVariants.{Whole, Bounded}
use Rattle.udp_workers.specs.declared.intake.Weight.{Weight}

-- ---- the weight of a trunk frame

head_long : (e : TrunkEntry) (timestamp : Option ℕ) → 1 ≤ length (entry_head e timestamp)
head_long e None = omega arith
head_long e (Some timestamp) = omega arith

one_more : (head media n m all sum whole : ℕ) → 1 ≤ head → n + m ≤ all → sum ≡ media + m → whole ≡ head + media + all
    → suc n + sum ≤ whole
one_more head media n m all sum whole some rest is long = omega arith

-- each entry is an octet and its media at least
entries_short : (entries : List TrunkEntry) → length entries + media_octets entries ≤ length (flat_map entry entries)
entries_short [] = omega arith
entries_short (e ∷ rest) =
    let some = head_long e e.timestamp in
    let later = entries_short rest in
    let whole = length-append (entry e) (flat_map entry rest) ∙ ap (λ n. n + length (flat_map entry rest))
    (length-append (entry_head e e.timestamp) e.media) in
    one_more (length (entry_head e e.timestamp)) (length e.media) (length rest) (media_octets rest) (length (flat_map entry rest))
    _ _
    some later (sum_by-cons (λ (e : TrunkEntry). length e.media) e rest) whole

-- a trunk frame has no more entries, and no more octets of media, than octets
pub trunk_short : (octets : List ℕ) (t : TrunkFrame) → SpellsTrunk octets t → length t.entries + media_octets t.entries
    ≤ length octets
trunk_short octets t s =
    in_whole (length octets) (length s.rest) (length (flat_map entry t.entries)) (length t.entries + media_octets t.entries)
    (ap length s.whole ∙ length-append (trunk_head t.command_data t.timestamp) s.rest) (ap length s.entries.whole)
    (entries_short t.entries)
  where
    in_whole : (whole rest all n : ℕ) → whole ≡ 8 + rest → rest ≡ all → n ≤ all → n ≤ whole
    in_whole whole rest all n is same few = omega arith

items_octets : (entries : List TrunkEntry) → media_octets entries ≡ sum_by (λ (item : ℕ × Option ℕ × List ℕ). length item.2)
    (map entry_item entries)
items_octets [] = refl
items_octets (e ∷ rest) =
    sum_by-cons (λ (e : TrunkEntry). length e.media) e rest ∙ ap (λ n. length e.media + n) (items_octets rest)
    ∙ sym (sum_by-cons (λ (item : ℕ × Option ℕ × List ℕ). length item.2) (entry_item e) (map entry_item rest))

-- an entry is weighed
pub one_weighed : (left next : List TrunkEntry) (item : ℕ × Option ℕ × List ℕ) → map entry_item left ≡ item ∷ map entry_item next
    → (length left ≡ length next + 1) × (media_octets left ≡ length item.2 + media_octets next)
one_weighed left next item gone = (
  counted _ _ (sym (length-map left entry_item) ∙ ap length gone) (length-map next entry_item),
  items_octets left ∙ ap (sum_by (λ (item : ℕ × Option ℕ × List ℕ). length item.2)) gone
      ∙ sum_by-cons (λ (item : ℕ × Option ℕ × List ℕ). length item.2) item (map entry_item next)
      ∙ ap (λ n. length item.2 + n) (sym (items_octets next)),
)
  where
    counted : (n m : ℕ) → n ≡ suc (length (map entry_item next)) → length (map entry_item next) ≡ m → n ≡ m + 1
    counted n m all rest = omega arith

-- ---- the datagrams that a turn has taken so far

-- the weight of the datagrams taken
abbrev pub IsLoad : Intake → List Parcel → Option Weight → Type 0
IsLoad Whole arrivals taken = Unit {0}
IsLoad Bounded [] taken = taken ≡ None
IsLoad Bounded (arrival ∷ before) None = ⊥
IsLoad Bounded (arrival ∷ before) (Some weight) = Weigh (arrival ∷ before) weight × ((before ≡ []) ⊎ (fits weight ≡ true))

-- Datagrams were taken since the turn began, and this is their weight. The datagram that was left to the turn was the first
-- of them; if there is none, it is still there.
pub record TakesSoFar (observed : Event → Type 0) (intake : Intake) (plan : PlanView) (turn : TurnView) (was here : Option Parcel)
    (load : Option Weight)
    (count counted now_counted : ℕ)
    (old new : Noted) (before after : List Parcel) : Type 0 where
  pub arrivals : List Parcel
  pub counts : length arrivals ≡ count
  pub received : now_counted ≡ counted + length arrivals
  pub first : (arrivals ≡ []) × (here ≡ was) ⊎ BeginsWith was arrivals × (here ≡ None)
  pub loaded : IsLoad intake arrivals load
  pub taken : TakesAll plan turn arrivals old new
  pub reports : ReportsAll observed plan turn arrivals old new taken
  pub what_came : TakesWhatCame was here arrivals before after

-- ---- what the wire gave

pub fills_still : (was : Option Parcel) (before after : List Parcel) → after ≡ before ++ [] → Fills was was before after
fills_still was before after same = record { since = []; came = same; filled = append-nil (option_to_list was) }

pub fills_not : (was : Option Parcel) (wire : List Parcel) → Fills was was wire wire
fills_not was wire = fills_still was wire wire (sym (append-nil wire))

pub fills_one : (arrival : Parcel) (before after : List Parcel) → after ≡ before ++ arrival ∷ []
    → Fills None (Some arrival) before after
fills_one arrival before after one = record { since = arrival ∷ []; came = one; filled = refl }

what_came_none : (was : Option Parcel) (wire : List Parcel) → TakesWhatCame was was [] wire wire
what_came_none was wire = record { since = []; came = sym (append-nil wire); whole = append-nil (option_to_list was) }

-- a datagram more came, or none
pub what_came_more : (was here next : Option Parcel) (arrivals first before after : List Parcel)
    → TakesWhatCame was here arrivals first before → Fills here next before after
    → TakesWhatCame was next arrivals first after
what_came_more was here next arrivals first before after came fills = record {
  since = came.since ++ fills.since;
  came = fills.came ∙ ap (λ (l : List Parcel). l ++ fills.since) came.came ∙ append_assoc first came.since fills.since;
  whole =
      sym (append_assoc (option_to_list was) came.since fills.since)
      ∙ ap (λ (l : List Parcel). l ++ fills.since) came.whole
      ∙ append_assoc (in_order arrivals) (option_to_list here) fills.since
      ∙ ap (λ (l : List Parcel). in_order arrivals ++ l) fills.filled;
}

-- it was taken
what_came_taken : (was : Option Parcel) (arrival : Parcel) (arrivals first now : List Parcel)
    → TakesWhatCame was (Some arrival) arrivals first now
    → TakesWhatCame was None (arrival ∷ arrivals) first now
what_came_taken was arrival arrivals first now came = record {
  since = came.since;
  came = came.came;
  whole = came.whole ∙ sym (append-nil (in_order arrivals ++ arrival ∷ []));
}

-- ---- the weight so far

pub load_none : (intake : Intake) → IsLoad intake [] None
load_none Whole = tt
load_none Bounded = refl

alone : (one : Weight) → one ≡ plus no_weight one
alone one = λ i. record {
  entries = (sym (zero-add one.entries)) i;
  octets = (sym (zero-add one.octets)) i;
  openings = (sym (zero-add one.openings)) i;
}

some_same : (one other : Weight) → Some one ≡ Some other → one ≡ other
some_same one other e = cc

not_none : (one : Weight) → None ≡ Some one → ⊥
not_none one e = cc

-- the first datagram of a turn fits
first_fits : (load : Option Weight) (one : Weight) (after : Option Weight) → load ≡ None → after ≡ with_weight load one
    → after ≡ Some one
first_fits load one after none is = is ∙ ap (λ l. with_weight l one) none

-- one that fits
one_fits : (w one next : Weight) (b : Bool) → fits (plus w one) ≡ b → Some next ≡ (if b then Some (plus w one) else None)
    → (next ≡ plus w one) × (fits (plus w one) ≡ true)
one_fits w one next true is e = (some_same next (plus w one) e, is)
one_fits w one next false is e = absurd (not_none next (sym e))

-- one that doesn't
none_fits : (w one : Weight) (b : Bool) → fits (plus w one) ≡ b → None ≡ (if b then Some (plus w one) else None)
    → fits (plus w one) ≡ false
none_fits w one true is e = absurd (not_none (plus w one) e)
none_fits w one false is e = is

load_more : (intake : Intake) (arrivals : List Parcel) (load : Option Weight) (arrival : Parcel) (next : Weight)
    → IsLoad intake arrivals load → IsLoaded intake load arrival.octets (Some next)
    → IsLoad intake (arrival ∷ arrivals) (Some next)
load_more Whole arrivals load arrival next so_far loaded = tt
load_more Bounded [] load arrival next so_far loaded =
    let same = some_same next loaded.0 (first_fits load loaded.0 (Some next) so_far loaded.2) in
    ((loaded.0, no_weight, loaded.1, refl, same ∙ alone loaded.0), inl refl)
load_more Bounded (before ∷ rest) None arrival next so_far loaded = absurd so_far
load_more Bounded (before ∷ rest) (Some w) arrival next so_far loaded =
    let fit = one_fits w loaded.0 next (fits (plus w loaded.0)) refl loaded.2 in
    ((loaded.0, w, loaded.1, so_far.0, fit.0), inr (ap fits fit.0 ∙ fit.1))

left_out : (intake : Intake) (arrivals : List Parcel) (load : Option Weight) (arrival : Parcel)
    → IsLoad intake arrivals load → IsLoaded intake load arrival.octets None → Leaves intake arrivals (Some arrival)
left_out Whole arrivals load arrival so_far loaded = not_none no_weight loaded
left_out Bounded [] load arrival so_far loaded = absurd (not_none loaded.0 (first_fits load loaded.0 None so_far loaded.2))
left_out Bounded (before ∷ rest) None arrival so_far loaded = absurd so_far
left_out Bounded (before ∷ rest) (Some w) arrival so_far loaded =
    (w, loaded.0, so_far.0, loaded.1, none_fits w loaded.0 (fits (plus w loaded.0)) refl loaded.2)

some_taken : (intake : Intake) (arrivals : List Parcel) (load : Option Weight) (octets : List ℕ)
    → IsLoad intake arrivals load → IsLoaded intake load octets None → arrivals ≡ [] → ⊥
some_taken Whole arrivals load octets so_far loaded none = not_none no_weight loaded
some_taken Bounded [] load octets so_far loaded none = not_none loaded.0 (first_fits load loaded.0 None so_far loaded.2)
some_taken Bounded (before ∷ rest) load octets so_far loaded none = cc

within_load : (intake : Intake) (arrivals : List Parcel) (load : Option Weight) → IsLoad intake arrivals load
    → length arrivals ≤ 64 → IsWithin intake arrivals
within_load Whole arrivals load so_far few = few
within_load Bounded [] load so_far few = (few, inl (omega arith))
within_load Bounded (arrival ∷ before) None so_far few = absurd so_far
within_load Bounded (arrival ∷ before) (Some w) so_far few =
    elim so_far.1 [
      | inl none ↦ (few, inl (let one = ap length none in omega arith))
      | inr fit ↦ (few, inr (w, so_far.0, fit))
    ]

leaves_none : (intake : Intake) (arrivals : List Parcel) → Leaves intake arrivals None
leaves_none Whole arrivals = tt
leaves_none Bounded arrivals = tt

-- ---- the first datagram

-- one more, behind others
begins_more : (was : Option Parcel) (arrival : Parcel) (arrivals : List Parcel) → BeginsWith was arrivals
    → BeginsWith was (arrival ∷ arrivals)
begins_more None arrival arrivals begins = tt
begins_more (Some held) arrival [] begins = absurd (never held begins)
  where
    never : (held : Parcel) → None ≡ Some held → ⊥
    never held e = cc
begins_more (Some held) arrival (before ∷ rest) begins = begins

-- the first one, which is the one that was left, if there was one
begins_first : (was here : Option Parcel) (arrival : Parcel) → here ≡ was → (IsSome here → Some arrival ≡ here)
    → BeginsWith was (arrival ∷ [])
begins_first None here arrival same kept = tt
begins_first (Some held) here arrival same kept = kept (subst IsSome (sym same) refl) ∙ same

-- If nothing is there, nothing was left: a datagram that was left would still be there.
begins_none : (was here : Option Parcel) (arrivals : List Parcel) → here ≡ was → (IsSome here → None ≡ here)
    → BeginsWith was arrivals
begins_none None here arrivals same kept = tt
begins_none (Some held) here arrivals same kept = absurd (never (kept (subst IsSome (sym same) refl) ∙ same))
  where
    never : None ≡ Some held → ⊥
    never e = cc

-- the fact that holds at an error
pub at_error : {T E : Type 0} (r : Result T E) (P : Type 0) → OnErr r P → is_err r ≡ true → P
at_error (Ok value) P holds wrong = absurd (cc)
at_error (Err error) P holds right = holds

-- no datagram is there
pub not_there : (here : Option Parcel) (found : Option (Endpoint × Bor (List ℕ)))
    → option_map (λ (d : Endpoint × Bor (List ℕ)). record { endpoint = d.0; octets = d.1.now }) found ≡ here → found ≡ None
    → None ≡ here
not_there here found is none = sym (ap (option_map (λ (d : Endpoint × Bor (List ℕ)). record { endpoint = d.0; octets = d.1.now }))
    none) ∙ is

-- ---- a turn

module _ (observed : Event → Type 0) (intake : Intake) (plan : PlanView) (turn : TurnView) (was : Option Parcel) (counted : ℕ) (old
    : Noted)
    (came : List Parcel) where
  pub takes_none : TakesSoFar observed intake plan turn was was None 0 counted counted old old came came
  takes_none = record {
    arrivals = [];
    counts = refl;
    received = sym (add-zero counted);
    first = inl (refl, refl);
    loaded = load_none intake;
    taken = refl;
    reports = tt;
    what_came = what_came_none was came;
  }

  -- a datagram more
  pub takes_one : (here : Option Parcel) (load : Option Weight) (next : Weight) (arrival : Parcel) (count before after : ℕ)
      (mid new : Noted) (seen now : List Parcel)
      → TakesSoFar observed intake plan turn was here load count counted before old mid came seen
      → Fills here (Some arrival) seen now
      → (IsSome here → Some arrival ≡ here)
      → IsLoaded intake load arrival.octets (Some next)
      → IsTaken plan turn arrival mid new
      → Reports observed plan turn.stage turn.now arrival mid new
      → after ≡ before + 1
      → TakesSoFar observed intake plan turn was None (Some next) (count + 1) counted after old new came now
  takes_one here load next arrival count before after mid new seen now so_far fills kept loaded is reported one = record {
    arrivals = arrival ∷ so_far.arrivals;
    counts = let n = so_far.counts in omega arith;
    received = let n = so_far.received in omega arith;
    first = inr (
      elim so_far.first [
        | inl empty ↦ subst (λ arrivals. BeginsWith was (arrival ∷ arrivals)) (sym empty.0)
            (begins_first was here arrival empty.1 kept)
        | inr begun ↦ begins_more was arrival so_far.arrivals begun.0
      ],
      refl,
    );
    loaded = load_more intake so_far.arrivals load arrival next so_far.loaded loaded;
    taken = (mid, so_far.taken, is);
    reports = (so_far.reports, reported);
    what_came = what_came_taken was arrival so_far.arrivals came now (what_came_more was here (Some arrival) so_far.arrivals came
        seen now so_far.what_came fills);
  }

  -- no datagram is there, or the call of the wire failed
  pub takes_no_more : (here : Option Parcel) (load : Option Weight) (count after : ℕ) (new : Noted) (seen now : List Parcel)
      → TakesSoFar observed intake plan turn was here load count counted after old new came seen
      → Fills here None seen now
      → (IsSome here → None ≡ here)
      → count ≤ 64
      → TakesAndReports observed intake plan turn was None counted after old new came now
  takes_no_more here load count after new seen now so_far fills kept few = record {
    takes = record {
      arrivals = so_far.arrivals;
      received = so_far.received;
      first = elim so_far.first [
        | inl empty ↦ begins_none was here so_far.arrivals empty.1 kept
        | inr begun ↦ begun.0
      ];
      within = within_load intake so_far.arrivals load so_far.loaded (let n = so_far.counts in omega arith);
      leaves = leaves_none intake so_far.arrivals;
      taken = so_far.taken;
      what_came = what_came_more was here None so_far.arrivals came seen now so_far.what_came fills;
    };
    reports = so_far.reports;
  }

  -- one doesn't fit any more
  pub takes_what_fits : (here : Option Parcel) (load : Option Weight) (arrival : Parcel) (count after : ℕ) (new : Noted)
      (seen now : List Parcel)
      → TakesSoFar observed intake plan turn was here load count counted after old new came seen
      → Fills here (Some arrival) seen now
      → IsLoaded intake load arrival.octets None
      → count ≤ 64
      → TakesAndReports observed intake plan turn was (Some arrival) counted after old new came now
  takes_what_fits here load arrival count after new seen now so_far fills loaded few = record {
    takes = record {
      arrivals = so_far.arrivals;
      received = so_far.received;
      first = elim so_far.first [
        | inl empty ↦ absurd (some_taken intake so_far.arrivals load arrival.octets so_far.loaded loaded empty.0)
        | inr begun ↦ begun.0
      ];
      within = within_load intake so_far.arrivals load so_far.loaded (let n = so_far.counts in omega arith);
      leaves = left_out intake so_far.arrivals load arrival so_far.loaded loaded;
      taken = so_far.taken;
      what_came = what_came_more was here (Some arrival) so_far.arrivals came seen now so_far.what_came fills;
    };
    reports = so_far.reports;
  }

  -- 64 were taken
  pub takes_64 : (here : Option Parcel) (load : Option Weight) (after : ℕ) (new : Noted) (now : List Parcel)
      → TakesSoFar observed intake plan turn was here load 64 counted after old new came now
      → TakesAndReports observed intake plan turn was here counted after old new came now
  takes_64 here load after new now so_far =
      elim so_far.first [
        | inl empty ↦ absurd (let n = so_far.counts in let none = ap length empty.0 in omega arith)
        | inr begun ↦ subst (λ left. TakesAndReports observed intake plan turn was left counted after old new came now) (sym
            begun.1) (record {
              takes = record {
                arrivals = so_far.arrivals;
                received = so_far.received;
                first = begun.0;
                within = within_load intake so_far.arrivals load so_far.loaded (let n = so_far.counts in omega arith);
                leaves = leaves_none intake so_far.arrivals;
                taken = so_far.taken;
                what_came = subst (λ left. TakesWhatCame was left so_far.arrivals came now) begun.1 so_far.what_came;
              };
              reports = so_far.reports;
            })
      ]
