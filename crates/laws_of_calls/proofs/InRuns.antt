-- Changes one after another are events one after another.
use Rattle.std.specs.Prelude.{option_map}
use Rattle.std.specs.List.{AllByRecursion}
use Rattle.std.proofs.Common.{◌≡◌, false, List, [], ◌∷◌, ◌++◌, refl, sym, ap, subst}
use Rattle.call_book.specs.declared.leg_name.LegName.{LegName}
use Rattle.call_control.specs.Law.{InEveryRun, IsWithinSteps, NoneIsBusy, NoneIsStale, NumbersServeOne}
use Rattle.call_control.specs.Law.{is_spent as is_spent_choice}
use Rattle.call_control.specs.Law.{IsOpened as IsOpenedWorld}
use Rattle.call_control.specs.Scene.{Choice}
use Rattle.call_control.specs.World.{World, Event, Starts, Steps as Makes, happens, run}
use Rattle.peer_lock.specs.Seen.{seen_named}
use Rattle.laws_of_calls.specs.Runs.{Begins, Steps, TakesOut, SetsDraining, Changes, ByBeginning, ByDraining, ByStep, ByTakingOut}
use Rattle.laws_of_calls.specs.Runs.{IsRun, last_of}
use Rattle.laws_of_calls.specs.Spent.{is_spent, called_at, called_by, called_since, called_in, IsWithinSteps as IsStepWithin}
use Rattle.laws_of_calls.specs.Spent.{AreWithinSteps}
use Rattle.laws_of_calls.specs.Stored.{Stored, ArePeers, HaveRanges, IsOpened, IsSeenIn, opened_world}

-- each change is an event, or isn't seen
pub record ChangesAreEvents : Type 0 where
  pub begins : (called : List LegName) (old new : Stored) (world : World) → IsSeenIn called old world → (b : Begins old new)
      → IsSeenIn called new (happens (Starts b.who b.start) world)
  pub steps : (called : List LegName) (old new : Stored) (world : World) → ArePeers old.peers → NoneIsBusy world
      → NoneIsStale world → NumbersServeOne world
      → IsSeenIn called old world → (s : Steps old new) → (choice : Choice)
      × (is_spent s.reply ≡ false → is_spent_choice choice ≡ false)
      × IsSeenIn (called_at s.caller.work.place s.reply ++ called) new (happens (Makes s.who choice) world)
  pub outboxes : (called : List LegName) (old new : Stored) (world : World) → IsSeenIn called old world → TakesOut old new
      → IsSeenIn called new world
  pub drains : (called : List LegName) (old new : Stored) (world : World) → IsSeenIn called old world → SetsDraining old new
      → IsSeenIn called new world
  pub peers : (old new : Stored) → ArePeers old.peers → Changes old new → ArePeers new.peers
  pub ranges : (old new : Stored) → ArePeers old.peers → HaveRanges old → Changes old new → HaveRanges new

-- the requirements of steps, in every run
pub record InRuns : Type 0 where
  pub busy : InEveryRun NoneIsBusy
  pub stale : InEveryRun NoneIsStale
  pub numbers : InEveryRun NumbersServeOne

-- events of the opened world lead to the stored exchange; they stay within the steps of peers if required
pub record IsReached (first : Stored) (within : Type 0) (called : List LegName) (last : Stored) : Type 0 where
  pub events : List Event
  pub spares : within → AllByRecursion IsWithinSteps events
  pub seen : IsSeenIn called last (run events (opened_world first))
  pub peers : ArePeers last.peers

run_more : (events : List Event) (event : Event) (world : World)
    → run (events ++ event ∷ []) world ≡ happens event (run events world)
run_more [] event world = refl
run_more (first ∷ events) event world = run_more events event (happens first world)

all_more : (events : List Event) (event : Event) → AllByRecursion IsWithinSteps events → IsWithinSteps event
    → AllByRecursion IsWithinSteps (events ++ event ∷ [])
all_more [] event all is = (is, tt)
all_more (first ∷ events) event all is = (all.0, all_more events event all.1 is)

pub world_opened : (first : Stored) → IsOpened first → IsOpenedWorld (opened_world first)
world_opened first o = record { book = o.book; no_name = o.no_name; no_leg = refl; idle = o.idle }

at_opening : (first : Stored) (within : Type 0) → IsOpened first → IsReached first within [] first
at_opening first within o = record {
  events = [];
  spares = λ w. tt;
  seen = record {
    book = refl;
    callers = refl;
    legs = record {
      sees = λ place peer at number. sym (ap (option_map seen_named) (o.no_leg place number peer at));
      none = λ place number at. refl;
    };
    outside = tt;
  };
  peers = o.peers;
}

module _ (laws : ChangesAreEvents) (in_runs : InRuns) (first : Stored) (o : IsOpened first) (within : Type 0) where
  one_more : (called names : List LegName) (old new : Stored) (event : Event) (reached : IsReached first within called old)
      → (within → IsWithinSteps event)
      → IsSeenIn names new (happens event (run reached.events (opened_world first))) → ArePeers new.peers
      → IsReached first within names new
  one_more called names old new event reached spares seen are = record {
    events = reached.events ++ event ∷ [];
    spares = λ w. all_more reached.events event (reached.spares w) (spares w);
    seen = subst (IsSeenIn names new) (sym (run_more reached.events event (opened_world first))) seen;
    peers = are;
  }

  changed : (called : List LegName) (old new : Stored) → IsReached first within called old → (change : Changes old new)
      → (within → IsStepWithin old new change)
      → IsReached first within (called_by old new change ++ called) new
  changed called old new reached (ByBeginning b) spares =
      one_more called called old new (Starts b.who b.start) reached (λ w. tt)
      (laws.begins called old new (run reached.events (opened_world first)) reached.seen b)
      (laws.peers old new reached.peers (ByBeginning b))
  changed called old new reached (ByStep s) spares =
      let world = run reached.events (opened_world first) in
      let opened = world_opened first o in
      let made = laws.steps called old new world reached.peers (in_runs.busy (opened_world first) opened reached.events)
      (in_runs.stale (opened_world first) opened reached.events) (in_runs.numbers (opened_world first) opened reached.events)
      reached.seen s in
      one_more called (called_at s.caller.work.place s.reply ++ called) old new (Makes s.who made.0) reached
      (λ w. made.1 (spares w)) made.2
      (laws.peers old new reached.peers (ByStep s))
  changed called old new reached (ByTakingOut t) spares = record {
    events = reached.events;
    spares = reached.spares;
    seen = laws.outboxes called old new (run reached.events (opened_world first)) reached.seen t;
    peers = laws.peers old new reached.peers (ByTakingOut t);
  }
  changed called old new reached (ByDraining d) spares = record {
    events = reached.events;
    spares = reached.spares;
    seen = laws.drains called old new (run reached.events (opened_world first)) reached.seen d;
    peers = laws.peers old new reached.peers (ByDraining d);
  }

  leads : (called : List LegName) (old : Stored) (later : List Stored) → IsReached first within called old
      → (is : IsRun old later)
      → (within → AreWithinSteps old later is) → IsReached first within (called_since called old later is) (last_of old later)
  leads called old [] reached is spares = reached
  leads called old (next ∷ later) reached is spares =
      leads (called_by old next is.0 ++ called) next later (changed called old next reached is.0 (λ w. (spares w).0)) is.1
      (λ w. (spares w).1)

  pub reached : (later : List Stored) (is : IsRun first later) → (within → AreWithinSteps first later is)
      → IsReached first within (called_in first later is) (last_of first later)
  reached later is spares = leads [] first later (at_opening first within o) is spares

-- the peers keep their numbers
pub ranged : (laws : ChangesAreEvents) (old : Stored) (later : List Stored) → ArePeers old.peers → HaveRanges old
    → IsRun old later → HaveRanges (last_of old later)
ranged laws old [] are have is = have
ranged laws old (next ∷ later) are have is =
    ranged laws next later (laws.peers old next are is.0) (laws.ranges old next are have is.0) is.1
