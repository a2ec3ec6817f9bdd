use Rattle.std.proofs.Common.{List}
use Rattle.call_control.specs.World.{run}
use Rattle.laws_of_calls.specs.Runs.{IsRun, last_of}
use Rattle.laws_of_calls.specs.Spent.{AreWithinSteps, called_in}
use Rattle.laws_of_calls.specs.Stored.{Stored, IsOpened, opened_world}
use Rattle.laws_of_calls.proofs.AtOnce.{in_hand, openings_free, none_offered, idle_names, looked_after, all_partners}
use Rattle.laws_of_calls.proofs.HeldNames.{held_once, booked, serve_one, leases_free}
use Rattle.laws_of_calls.proofs.InWorld.{IsInWorld}
use Rattle.laws_of_calls.proofs.laws.stored_calls_at_once.Goals as goal

-- the result of a run is seen in a world of many calls at once
at_last : (c : goal.After-stored_runs_are_the_worlds) (first : Stored) (later : List Stored) → IsOpened first
    → (is : IsRun first later)
    → IsInWorld (AreWithinSteps first later is) (called_in first later is) (last_of first later)
at_last c first later opened is =
    let runs = c.stored_runs_are_the_worlds.ensures in
    let many = c.calls_at_once.ensures in
    let at = runs.seen first later opened is in
    let start = runs.opened first opened in
    record {
      are = runs.peers first later opened is;
      world = run at.0 (opened_world first);
      seen = at.2;
      names = many.names (opened_world first) start at.0;
      busy = many.busy (opened_world first) start at.0;
      outside = many.outside (opened_world first) start at.0;
      stale = many.stale (opened_world first) start at.0;
      offered = many.offered (opened_world first) start at.0;
      idle_names = many.idle_names (opened_world first) start at.0;
      looked_after = λ within. many.looked_after (opened_world first) start at.0 (at.1 within);
      idle_partners = λ within. many.idle_partners (opened_world first) start at.0 (at.1 within);
    }

pub returns-clause-names : goal.returns-clause-names
returns-clause-names c first later opened is = held_once (at_last c first later opened is)

pub returns-clause-legs : goal.returns-clause-legs
returns-clause-legs c first later opened is = booked (at_last c first later opened is)

pub returns-clause-numbers : goal.returns-clause-numbers
returns-clause-numbers c first later opened is = serve_one (at_last c first later opened is)

pub returns-clause-leases : goal.returns-clause-leases
returns-clause-leases c first later opened is = leases_free (at_last c first later opened is)

pub returns-clause-in_hand : goal.returns-clause-in_hand
returns-clause-in_hand c first later opened is = in_hand (at_last c first later opened is)

pub returns-clause-free : goal.returns-clause-free
returns-clause-free c first later opened ranges is =
    openings_free (at_last c first later opened is)
    (c.stored_runs_are_the_worlds.ensures.ranges first later opened ranges is)

pub returns-clause-offered : goal.returns-clause-offered
returns-clause-offered c first later opened is = none_offered (at_last c first later opened is)

pub returns-clause-idle_names : goal.returns-clause-idle_names
returns-clause-idle_names c first later opened is = idle_names (at_last c first later opened is)

pub returns-clause-looked_after : goal.returns-clause-looked_after
returns-clause-looked_after c first later opened is within = looked_after (at_last c first later opened is) within

pub returns-clause-idle_partners : goal.returns-clause-idle_partners
returns-clause-idle_partners c first later opened is within = all_partners (at_last c first later opened is) within
