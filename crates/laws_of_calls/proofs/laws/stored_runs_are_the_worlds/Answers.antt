use Rattle.std.proofs.Common.{List}
use Rattle.laws_of_calls.specs.Runs.{IsRun, last_of}
use Rattle.laws_of_calls.specs.Spent.{AreWithinSteps, called_in}
use Rattle.laws_of_calls.specs.Stored.{Stored, IsOpened}
use Rattle.laws_of_calls.proofs.InRuns.{ChangesAreEvents, InRuns, IsReached, world_opened, reached, ranged}
use Rattle.laws_of_calls.proofs.Made.{made_opened}
use Rattle.laws_of_calls.proofs.laws.stored_runs_are_the_worlds.Goals as goal

changes : goal.After-stored_changes_are_the_worlds → ChangesAreEvents
changes c =
    let laws = c.stored_changes_are_the_worlds.ensures in
    record {
      begins = laws.begins;
      steps = laws.steps;
      outboxes = laws.outboxes;
      drains = laws.drains;
      peers = laws.peers;
      ranges = laws.ranges;
    }

in_runs : goal.After-stored_changes_are_the_worlds → InRuns
in_runs c =
    let many = c.calls_at_once.ensures in
    record { busy = many.busy; stale = many.stale; numbers = many.numbers }

run_seen : (c : goal.After-stored_changes_are_the_worlds) (first : Stored) (later : List Stored) → IsOpened first
    → (is : IsRun first later)
    → IsReached first (AreWithinSteps first later is) (called_in first later is) (last_of first later)
run_seen c first later opened is =
    reached (changes c) (in_runs c) first opened (AreWithinSteps first later is) later is (λ within. within)

pub returns-clause-opened : goal.returns-clause-opened
returns-clause-opened c = world_opened

pub returns-clause-seen : goal.returns-clause-seen
returns-clause-seen c first later opened is =
    let at = run_seen c first later opened is in (at.events, at.spares, at.seen)

pub returns-clause-peers : goal.returns-clause-peers
returns-clause-peers c first later opened is = (run_seen c first later opened is).peers

pub returns-clause-ranges : goal.returns-clause-ranges
returns-clause-ranges c first later opened ranges is = ranged (changes c) first later opened.peers ranges is

pub returns-clause-made : goal.returns-clause-made
returns-clause-made c = made_opened
