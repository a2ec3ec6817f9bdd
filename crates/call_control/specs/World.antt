-- Many calls at once: their steps, in every order, on one book and the legs of all peers.
use Rattle.std.specs.Prelude.{ℕ, List, [], ◌∷◌, Option, None, Some, slice_get, slice_set}
use Rattle.call_book.specs.Book.{Book}
use Rattle.call_book.specs.declared.leg_name.LegName.{LegName}
use Rattle.call_control.specs.Scene.{Leg, Scene, Choice, Answer, answered, is_call}
use Rattle.call_control.specs.Work.{Work, of_datagram, of_tick, of_call, of_hang_up, next_of, after_told}
use Rattle.call_control.specs.declared.need.Need.{Need}

-- a caller: it is idle if its work needs no further step
pub record Caller : Type 0 where
  pub work : Work
  -- the names for which it has a lease
  pub leases : List LegName

pub record World : Type 0 where
  pub book : Book
  -- the legs of all peers: each under its peer and number
  pub legs : List Leg
  pub callers : List Caller

abbrev pub scene_of : World → Caller → Scene
scene_of world caller = record { book = world.book; legs = world.legs; leases = caller.leases }

abbrev pub after_answer : World → ℕ → Work → Answer → World
after_answer world who work a =
    record {
      book = a.scene.book;
      legs = a.scene.legs;
      callers = slice_set world.callers who (record { work = after_told work a.reply; leases = a.scene.leases });
    }

-- the step that the work of a caller needs next, if any
abbrev pub makes : World → ℕ → Caller → Option Need → Choice → World
makes world who caller None choice = world
makes world who caller (Some need) choice =
    after_answer world who caller.work (answered (scene_of world caller) need (is_call caller.work.place) choice)

abbrev pub steps : World → ℕ → Option Caller → Choice → World
steps world who None choice = world
steps world who (Some caller) choice = makes world who caller (next_of caller.work) choice

-- the calls that a caller may begin
pub data Start : Type 0 where
  ADatagram : (peer : ℕ) → Start
  ATick : (peer first count : ℕ) → Start
  ACall : (peer : ℕ) → Start
  AHangUp : (name : LegName) → Start

abbrev pub work_of : Start → Work
work_of (ADatagram peer) = of_datagram peer
work_of (ATick peer first count) = of_tick peer first count
work_of (ACall peer) = of_call peer
work_of (AHangUp name) = of_hang_up name

-- a caller that is idle begins
abbrev pub begins : World → ℕ → Caller → Option Need → Start → World
begins world who caller None start =
    record world { callers = slice_set world.callers who (record caller { work = work_of start }) }
begins world who caller (Some need) start = world

abbrev pub starts : World → ℕ → Option Caller → Start → World
starts world who None start = world
starts world who (Some caller) start = begins world who caller (next_of caller.work) start

pub data Event : Type 0 where
  Starts : (who : ℕ) (start : Start) → Event
  Steps : (who : ℕ) (choice : Choice) → Event

abbrev pub happens : Event → World → World
happens (Starts who start) world = starts world who (slice_get world.callers who) start
happens (Steps who choice) world = steps world who (slice_get world.callers who) choice

abbrev pub run : List Event → World → World
run [] world = world
run (event ∷ events) world = run events (happens event world)
