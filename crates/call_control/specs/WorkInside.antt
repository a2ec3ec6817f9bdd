-- The call's steps that the fields represent.
use Rattle.std.specs.Prelude.{◌+◌, ◌≤◌, ◌^◌, length}
use Rattle.call_control.specs.declared.work.Work.TheInside.{Inside}
use Rattle.call_control.specs.Work.{looks_from}
use Rattle.call_control.specs.WorkState.{WorkState, signals_of, last_signals}

abbrev pub work_inside : Inside → WorkState
work_inside a =
    record {
      work = record {
        place = a.place;
        rest = record {
          onward = last_signals a.onwards a.signals_left;
          touched = a.touched;
          looks = looks_from a.peer a.number a.numbers_left;
        };
      };
      onwards = a.onwards;
    }

pub record IsWork (a : Inside) : Type 0 where
  pub signals : a.signals_left ≤ length (signals_of a.onwards)
  -- each number that is left is a call number
  pub numbers : a.number + a.numbers_left ≤ 2 ^ 16
