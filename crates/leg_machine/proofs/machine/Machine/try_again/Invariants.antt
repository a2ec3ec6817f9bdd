use Rattle.std.proofs.Common.{◌≡◌, ◌≤◌, ◌-◌, ◌+◌, ◌++◌, length}
use Rattle.std.specs.Prelude.{map}
use Rattle.iax_frames.specs.FullFrame.{spelling}
use Rattle.leg_machine.specs.Leg.{leg_of, whole_leg, capacity_of, HasRoom}
use Rattle.leg_machine.specs.Tries.{tries}
use Rattle.leg_machine.proofs.machine.Machine.try_again.Given as goal

-- the datagrams so far, and those of the turns that are left, are all
abbrev pub invariant-loop-turn : goal.invariant-loop-turn
invariant-loop-turn l =
    ((tries (l.turns - l.turn) (leg_of l.self) l.now).leg ≡ (tries l.turns (leg_of l.initial.self) l.now).leg)
    × ((tries (l.turns - l.turn) (leg_of l.self) l.now).spent ≡ (tries l.turns (leg_of l.initial.self) l.now).spent)
    × (l.outs ++ map spelling (tries (l.turns - l.turn) (leg_of l.self) l.now).replies ≡ l.initial.outs ++ map spelling
    (tries l.turns (leg_of l.initial.self) l.now).replies)
    × (length l.outs ≡ length l.initial.outs + l.turn)
    × (HasRoom 1 l.initial.self → HasRoom 1 l.self)
    × (capacity_of (whole_leg l.initial.self) ≤ capacity_of (whole_leg l.self))
