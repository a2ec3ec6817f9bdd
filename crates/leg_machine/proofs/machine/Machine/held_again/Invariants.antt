use Rattle.std.proofs.Common.{◌≡◌, length, take}
use Rattle.std.specs.Prelude.{map}
use Rattle.iax_frames.specs.FullFrame.{spelling}
use Rattle.seq_window.specs.Window.{held_frames}
use Rattle.leg_machine.specs.Replies.{sent_again}
use Rattle.leg_machine.specs.Leg.{leg_of}
use Rattle.leg_machine.proofs.machine.Machine.held_again.Given as goal

-- the datagrams so far are those of the front
abbrev pub invariant-loop-place : goal.invariant-loop-place
invariant-loop-place l =
    (l.outs ≡ map (λ held. spelling (sent_again (leg_of l.self) held)) (take l.place (held_frames l.self.window.state))) ×
    (length l.outs ≡ l.place)
