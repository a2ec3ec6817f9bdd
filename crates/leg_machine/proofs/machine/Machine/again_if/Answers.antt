use Rattle.std.specs.Prelude.{map}
use Rattle.std.proofs.Common.{◌≡◌, ◌++◌, List, ℕ, arith, ap, sym, ◌∙◌}
use Rattle.std.proofs.lemmas.List.{append-nil}
use Rattle.iax_frames.specs.FullFrame.{FullFrame, spelling}
use Rattle.leg_machine.specs.Leg.{leg_of}
use Rattle.leg_machine.proofs.Again.{none-again}
use Rattle.leg_machine.proofs.machine.Machine.again_if.Goals as goal

pub returns-else-place-held_len-clause-replies : goal.returns-else-place-held_len-clause-replies
returns-else-place-held_len-clause-replies c =
    let none = none-again (leg_of c.args.self.now) c.args.place
    (omega (arith, c.if-place-held_len.false, c.held_len.ensures.value)) in
    sym (append-nil c.args.outs.now)
    ∙ ap (λ (frames : List FullFrame). c.args.outs.now ++ map spelling frames) (sym none)
