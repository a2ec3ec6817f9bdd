use Rattle.std.proofs.Common.{◌≤◌, ◌++◌, List, [], ◌∷◌, ℕ, length, arith, sym, ap, ◌∙◌, length-append}
use Rattle.iax_frames.specs.FullFrame.{spelling}
use Rattle.iax_frames.specs.declared.stored_frame.Frame.{Frame}
use Rattle.resend_queue.specs.declared.held_frame.Held.{Held}
use Rattle.seq_window.specs.HeldFrame.{held_of}
use Rattle.seq_window.specs.Window.{held_frames}
use Rattle.seq_window.specs.History.{acked_count, held}
use Rattle.leg_machine.specs.Replies.{sent_again}
use Rattle.leg_machine.specs.Leg.{leg_of}
use Rattle.leg_machine.proofs.Again.{map-take_more, map-take_all, length-numbered_from}
use Rattle.leg_machine.proofs.machine.Machine.held_again.Goals as goal

pub loop-place-preserved : goal.loop-place-preserved
loop-place-preserved c =
    let again_held = held_frames c.args.self.now.window.state in
    let h = held_of c.held_frame-held.result in
    let bytes : Held Frame → List ℕ = λ h. spelling (sent_again (leg_of c.args.self.now) h) in
    let more = map-take_more bytes again_held c.loop-place.place h c.held_frame-held.ensures.held in (
      c.spell.ensures ∙ ap (λ (a : List (List ℕ)). a ++ bytes h ∷ []) c.loop-place.invariant.0 ∙ sym more,
      omega (arith, c.loop-place.invariant.1, ap length c.spell.ensures, length-append {A = List ℕ}),
    )

pub returns : goal.returns
returns c =
    let again_held = held_frames c.args.self.now.window.state in
    let bytes : Held Frame → List ℕ = λ h. spelling (sent_again (leg_of c.args.self.now) h) in
    let w = c.args.self.now.window.state in
    let short : length again_held ≤ c.loop-place.place =
    omega (
      arith,
      c.loop-place-test.false,
      c.held_len-place-end.ensures.value,
      length-numbered_from (acked_count w.history)
          (held w.history) w.sendings,
    ) in
    c.loop-place.invariant.0 ∙ map-take_all bytes again_held c.loop-place.place short
