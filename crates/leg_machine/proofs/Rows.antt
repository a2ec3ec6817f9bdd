-- Tables that continue in another.
use Rattle.std.proofs.Common.{◌≡◌, ℕ, refl}
use Rattle.iax_frames.specs.FullFrame.{FullFrame}
use Rattle.leg_machine.specs.Leg.{LegState}
use Rattle.leg_machine.specs.LegTable.{linked, talking, any_stage}
use Rattle.call_signals.specs.declared.message.Message.{Message}
use Rattle.call_signals.specs.declared.message.Message.TheVariants as messages
use Rattle.call_signals.specs.declared.signal.Indication.{Indication}
use Rattle.call_signals.specs.declared.format.Format.{Format}
use Rattle.call_signals.specs.declared.stage.Stage.{Stage}
use Rattle.call_signals.specs.declared.stage.Stage.TheVariants as stages

pub linked-other : (leg : LegState) (frame : FullFrame) (m : Message) → ((i : Indication) → m ≡ messages.Indicates i → ⊥)
    → (m ≡ messages.Answer → ⊥)
    → linked leg frame m ≡ talking stages.Linked leg frame m
linked-other leg frame (messages.Indicates i) no_indication no_answer = absurd (no_indication i refl)
linked-other leg frame messages.Answer no_indication no_answer = absurd (no_answer refl)
linked-other leg frame _ no_indication no_answer = refl

pub talking-other : (stage : Stage) (leg : LegState) (frame : FullFrame) (m : Message) → (m ≡ messages.ClearsCall → ⊥)
    → ((d : ℕ) → m ≡ messages.Dtmf d → ⊥)
    → ((v : Format) → m ≡ messages.Voice v → ⊥) → (m ≡ messages.Quelch → ⊥) → (m ≡ messages.Unquelch → ⊥)
    → talking stage leg frame m ≡ any_stage stage frame m
talking-other stage leg frame messages.ClearsCall c d v q u = absurd (c refl)
talking-other stage leg frame (messages.Dtmf digit) c d v q u = absurd (d digit refl)
talking-other stage leg frame (messages.Voice voice) c d v q u = absurd (v voice refl)
talking-other stage leg frame messages.Quelch c d v q u = absurd (q refl)
talking-other stage leg frame messages.Unquelch c d v q u = absurd (u refl)
talking-other stage leg frame _ c d v q u = refl
