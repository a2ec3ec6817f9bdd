use Rattle.leg_machine.proofs.Hardened.{repetition-brings-nothing, soon-brings-two, inval-ignored, inval-unanswered, all-brought}
use Rattle.leg_machine.proofs.Hardened.{early-changes-nothing, soft-handled, inval-heeded, digits-taken}
use Rattle.leg_machine.proofs.laws.hardening_is_by_the_rules.Goals as goal

pub returns-clause-vnaks : goal.returns-clause-vnaks
returns-clause-vnaks c leg number now hardened repeats = repetition-brings-nothing leg number now hardened repeats

pub returns-clause-moved_vnaks : goal.returns-clause-moved_vnaks
returns-clause-moved_vnaks c leg number now hardened soon = soon-brings-two leg number now hardened soon

pub returns-clause-invals : goal.returns-clause-invals
returns-clause-invals c leg frame now hardened inval others = inval-ignored leg frame now hardened inval others

pub returns-clause-early_invals : goal.returns-clause-early_invals
returns-clause-early_invals c leg frame now hardened inval none = inval-unanswered leg frame now hardened inval none

pub returns-clause-early_answers : goal.returns-clause-early_answers
returns-clause-early_answers c leg frame now hardened waits answers none =
    early-changes-nothing leg frame now hardened waits answers none

pub returns-clause-all_frames : goal.returns-clause-all_frames
returns-clause-all_frames c leg frame now soft = soft-handled leg frame now soft

pub returns-clause-all_vnaks : goal.returns-clause-all_vnaks
returns-clause-all_vnaks c leg number now soft = all-brought leg number now soft

pub returns-clause-all_invals : goal.returns-clause-all_invals
returns-clause-all_invals c leg frame now soft = inval-heeded leg frame now soft

pub returns-clause-all_digits : goal.returns-clause-all_digits
returns-clause-all_digits c leg soft = digits-taken leg soft
