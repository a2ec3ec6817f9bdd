use Rattle.leg_machine.proofs.Named.{frame-names, order-names, stray-stays, stray-answered, unnumbered-stays, none-acked}
use Rattle.leg_machine.proofs.laws.unaddressed_frames_reach_the_unnamed.Goals as goal

pub returns-clause-named : goal.returns-clause-named
returns-clause-named c leg frame now = frame-names leg frame now

pub returns-clause-still_named : goal.returns-clause-still_named
returns-clause-still_named c leg order now = order-names leg order now

pub returns-clause-strays : goal.returns-clause-strays
returns-clause-strays c leg frame now hardened zero named = stray-stays leg frame now hardened zero named

pub returns-clause-repeats : goal.returns-clause-repeats
returns-clause-repeats c leg frame now hardened zero named = stray-answered leg frame now hardened zero named

pub returns-clause-unnumbered : goal.returns-clause-unnumbered
returns-clause-unnumbered c leg frame now hardened zero bare = unnumbered-stays leg frame now hardened zero bare

pub returns-clause-unacknowledged : goal.returns-clause-unacknowledged
returns-clause-unacknowledged c leg frame now hardened zero = none-acked leg frame now hardened zero
