use Rattle.call_signals.proofs.Chosen.{wanted, lowest, none}
use Rattle.call_signals.proofs.laws.format_is_wanted_or_lowest.Goals as goal

pub returns-clause-wanted : goal.returns-clause-wanted
returns-clause-wanted c formats frame format is = wanted formats frame format is

pub returns-clause-lowest : goal.returns-clause-lowest
returns-clause-lowest c formats frame format unwanted is = lowest formats frame format unwanted is

pub returns-clause-none : goal.returns-clause-none
returns-clause-none c formats frame nothing = none formats frame nothing
