use Rattle.std.proofs.Common.{rules}
use Rattle.peer_plan.proofs.reading.unknown_keys.unknown_in.Goals as goal

pub returns-in-Some : goal.returns-in-Some
returns-in-Some c = search rules

pub returns-in-Some-unknown_in_list : goal.returns-in-Some-unknown_in_list
returns-in-Some-unknown_in_list c = search rules

pub returns : goal.returns
returns c = search rules

pub returns-in-Some-unknown_in_list-2 : goal.returns-in-Some-unknown_in_list-2
returns-in-Some-unknown_in_list-2 c = search rules
