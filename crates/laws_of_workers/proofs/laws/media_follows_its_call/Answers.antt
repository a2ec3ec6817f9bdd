use Rattle.laws_of_workers.proofs.CarryingLaws.{all_carry, call_carries, calls_carry_none, hang_ups_carry_none, heard_carries}
use Rattle.laws_of_workers.proofs.CarryingLaws.{ticks_carry_none}
use Rattle.laws_of_workers.proofs.laws.media_follows_its_call.Goals as goal

pub returns-clause-call : goal.returns-clause-call
returns-clause-call c = call_carries

pub returns-clause-datagram : goal.returns-clause-datagram
returns-clause-datagram c = heard_carries

pub returns-clause-turn : goal.returns-clause-turn
returns-clause-turn c = all_carry

pub returns-clause-ticks : goal.returns-clause-ticks
returns-clause-ticks c = ticks_carry_none

pub returns-clause-calls : goal.returns-clause-calls
returns-clause-calls c = calls_carry_none

pub returns-clause-hang_ups : goal.returns-clause-hang_ups
returns-clause-hang_ups c = hang_ups_carry_none
