use Rattle.std.proofs.Common.{rules}
use Rattle.leg_machine.proofs.machine.Machine.row.Goals as goal

pub returns-in_err-room_for_sending-clause-err : goal.returns-in_err-room_for_sending-clause-err
returns-in_err-room_for_sending-clause-err c = search rules
