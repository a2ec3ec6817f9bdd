use Rattle.std.proofs.Common.{rules}
use Rattle.udp_wires.proofs.shared_port.socket_address.Goals as goal

pub returns : goal.returns
returns c = search rules
