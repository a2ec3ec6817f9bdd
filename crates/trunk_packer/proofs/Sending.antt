-- A packer may go to another thread.
use denote.Param.Send.{IsSend, sendable}
use Rattle.circular_buffer.proofs.Crosses.{Cells-send, Deed-send}
use Rattle.std.proofs.Crossing.{crosses}
use Rattle.trunk_packer.specs.contracts.packer.Packer.{the_row}

pub packer_send : IsSend the_row
packer_send = search (Cells-send, Deed-send, sendable, crosses) parts 8 depth 40 fits 50000
