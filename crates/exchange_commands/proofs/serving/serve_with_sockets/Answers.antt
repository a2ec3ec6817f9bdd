use denote.Param.Send.{sendable}
use Rattle.exchange_commands.proofs.serving.serve_with_sockets.Goals as goal
use Rattle.worker_setup.proofs.Sending.{traced_send}

pub run_all-ran-requires-send-O : goal.run_all-ran-requires-send-O
run_all-ran-requires-send-O g c κs within = search (traced_send, sendable) parts 8
