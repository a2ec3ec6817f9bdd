use denote.Exit.{no}
use denote.Param.{param}
use denote.Param.Send.{arg_send, param_send}
use Rattle.udp_workers.proofs.Shared.{lent_send}
use Rattle.udp_workers.proofs.seat.WatchedExchange.start_until.Goals as goal

-- each parameter under the number that the function gives it
pub spawn-requires-send-F : goal.spawn-requires-send-F
spawn-requires-send-F g c κs within =
    let may = c.type_bounds in
    param_send 1 _ (arg_send _ no _ (
    lent_send (param 2 g.row.J) (param 3 g.row.P) (param 4 g.row.J-Octets) (param 5 g.row.J-Steps) g.J.LedgerSet g.P.PlanBrand
    g.J.Octets.Ledger g.J.Steps.Ledger _ _ _ _ _ (param 0 g.row.V) (param 1 g.row.G) (param 7 g.row.W) (param 8 g.row.M)
    (param 9 g.row.C) (param 10 g.row.O) (param 11 g.row.R) g.V.Watch g.W.Wire g.M.TurnClock g.C.Challenges may.sync-V
    may.sync-G may.send-W may.send-M
    may.send-C may.send-O may.sync-R
    ))
