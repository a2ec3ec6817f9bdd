use Rattle.worker_setup.proofs.ReportLemmas.{served}
use Rattle.worker_setup.proofs.reports.write_served.Goals as goal

pub returns-in-Ok-clause-served : goal.returns-in-Ok-clause-served
returns-in-Ok-clause-served g c =
    served _ _ _ c.args.reports c.settle.result _ _ _ c.requires.each c.in-Ok.ensures.lines c.settle.ensures
