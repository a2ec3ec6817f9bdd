use Rattle.toml.proofs.Views.{table_get}
use Rattle.peer_plan.proofs.reading.fields.member.Goals as goal

pub returns : goal.returns
returns c = table_get c.get.result _ c.args.table.now.entries (rw c.name.ensures at c.get.ensures.value)
