use Rattle.std.proofs.Common.{◌∙◌, ap}
use Rattle.std.specs.Prelude.{sum_by}
use Rattle.seq_window.specs.History.{taken_count}
use Rattle.seq_window.specs.Record.{RecordState}
use Rattle.seq_window.specs.declared.history.Count.TheVariants as counts
use Rattle.seq_window.specs.RecordFields.{counted_by}
use Rattle.seq_window.proofs.Heads.{taken_count-heads}
use Rattle.seq_window.proofs.history.Record.taken_count.Goals as goal

pub returns : goal.returns
returns c =
    c.count_in.ensures ∙ ap (sum_by (counted_by counts.Taken)) c.as_slice.ensures.value ∙ taken_count-heads
    c.self.inside.octets.items c.self.inside.heads.items
    ∙ ap (λ (r : RecordState). taken_count r.entries) c.self.view_is
