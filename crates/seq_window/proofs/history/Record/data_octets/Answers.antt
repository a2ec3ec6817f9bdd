use Rattle.std.proofs.Common.{◌∙◌, ap, length}
use Rattle.seq_window.specs.History.{data_octets}
use Rattle.seq_window.specs.Record.{RecordState}
use Rattle.seq_window.proofs.Heads.{data_octets-heads}
use Rattle.seq_window.proofs.history.Record.data_octets.Goals as goal

pub returns-clause-octets : goal.returns-clause-octets
returns-clause-octets c =
    ap length c.as_slice.ensures.value ∙ c.self.invariant.whole
    ∙ data_octets-heads c.self.inside.octets.items c.self.inside.heads.items c.self.invariant.within
    ∙ ap (λ (r : RecordState). data_octets r.entries) c.self.view_is
