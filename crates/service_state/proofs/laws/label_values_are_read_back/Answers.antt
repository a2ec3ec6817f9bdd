use Rattle.service_state.proofs.ReadLemmas.{read_back}
use Rattle.service_state.proofs.laws.label_values_are_read_back.Goals as goal

pub returns : goal.returns
returns c = read_back
