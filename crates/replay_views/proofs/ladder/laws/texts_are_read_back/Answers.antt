use Rattle.replay_views.proofs.ReadLemmas.{read_back}
use Rattle.replay_views.proofs.ladder.laws.texts_are_read_back.Goals as goal

pub returns : goal.returns
returns c = read_back
