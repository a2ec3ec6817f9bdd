use Rattle.laws_of_peers.proofs.Tokens.{calls_bear_tokens as law}
use Rattle.laws_of_peers.proofs.peers.calls_bear_tokens.Goals as goal

pub returns : goal.returns
returns c = law
