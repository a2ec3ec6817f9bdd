use Rattle.std.proofs.Common.{refl}
use Rattle.laws_of_peers.proofs.PokeLaws.{first, next, next_not_sooner, not_sooner, off, pongs, repeated, runs, silent}
use Rattle.laws_of_peers.proofs.peers.pokes_are_by_the_rules.Goals as goal

pub returns : goal.returns
returns c = record {
  off = off;
  first = first;
  repeated = repeated;
  not_sooner = not_sooner;
  next = next;
  next_not_sooner = next_not_sooner;
  runs = runs;
  silent = silent;
  pongs = pongs;
  once = λ rules pokes head now. refl;
}
