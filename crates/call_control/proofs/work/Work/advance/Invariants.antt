use Rattle.call_control.proofs.Prelude.{advance, ◌≡◌, length}
use Rattle.call_control.proofs.work.Work.advance.Given as goal

abbrev pub invariant-loop-name : goal.invariant-loop-name
invariant-loop-name l = record {
  same_way : advance l.self.work.rest ≡ advance l.initial.self.work.rest;
  onwards : l.self.onwards ≡ l.initial.self.onwards;
}

abbrev pub decreases-loop-name : goal.decreases-loop-name
decreases-loop-name l = length l.self.work.rest.onward
