use Rattle.std.proofs.Common.{◌≡◌, ◌-◌, [], replicate, vec_len}
use Rattle.std.specs.Prelude.{All}
use Rattle.exchange_core.proofs.opening.push_passes.Given as goal

abbrev pub invariant-loop-i : goal.invariant-loop-i
invariant-loop-i g l = record {
  octets : l.octets.items ≡ replicate (l.count - l._i) 0;
  steps : l.steps.items ≡ replicate
      (l.count - l._i) 0;
  made : vec_len l.passes ≡ l._i;
  empty : All (λ p. (p.credit.octets ≡ 0) × (p.credit.steps ≡ 0))
      l.passes.items;
  unused : All (λ p. (p.begun ≡ 0) × (p.made ≡ [])) l.passes.items;
}
