use Rattle.std.proofs.Common.{◌≡◌, [], sym, subst, arith}
use Rattle.std.proofs.lemmas.List.Elements.{All-push}
use Rattle.std.specs.Prelude.{All}
use Rattle.exchange_core.proofs.Pops.{replicate-less}
use Rattle.exchange_core.proofs.opening.push_passes.Goals as goal

pub loop-i-preserved : goal.loop-i-preserved
loop-i-preserved g c =
    let pushed = sym c.in_ok-push.ensures.items in record {
      octets = replicate-less _ _ _ _ (c.last_of-o.ensures.equal _ _ c.loop-i.invariant.octets).1;
      steps = replicate-less _ _ _ _ (c.last_of-s.ensures.equal _ _ c.loop-i.invariant.steps).1;
      made = omega (arith, c.in_ok-push.ensures.len, c.loop-i.invariant.made);
      empty = subst (All (λ p. (p.credit.octets ≡ 0) × (p.credit.steps ≡ 0))) pushed
          (All-push (λ p. (p.credit.octets ≡ 0) × (p.credit.steps ≡ 0)) c.loop-i.passes.items c.unused_pass.result
          c.loop-i.invariant.empty c.unused_pass.ensures.empty);
      unused = subst (All (λ p. (p.begun ≡ 0) × (p.made ≡ []))) pushed
          (All-push (λ p. (p.begun ≡ 0) × (p.made ≡ [])) c.loop-i.passes.items c.unused_pass.result c.loop-i.invariant.unused
          c.unused_pass.ensures.unused);
    }
