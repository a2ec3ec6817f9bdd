use Rattle.std.proofs.Common.{subst, sym}
use Rattle.std.proofs.Math.Logic.{∥∥₁_map}
use Rattle.exchange_core.specs.Start.{IsFirstBook}
use Rattle.exchange_core.proofs.exchange.Exchange.first_book.Goals as goal

pub returns : goal.returns
returns g c = ∥∥₁_map c.self.invariant.8 (λ are.
    subst (λ p. IsFirstBook p c.first.result.now.value) c.self.view_is
    (subst (IsFirstBook c.self.inside.plan) (sym c.first.ensures) are))
