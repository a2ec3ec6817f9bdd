use Rattle.std.proofs.Common.{ap, sym, ◌∙◌}
use Rattle.std.specs.FinMap.{get}
use Rattle.call_book.proofs.Partners.{partner_mutual}
use Rattle.call_book.proofs.book.CallBook.partner.Goals as goal

pub returns-then-contains-clause-mutual : goal.returns-then-contains-clause-mutual
returns-then-contains-clause-mutual c =
    partner_mutual c.args.self.now c.args.name c.get.result c.contains.ensures.sound (sym c.contains.ensures.found
    ∙ c.if-contains.true)
    (c.get.ensures ∙ ap (λ b. get b.partners c.args.name.number) c.self.view_is)
