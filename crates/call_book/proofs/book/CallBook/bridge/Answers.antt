use Rattle.std.proofs.Common.{◌≡◌, Ok, subst, sym, ap, arith, rules}
use Rattle.call_book.specs.Book.{bridge_answer, bridged}
use Rattle.call_book.specs.Inside.{book_of}
use Rattle.call_book.proofs.BookLaws.{place_within}
use Rattle.call_book.proofs.Changes.{bridged_by}
use Rattle.call_book.proofs.Partners.{bridged_first, bridged_second}
use Rattle.call_book.proofs.book.CallBook.bridge.Goals as goal

pub put-requires : goal.put-requires
put-requires c =
    let answer : bridge_answer c.args.self.now c.args.a c.args.b ≡ Ok tt = search rules in
    let did = bridged_by (book_of c.self.inside) c.args.a c.args.b c.self.invariant.book
    (subst (λ b. bridge_answer b c.args.a c.args.b ≡ Ok tt) (sym c.self.view_is) answer) in
    omega (arith, place_within _ _ c.self.invariant.book did.has_a, c.self.invariant.partners)

pub put-requires-2 : goal.put-requires-2
put-requires-2 c =
    let answer : bridge_answer c.args.self.now c.args.a c.args.b ≡ Ok tt = search rules in
    let did = bridged_by (book_of c.self.inside) c.args.a c.args.b c.self.invariant.book
    (subst (λ b. bridge_answer b c.args.a c.args.b ≡ Ok tt) (sym c.self.view_is) answer) in
    omega (arith, place_within _ _ c.self.invariant.book did.has_b, c.self.invariant.partners, ap (λ t. t.places) c.put.ensures)

pub invariant_of-self : goal.invariant_of-self
invariant_of-self c =
    let answer : bridge_answer c.args.self.now c.args.a c.args.b ≡ Ok tt = search rules in
    let did = bridged_by (book_of c.self.inside) c.args.a c.args.b c.self.invariant.book
    (subst (λ b. bridge_answer b c.args.a c.args.b ≡ Ok tt) (sym c.self.view_is) answer) in
    record {
      book = rw (c.put-2.ensures, c.put.ensures) did.sound;
      names = c.self.invariant.names;
      partners = rw (c.put-2.ensures, c.put.ensures) c.self.invariant.partners;
      room = c.self.invariant.room;
    }

pub returns-clause-ok : goal.returns-clause-ok
returns-clause-ok c = rw (c.put-2.ensures, c.put.ensures) (ap (λ b. bridged b c.args.a c.args.b) c.self.view_is)

pub returns-clause-mutual : goal.returns-clause-mutual
returns-clause-mutual c =
    let answer : bridge_answer c.args.self.now c.args.a c.args.b ≡ Ok tt = search rules in
    let did = bridged_by (book_of c.self.inside) c.args.a c.args.b c.self.invariant.book
    (subst (λ b. bridge_answer b c.args.a c.args.b ≡ Ok tt) (sym c.self.view_is) answer) in
    rw (c.put-2.ensures, c.put.ensures) (bridged_first _ _ _ did, bridged_second _ _ _ did)

pub returns-clause-sound : goal.returns-clause-sound
returns-clause-sound c = (invariant_of-self c).book
