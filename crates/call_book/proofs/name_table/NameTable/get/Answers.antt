use Rattle.std.proofs.Common.{ap, arith}
use Rattle.call_book.proofs.TableLaws.{get_read, get_past}
use Rattle.call_book.proofs.name_table.NameTable.get.Goals as goal

pub returns-then-place-len : goal.returns-then-place-len
returns-then-place-len c = get_read c.self.inside.places.items c.args.self.now.names c.args.number c.from-place.result
    c.index.result.now (ap (λ t. t.names) c.self.view_is) c.from-place.ensures (omega arith) c.index.ensures

pub returns-else-place-len : goal.returns-else-place-len
returns-else-place-len c = get_past c.self.inside.places.items c.args.self.now.names c.args.number c.from-place.result
    (ap (λ t. t.names) c.self.view_is) c.from-place.ensures (omega arith)
