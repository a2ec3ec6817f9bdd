use Rattle.std.proofs.Common.{ap, ◌<◌, length, arith}
use Rattle.call_book.proofs.TableLaws.{table_put}
use Rattle.call_book.proofs.name_table.NameTable.put.Goals as goal

pub returns : goal.returns
returns c =
    let within : c.from.result < length c.self.inside.places.items = omega (
      arith,
      ap (λ t. t.places) c.self.view_is,
      c.from.ensures,
    ) in
    table_put c.self.inside.places.items _ c.from.result c.args.number c.args.name c.self.view_is c.from.ensures within
