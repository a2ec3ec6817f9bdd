use Rattle.std.proofs.Common.{ap, ◌<◌, length, arith}
use Rattle.call_book.proofs.TableLaws.{table_clear}
use Rattle.call_book.proofs.name_table.NameTable.clear.Goals as goal

pub returns : goal.returns
returns c =
    let within : c.from.result < length c.self.inside.places.items = omega (
      arith,
      ap (λ t. t.places) c.self.view_is,
      c.from.ensures,
    ) in
    table_clear c.self.inside.places.items _ c.from.result c.args.number c.self.view_is c.from.ensures within
