use Rattle.std.proofs.Common.{refl, Option, None}
use Rattle.std.proofs.lemmas.List.{length-replicate}
use Rattle.call_book.specs.declared.leg_name.LegName.{LegName}
use Rattle.call_book.proofs.TableLaws.{table_of-replicate, only_none}
use Rattle.call_book.proofs.name_table.NameTable.new.Goals as goal

pub returns-clause-empty : goal.returns-clause-empty
returns-clause-empty c =
    let nothing = c.in_ok-filled.ensures.items (only_none _ (λ x is. is)) in
    rw (nothing, table_of-replicate {A = LegName} c.args.places, length-replicate {A = Option LegName} c.args.places None) refl
