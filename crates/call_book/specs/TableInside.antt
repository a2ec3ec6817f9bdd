-- The table that an array represents.
use Rattle.std.specs.Prelude.{length}
use Rattle.call_book.specs.declared.name_table.NameTable.TheInside.{Inside}
use Rattle.call_book.specs.Table.{Table, table_of}

abbrev pub table_inside : Inside → Table
table_inside a = record { names = table_of a.places.items; places = length a.places.items }
