-- The notes of a thread: the batches that it has handed over, and behind them the batch that it holds.
use Rattle.std.specs.Prelude.{ℕ, List, ◌++◌}
use Rattle.std.specs.List.{flat_map}
use Rattle.trace_writer.specs.declared.mark.Mark.{Mark}
use Rattle.trace_writer.specs.declared.mark.Batch.{Batch}

-- the marks of batches, one after another
abbrev pub marks_of : List Batch → List Mark
marks_of batches = flat_map (λ batch. batch.marks.items) batches

-- their octets
abbrev pub octets_of : List Batch → List ℕ
octets_of batches = flat_map (λ batch. batch.octets.items) batches
