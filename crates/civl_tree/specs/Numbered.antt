-- Programs whose parts have numbers of 32 bits.
use Rattle.std.specs.Prelude.{◌<◌, ◌^◌}
use Rattle.std.specs.List.{All}
use Rattle.civl_tree.specs.declared.program.Program.{Program}
use Rattle.civl_tree.specs.Numbering.{item_count, sizes_of}

-- there are fewer than 2^32 items, and fewer than 2^32 statements in each procedure
pub record IsNumbered (program : Program) : Type 0 where
  pub items : item_count program < 2 ^ 32
  pub statements : All (λ proc. sizes_of proc.body < 2 ^ 32) program.procs
