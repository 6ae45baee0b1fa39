-- The cuts of procedures are the cut points that E12 counts.
use Rattle.std.specs.Prelude.{ℕ, ◌≡◌, ◌≤◌, false, length, take, Some, slice_get}
use Rattle.std.specs.List.{flat_map}
use Rattle.civl_tree.specs.declared.program.Proc.{Proc}
use Rattle.civl_tree.specs.declared.program.Program.{Program}
use Rattle.civl_tree.specs.rules.Count.{cut_limit, cuts_of, cuts_before, proc_count}
use Rattle.civl_layers.specs.Cuts.{proc_cuts}

-- a procedure has as many cuts, with its entry, as E12 counts in it
abbrev pub CutsAreCounted : Type 0
CutsAreCounted = (proc : Proc) → length (proc_cuts proc) ≡ cuts_of proc

-- and the procedures before a place have as many as E12 counts before it
abbrev pub CutsBeforeAreCounted : Type 0
CutsBeforeAreCounted = (program : Program) (place : ℕ) → length (flat_map proc_cuts (take place program.procs)) ≡ cuts_before program place

-- so a program in which no procedure breaks E12 has no more cuts than its limit
abbrev pub CutsAreFew : Type 0
CutsAreFew =
    (program : Program) → ((place : ℕ) (proc : Proc) → slice_get program.procs place ≡ Some proc → proc_count program place proc ≡ false)
    → length (flat_map proc_cuts program.procs) ≤ cut_limit
