-- The conditions on paths, and the cuts from which these begin.
use Rattle.std.specs.Prelude.{◌≡◌, ◌<◌, ℕ, length, slice_get, Some}
use Rattle.civl_tree.specs.declared.program.Proc.{Proc}
use Rattle.civl_tree.specs.declared.program.Program.{Program}
use Rattle.civl_layers.specs.Cuts.{proc_cuts}
use Rattle.civl_conditions.specs.declared.condition.Condition.{Condition}
use Rattle.civl_conditions.specs.declared.condition.Condition.TheVariants.{Path}

-- there is a procedure with this number, and it has a cut with that number
pub record HasCut (program : Program) (q c : ℕ) : Type 0 where
  pub proc : Proc
  pub there : slice_get program.procs q ≡ Some proc
  pub within : c < length (proc_cuts proc)

-- K9, from a cut that there is
abbrev pub IsOfPaths : Program → Condition → Type 0
IsOfPaths program (Path part step q c) = HasCut program q c
IsOfPaths program _ = ⊥
