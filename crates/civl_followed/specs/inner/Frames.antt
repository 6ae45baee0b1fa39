-- Serves private functions: a frame that was kept, with its procedure.
use Rattle.std.specs.Prelude.{◌≡◌, Option, None, Some, slice_get}
use Rattle.civl_tree.specs.declared.program.Proc.{Proc}
use Rattle.civl_tree.specs.declared.program.Program.{Program}
use Rattle.civl_meaning.specs.declared.config.Activation.{Activation}

abbrev pub IsKept : Program → Option Activation → Option (Proc × Activation) → Type 0
IsKept program None there = there ≡ None
IsKept program (Some frame) there = (proc : Proc) × (slice_get program.procs frame.procedure ≡ Some proc) × (there ≡ Some (proc, frame))
