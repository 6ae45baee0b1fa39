-- The permissions of what the procedure with a number holds.
use Rattle.std.proofs.Common.{◌≡◌, ℕ, List, [], refl}
use Rattle.std.specs.Prelude.{Option, None, Some, slice_get}
use Rattle.std.specs.Option.{option_map_or}
use Rattle.civl_bits.specs.declared.value.Value.{Value}
use Rattle.civl_tree.specs.declared.program.Proc.{Proc}
use Rattle.civl_tree.specs.declared.program.Program.{Program}
use Rattle.civl_conditions.specs.Permissions.{of_held}
use Rattle.civl_conditions.specs.Steps.{of_proc}

pub owned_there : (held : Proc → List ℕ) (program : Program) (number : ℕ) (locals : List Value) → of_held (of_proc program number [] held) locals ≡ of_proc program number [] (λ proc. of_held (held proc) locals)
owned_there held program number locals = by (slice_get program.procs number)
  where
    by : (o : Option Proc) → of_held (option_map_or held o []) locals ≡ option_map_or (λ proc. of_held (held proc) locals) o []
    by None = refl
    by (Some proc) = refl
