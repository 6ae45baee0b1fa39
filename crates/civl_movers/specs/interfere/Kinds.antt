-- The conditions on initial stores, and those on actions that run beside other threads.
use Rattle.std.specs.Prelude.{◌<◌, length}
use Rattle.civl_tree.specs.declared.program.Program.{Program}
use Rattle.civl_conditions.specs.declared.condition.Condition.{Condition}
use Rattle.civl_conditions.specs.declared.condition.Condition.TheVariants.{Start, Act}
use Rattle.civl_conditions.specs.declared.condition.Target.TheVariants.{Invariant}

-- K1, and K11 to an invariant of the step, of an action that there is
abbrev pub IsOfInvariants : Program → Condition → Type 0
IsOfInvariants program (Start step i) = Unit {0}
IsOfInvariants program (Act step x (Invariant i)) = x < length program.actions
IsOfInvariants program _ = ⊥
