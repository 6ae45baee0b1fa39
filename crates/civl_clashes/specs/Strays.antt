-- An action that loses a target: an invariant of the step, or the invariant of another thread's yield (interference freedom: Owicki
-- and Gries, 1976).
use Rattle.std.specs.Prelude.{ℕ, Bool, ◌&&◌, if◌then◌else◌, List, ◌++◌, Option, None, Some, option_and_then}
use Rattle.civl_bits.specs.declared.value.Value.{Value}
use Rattle.civl_tree.specs.declared.program.Program.{Program}
use Rattle.civl_firing.specs.declared.store.Store.{Store}
use Rattle.civl_meaning.specs.Permissions.{pairwise_disjoint}
use Rattle.civl_conditions.specs.declared.condition.Target.{Target}
use Rattle.civl_conditions.specs.Values.{Invoked}
use Rattle.civl_conditions.specs.Permissions.{in_store, of_inputs}
use Rattle.civl_conditions.specs.Movers.{gate_of}
use Rattle.civl_conditions.specs.Invariants.{invariants_hold}
use Rattle.civl_conditions.specs.Targets.{target_owned, target_lost}
use Rattle.civl_clashes.specs.declared.violations.Effect.{Effect}
use Rattle.civl_clashes.specs.Effects.{effect_of}

-- the linear globals, the linear inputs and the held locals of the frame at the target are pairwise disjoint
abbrev pub apart_beside : Program → Store → Invoked → Target → List Value → ℕ → Bool
apart_beside program g x target values at = pairwise_disjoint (in_store program g ++ (of_inputs x ++ target_owned program target values at))

-- what was left, where it loses the target
abbrev pub lost_in : Program → ℕ → Store → Target → List Value → ℕ → Effect → Option Effect
lost_in program step g target values at a = if target_lost program step target values at g a.store then Some a else None

-- the invariants of the step and the gate hold, what goes in is disjoint and x is made; but what it leaves loses the target
abbrev pub stray_of : Program → ℕ → Store → Invoked → Target → List Value → ℕ → Option Effect
stray_of program step g x target values at =
    if invariants_hold program step g && (gate_of program g x && apart_beside program g x target values at)
    then option_and_then (lost_in program step g target values at) (effect_of program g x)
    else None
