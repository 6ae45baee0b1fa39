-- A violation is told exactly where values violate a condition on actions.
use Rattle.std.specs.Prelude.{◌≡◌, ℕ, Bool, true, false, List, is_some}
use Rattle.civl_bits.specs.declared.value.Value.{Value}
use Rattle.civl_tree.specs.declared.program.Program.{Program}
use Rattle.civl_firing.specs.declared.store.Store.{Store}
use Rattle.civl_conditions.specs.declared.condition.Condition.{Condition}
use Rattle.civl_conditions.specs.declared.condition.Condition.TheVariants.{Start, Keep, Pair, Fire, Act}
use Rattle.civl_conditions.specs.declared.condition.Target.{Target}
use Rattle.civl_conditions.specs.Values.{Invoked}
use Rattle.civl_conditions.specs.Movers.{loses, clashes, spoils, reveals, waits}
use Rattle.civl_conditions.specs.Invariants.{start_fails}
use Rattle.civl_conditions.specs.Targets.{act_fails}
use Rattle.civl_conditions.specs.Violated.{violated}
use Rattle.civl_clashes.specs.Clashes.{clash_of}
use Rattle.civl_clashes.specs.Losses.{loss_of}
use Rattle.civl_clashes.specs.Gates.{spoil_of, reveal_of, wait_of}
use Rattle.civl_clashes.specs.Strays.{stray_of}
use Rattle.civl_clashes.specs.Told.{start_violation, violation}

-- K3 and K5
abbrev pub ClashesAreTold : Type 0
ClashesAreTold = (program : Program) (step : ℕ) (g : Store) (x y : Invoked) → is_some (clash_of program step g x y)
    ≡ clashes program step g x y

-- K4 and K6
abbrev pub SpoilsAreTold : Type 0
SpoilsAreTold = (program : Program) (g : Store) (x y : Invoked) → is_some (spoil_of program g x y) ≡ spoils program g x y

-- K7
abbrev pub RevealsAreTold : Type 0
RevealsAreTold = (program : Program) (g : Store) (x y : Invoked) → is_some (reveal_of program g x y) ≡ reveals program g x y

-- K8
abbrev pub WaitsAreTold : Type 0
WaitsAreTold = (program : Program) (g : Store) (x : Invoked) → is_some (wait_of program g x) ≡ waits program g x

-- K1
abbrev pub StartsAreTold : Type 0
StartsAreTold = (program : Program) (step i : ℕ) (g : Store) → is_some (start_violation program step i g) ≡ start_fails program step i g

-- K2
abbrev pub LossesAreTold : Type 0
LossesAreTold = (program : Program) (g : Store) (x : Invoked) → is_some (loss_of program g x) ≡ loses program g x

-- K11
abbrev pub StraysAreTold : Type 0
StraysAreTold = (program : Program) (step : ℕ) (g : Store) (x : Invoked) (target : Target) (values : List Value) (at : ℕ) →
    is_some (stray_of program step g x target values at) ≡ act_fails program step g x target values at

-- a condition of K1 to K8 or K11, for which violations are told
abbrev pub is_told : Condition → Bool
is_told (Start step i) = true
is_told (Keep step m) = true
is_told (Pair number step m n) = true
is_told (Fire step m) = true
is_told (Act step m target) = true
is_told _ = false

abbrev pub ViolationsAreTold : Type 0
ViolationsAreTold =
    (program : Program) (condition : Condition) (values : List Value) →
    is_told condition ≡ true → is_some (violation program condition values) ≡ violated program condition values
