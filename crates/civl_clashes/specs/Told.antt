-- What values violate a condition on actions by.
use Rattle.std.specs.Prelude.{ℕ, ◌+◌, ◌-◌, nat_eq, if◌then◌else◌, List, Option, None, Some, option_map}
use Rattle.civl_bits.specs.declared.value.Value.{Value}
use Rattle.civl_tree.specs.declared.program.Program.{Program}
use Rattle.civl_firing.specs.declared.store.Store.{Store}
use Rattle.civl_conditions.specs.footprints.Agreement.{exists_at}
use Rattle.civl_conditions.specs.paths.Seen.{exists_near}
use Rattle.civl_conditions.specs.declared.condition.Condition.{Condition}
use Rattle.civl_conditions.specs.declared.condition.Condition.TheVariants as condition
use Rattle.civl_conditions.specs.declared.condition.Target.{Target}
use Rattle.civl_conditions.specs.Steps.{of_action}
use Rattle.civl_conditions.specs.Values.{Invoked, invoked, store_of, count_of, instance_count}
use Rattle.civl_conditions.specs.Movers.{apart}
use Rattle.civl_conditions.specs.Invariants.{start_fails}
use Rattle.civl_clashes.specs.declared.violations.Violation.{Violation}
use Rattle.civl_clashes.specs.declared.violations.Violation.TheVariants.{Starts, Loses, Clashes, Spoils, Reveals, Waits, Strays}
use Rattle.civl_clashes.specs.Effects.{instance, pair}
use Rattle.civl_clashes.specs.Clashes.{clash_of}
use Rattle.civl_clashes.specs.Losses.{loss_of}
use Rattle.civl_clashes.specs.Gates.{spoil_of, reveal_of, wait_of}
use Rattle.civl_clashes.specs.Strays.{stray_of}

-- K3 to K7 by their numbers, of the actions with the numbers m and n
abbrev pub pair_violation : Program → ℕ → ℕ → Store → ℕ → Invoked → ℕ → Invoked → Option Violation
pair_violation program number step g m x n y =
    if nat_eq number 3 then option_map (Clashes (pair g m x n y)) (clash_of program step g x y)
    else if nat_eq number 4 then option_map (Spoils (pair g m x n y)) (spoil_of program g x y)
    else if nat_eq number 5 then option_map (Clashes (pair g n y m x)) (clash_of program step g y x)
    else if nat_eq number 6 then option_map (Spoils (pair g n y m x)) (spoil_of program g y x)
    else if nat_eq number 7 then option_map (Reveals (pair g m x n y)) (reveal_of program g x y)
    else None

-- the same, where their permissions and those of the globals are apart
abbrev pub apart_violation : Program → ℕ → ℕ → Store → ℕ → Invoked → ℕ → Invoked → Option Violation
apart_violation program number step g m x n y = if apart program g x y then pair_violation program number step g m x n y else None

-- K8, of the action with the number m
abbrev pub fire_violation : Program → Store → ℕ → Invoked → Option Violation
fire_violation program g m x = option_map (λ y. Waits g (instance m y)) (wait_of program g x)

-- K1: an initial store in which the invariant is false
abbrev pub start_violation : Program → ℕ → ℕ → Store → Option Violation
start_violation program step i g = if start_fails program step i g then Some (Starts g) else None

-- K2, of the action with the number m
abbrev pub keep_violation : Program → Store → ℕ → Invoked → Option Violation
keep_violation program g m x = option_map (λ l. Loses g (instance m x) l.0 l.1) (loss_of program g x)

-- K11, of the action with the number m; the values of the frame at the target stand from a place on
abbrev pub act_violation : Program → ℕ → Store → ℕ → Invoked → Target → List Value → ℕ → Option Violation
act_violation program step g m x target values at = option_map (Strays g (instance m x)) (stray_of program step g x target values at)

-- what the values, one for each variable of the condition in their order, violate it by; nothing where they don't
unfoldable pub violation : Program → Condition → List Value → Option Violation
violation program (condition.Start step i) values = start_violation program step i (record { values = values })
violation program (condition.Keep step m) values =
    of_action program m None (λ a. keep_violation program (store_of (exists_at (step - 1)) program values) m
    (invoked values (count_of (exists_at (step - 1)) program) a))
violation program (condition.Pair number step m n) values =
    of_action program m None (λ a. of_action program n None (λ b.
    apart_violation program number step (store_of (exists_at (step - 1)) program values)
    m (invoked values (count_of (exists_at (step - 1)) program) a)
    n (invoked values (count_of (exists_at (step - 1)) program + instance_count a) b)))
violation program (condition.Fire step m) values =
    of_action program m None (λ a. fire_violation program (store_of (exists_at (step - 1)) program values) m
    (invoked values (count_of (exists_at (step - 1)) program) a))
violation program (condition.Act step m target) values =
    of_action program m None (λ a. act_violation program step (store_of (exists_near step) program values) m
    (invoked values (count_of (exists_near step) program) a) target values (count_of (exists_near step) program + instance_count a))
violation program _ values = None
