-- When values violate a condition, and when a condition holds.
use Rattle.std.specs.Prelude.{◌+◌, ◌-◌, ◌≡◌, Bool, false, IsTrue, List, map, Contains}
use Rattle.civl_bits.specs.declared.value.Value.{Value}
use Rattle.civl_firing.specs.values.Values.{HaveSorts}
use Rattle.civl_tree.specs.declared.program.Program.{Program}
use Rattle.civl_conditions.specs.footprints.Agreement.{exists_at}
use Rattle.civl_conditions.specs.paths.Seen.{exists_near}
use Rattle.civl_conditions.specs.declared.condition.Condition.{Condition}
use Rattle.civl_conditions.specs.declared.condition.Condition.TheVariants.{Start, Keep, Pair, Fire, Path, Block, Act}
use Rattle.civl_conditions.specs.Listed.{conditions}
use Rattle.civl_conditions.specs.Steps.{of_action, of_cut}
use Rattle.civl_conditions.specs.Variables.{variables}
use Rattle.civl_conditions.specs.Values.{store_of, count_of, invoked, instance_count, layout, begun}
use Rattle.civl_conditions.specs.Movers.{loses, waits, pair_fails}
use Rattle.civl_conditions.specs.Invariants.{start_fails}
use Rattle.civl_conditions.specs.Parts.{path_fails}
use Rattle.civl_conditions.specs.Targets.{block_fails, act_fails}

-- the values, one for each variable of the condition in their order, meet what the condition assumes and not what it
-- concludes
unfoldable pub violated : Program → Condition → List Value → Bool
violated program (Start step i) values = start_fails program step i (record { values = values })
violated program (Keep step x) values =
    of_action program x false (λ a. loses program (store_of (exists_at (step - 1)) program values) (invoked values (count_of (exists_at (step - 1)) program) a))
violated program (Pair number step x y) values =
    of_action program x false (λ a. of_action program y false (λ b.
    pair_fails program number step (store_of (exists_at (step - 1)) program values)
    (invoked values (count_of (exists_at (step - 1)) program) a)
    (invoked values (count_of (exists_at (step - 1)) program + instance_count a) b)))
violated program (Fire step x) values =
    of_action program x false (λ a. waits program (store_of (exists_at (step - 1)) program values) (invoked values (count_of (exists_at (step - 1)) program) a))
violated program (Path part step q c) values =
    of_cut program q c false (λ proc cut. path_fails program step part proc c cut (begun program step proc cut values))
violated program (Block step q c target) values =
    of_cut program q c false (λ proc cut. block_fails program step proc c cut (begun program step proc cut values) target values (layout program step proc cut).behind)
violated program (Act step x target) values =
    of_action program x false (λ a.
    act_fails program step (store_of (exists_near step) program values)
    (invoked values (count_of (exists_near step) program) a) target values (count_of (exists_near step) program + instance_count a))

-- values for the variables of a condition: one of its sort for each
abbrev pub AreValuesOf : Program → Condition → List Value → Type 0
AreValuesOf program condition values = HaveSorts values (map (λ v. v.sort) (variables program condition))

-- values for its variables that violate it
pub record Violates (program : Program) (condition : Condition) (values : List Value) : Type 0 where
  pub fit : AreValuesOf program condition values
  pub fail : IsTrue (violated program condition values)

-- no values for its variables violate it
abbrev pub Holds : Program → Condition → Type 0
Holds program condition = (values : List Value) → AreValuesOf program condition values → violated program condition values ≡ false

-- all conditions of a program hold
abbrev pub AllHold : Program → Type 0
AllHold program = (condition : Condition) → Contains (conditions program) condition → Holds program condition
