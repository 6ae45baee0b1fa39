-- What a condition assumes is that all that is listed is so.
use Rattle.std.specs.Prelude.{ℕ, ◌+◌, ◌-◌, ◌≡◌, Bool, true, not, ◌&&◌, ◌||◌, nat_eq, if◌then◌else◌, List, ◌++◌}
use Rattle.std.specs.List.{list_all}
use Rattle.civl_bits.specs.declared.value.Value.{Value}
use Rattle.civl_tree.specs.declared.program.Proc.{Proc}
use Rattle.civl_tree.specs.declared.program.Program.{Program}
use Rattle.civl_firing.specs.declared.store.Store.{Store}
use Rattle.civl_meaning.specs.Permissions.{pairwise_disjoint}
use Rattle.civl_layers.specs.declared.cut.Cut.{Cut}
use Rattle.civl_conditions.specs.declared.condition.Condition.{Condition}
use Rattle.civl_conditions.specs.declared.condition.Condition.TheVariants.{Start, Keep, Pair, Fire, Path, Block, Act}
use Rattle.civl_conditions.specs.declared.condition.Target.{Target}
use Rattle.civl_conditions.specs.declared.condition.Target.TheVariants as target
use Rattle.civl_conditions.specs.footprints.Agreement.{exists_at}
use Rattle.civl_conditions.specs.paths.Seen.{exists_near}
use Rattle.civl_conditions.specs.Assumed.{assumed, owned}
use Rattle.civl_conditions.specs.Invariants.{invariants_hold, meets_init}
use Rattle.civl_conditions.specs.Movers.{apart, gate_of}
use Rattle.civl_conditions.specs.Permissions.{in_store, of_inputs}
use Rattle.civl_conditions.specs.Steps.{of_action, of_cut}
use Rattle.civl_conditions.specs.Targets.{other_of, target_owned, yield_holds}
use Rattle.civl_conditions.specs.Values.{Begun, Invoked, begun, count_of, instance_count, invoked, layout, store_of}
use Rattle.civl_conditions.specs.Violated.{violated}
use Rattle.civl_assumptions.specs.Assumptions.{assumptions, holds}

-- ---- what is assumed, as the conditions have it

-- a yield's invariant holds before of another thread's frame, whose values stand from a place on
abbrev pub holds_before : Program → Target → List Value → ℕ → Store → Bool
holds_before program (target.Invariant i) values at g = true
holds_before program (target.Yield r y) values at g =
    of_cut program r y true (λ proc cut. yield_holds program proc cut (other_of proc values at) g)

-- K2
abbrev pub keep_assumes : Program → Store → Invoked → Bool
keep_assumes program g x = pairwise_disjoint (in_store program g ++ of_inputs x) && gate_of program g x

-- K3 to K7; in K7 the second gate is false
abbrev pub pair_assumes : Program → ℕ → Store → Invoked → Invoked → Bool
pair_assumes program number g x y =
    apart program g x y && (gate_of program g x && (if nat_eq number 7 then not (gate_of program g y) else gate_of program g y))

-- K10
abbrev pub block_assumes : Program → ℕ → Proc → ℕ → Cut → Begun → Target → List Value → ℕ → Bool
block_assumes program step proc c cut b target values at =
    assumed program step proc c cut b
    && (pairwise_disjoint (owned program proc c b ++ target_owned program target values at) && holds_before program target values at b.old)

-- K11
abbrev pub act_assumes : Program → ℕ → Store → Invoked → Target → List Value → ℕ → Bool
act_assumes program step g x target values at =
    invariants_hold program step g
    && (gate_of program g x
    && (pairwise_disjoint (in_store program g ++ (of_inputs x ++ target_owned program target values at))
    && holds_before program target values at g))

-- all that a condition assumes with these values, as one truth: where it is false they don't violate it, whatever comes of them
unfoldable pub is_assumed : Program → Condition → List Value → Bool
is_assumed program (Start step i) values = meets_init program (record { values = values })
is_assumed program (Keep step m) values =
    of_action program m true (λ a. keep_assumes program (store_of (exists_at (step - 1)) program values)
    (invoked values (count_of (exists_at (step - 1)) program) a))
is_assumed program (Pair number step m n) values =
    of_action program m true (λ a. of_action program n true (λ b.
    pair_assumes program number (store_of (exists_at (step - 1)) program values)
    (invoked values (count_of (exists_at (step - 1)) program) a)
    (invoked values (count_of (exists_at (step - 1)) program + instance_count a) b)))
is_assumed program (Fire step m) values =
    of_action program m true (λ a. gate_of program (store_of (exists_at (step - 1)) program values)
    (invoked values (count_of (exists_at (step - 1)) program) a))
is_assumed program (Path part step q c) values =
    of_cut program q c true (λ proc cut. assumed program step proc c cut (begun program step proc cut values))
is_assumed program (Block step q c target) values =
    of_cut program q c true (λ proc cut. block_assumes program step proc c cut (begun program step proc cut values) target values
    (layout program step proc cut).behind)
is_assumed program (Act step m target) values =
    of_action program m true (λ a. act_assumes program step (store_of (exists_near step) program values)
    (invoked values (count_of (exists_near step) program) a) target values (count_of (exists_near step) program + instance_count a))

-- the one thing that isn't told: at a cut `done` is true where old `done` is
abbrev pub stays_done : Begun → Bool
stays_done b = not b.old_done || b.done

unfoldable pub done_stays : Program → Condition → List Value → Bool
done_stays program (Path part step q c) values = of_cut program q c true (λ proc cut. stays_done (begun program step proc cut values))
done_stays program (Block step q c target) values = of_cut program q c true (λ proc cut. stays_done (begun program step proc cut values))
done_stays program _ values = true

-- ---- laws

-- each thing that is told is so
abbrev pub all_hold : Program → Condition → List Value → Bool
all_hold program condition values = list_all (holds program) (assumptions program condition values)

-- A condition assumes just that each of them is so, and that what is done stays done.
abbrev pub AssumedIsListed : Type 0
AssumedIsListed =
    (program : Program) (condition : Condition) (values : List Value)
    → is_assumed program condition values ≡ (all_hold program condition values && done_stays program condition values)

-- Values violate a condition only where it is so.
abbrev pub ViolatedIsAssumed : Type 0
ViolatedIsAssumed =
    (program : Program) (condition : Condition) (values : List Value)
    → violated program condition values ≡ true → is_assumed program condition values ≡ true

-- So each thing that is told of values that violate a condition is so.
abbrev pub ToldIsSo : Type 0
ToldIsSo =
    (program : Program) (condition : Condition) (values : List Value)
    → violated program condition values ≡ true → all_hold program condition values ≡ true
