-- The sorts of conditions' variables: what they are, that they are within the limits, and their bits.
use Rattle.std.specs.Prelude.{map, filter, slice_get, codes, IsTrue, if◌then◌else◌}
use Rattle.std.specs.Option.{option_map_or}
use Rattle.std.proofs.Common.{◌≡◌, ◌∙◌, ℕ, suc, ◌+◌, ◌-◌, ◌≤◌, Bool, true, false, List, [], ◌∷◌, ◌++◌, length, refl, ap, ap₂, arith, Option, Some}
use Rattle.std.proofs.lemmas.List.{length-map, length-append, map-append}
use Rattle.std.proofs.lemmas.List.Elements.{All-filter, All-map}
use mathlib.Core.List.{map-map}
use Rattle.civl_tree.specs.declared.expr.Sort.{Sort}
use Rattle.civl_tree.specs.declared.action.Action.{Action}
use Rattle.civl_tree.specs.declared.program.Global.{Global}
use Rattle.civl_tree.specs.declared.program.Program.{Program}
use Rattle.civl_tree.specs.rules.StoreSize.{bits_of}
use Rattle.civl_tree.specs.rules.Rules.{Keeps}
use Rattle.civl_tree.specs.rules.Typing.{typing_rules}
use Rattle.civl_firing.specs.values.Values.{is_sort}
use Rattle.civl_conditions.specs.footprints.Agreement.{exists_at}
use Rattle.civl_conditions.specs.declared.condition.Variable.{Variable}
use Rattle.civl_conditions.specs.declared.condition.Condition.TheVariants.{Start, Keep, Pair, Fire, Act}
use Rattle.civl_conditions.specs.declared.condition.Target.{Target}
use Rattle.civl_conditions.specs.Variables.{variables, of_globals, of_params, of_choices, of_instance, other_variables}
use Rattle.civl_conditions.specs.Weights.{bits_of_variables}
use Rattle.civl_states.specs.formula_parts.Given.{bits_of_sorts}
use Rattle.civl_states.specs.Stores.{global_sorts}
use Rattle.civl_meaning.specs.Config.{choice_sorts}
use Rattle.civl_states.specs.Runs.{param_sorts, instance_sorts}
use Rattle.civl_states.specs.Existing.{passes, existing_sorts}
use Rattle.civl_states.specs.declared.stores.Existing.{Existing}
use Rattle.civl_states.specs.declared.stores.Existing.TheVariants.{Layer, Near}
use Rattle.civl_states.specs.Formulas.{sorts_of}
use Rattle.civl_states.proofs.Limits.{AreSorts, sorts_append, globals_few, action_few, global_sorts_are, param_sorts_are, choice_sorts_are}
use Rattle.civl_states.proofs.Spreading.{each_limited}
use Rattle.civl_states.proofs.Weighing.{bits_some}

-- ---- variables of one kind

abbrev sort_of_variable : Variable → Sort
sort_of_variable v = v.sort

pub globals_named : (front : List ℕ) (gs : List Global) → map (λ v. v.sort) (of_globals front gs) ≡ map (λ g. g.sort) gs
globals_named front gs = map-map sort_of_variable _ gs

pub instance_named : (front : List ℕ) (a : Action) → map (λ v. v.sort) (of_instance front a) ≡ instance_sorts a
instance_named front a = map-append sort_of_variable (of_params front a.params) (of_choices front a.choices) ∙ ap₂ (λ (s t : List Sort). s ++ t) (map-map sort_of_variable _ a.params) (map-map sort_of_variable _ a.choices)

pub params_named : (front : List ℕ) (a : Action) → map (λ v. v.sort) (of_params front a.params) ≡ param_sorts a
params_named front a = map-map sort_of_variable _ a.params

-- what is said of the action that is there
pub there_is : {A B : Type 0} (o : Option A) (a : A) (none : B) (f : A → B) → o ≡ Some a → option_map_or f o none ≡ f a
there_is o a none f e = ap (λ p. option_map_or f p none) e

-- ---- those of conditions

module _ (program : Program) (step x : ℕ) (a : Action) (at : slice_get program.actions x ≡ Some a) where
  pub keep_sorts : sorts_of program (Keep step x) ≡ existing_sorts (Layer (step - 1)) program ++ instance_sorts a
  unfolding variables
  keep_sorts =
      map-append sort_of_variable _ _
      ∙ ap₂ (λ (s t : List Sort). s ++ t) (globals_named [] (filter (exists_at (step - 1)) program.globals)) (ap (map sort_of_variable) (there_is (slice_get program.actions x) a [] _ at) ∙ instance_named (codes "X.") a)

  pub fire_sorts : sorts_of program (Fire step x) ≡ existing_sorts (Layer (step - 1)) program ++ param_sorts a
  unfolding variables
  fire_sorts =
      map-append sort_of_variable _ _
      ∙ ap₂ (λ (s t : List Sort). s ++ t) (globals_named [] (filter (exists_at (step - 1)) program.globals)) (ap (map sort_of_variable) (there_is (slice_get program.actions x) a [] _ at) ∙ params_named (codes "X.") a)

  pub pair_sorts : (number y : ℕ) (b : Action) → slice_get program.actions y ≡ Some b → sorts_of program (Pair number step x y) ≡ existing_sorts (Layer (step - 1)) program ++ (instance_sorts a ++ instance_sorts b)
  unfolding variables
  pair_sorts number y b bt =
      map-append sort_of_variable _ _
      ∙ ap₂ (λ (s t : List Sort). s ++ t) (globals_named [] (filter (exists_at (step - 1)) program.globals))
      (map-append sort_of_variable _ _
      ∙ ap₂ (λ (s t : List Sort). s ++ t) (ap (map sort_of_variable) (there_is (slice_get program.actions x) a [] _ at) ∙ instance_named (codes "X.") a) (ap (map sort_of_variable) (there_is (slice_get program.actions y) b [] _ bt) ∙ instance_named (codes "Y.") b))

  pub act_sorts : (target : Target) → sorts_of program (Act step x target) ≡ existing_sorts (Near step) program ++ (instance_sorts a ++ map (λ v. v.sort) (other_variables program target))
  unfolding variables
  act_sorts target =
      map-append sort_of_variable _ _
      ∙ ap₂ (λ (s t : List Sort). s ++ t) (globals_named [] (filter (passes (Near step)) program.globals))
      (map-append sort_of_variable _ _
      ∙ ap (λ (s : List Sort). s ++ map sort_of_variable (other_variables program target)) (ap (map sort_of_variable) (there_is (slice_get program.actions x) a [] _ at) ∙ instance_named (codes "X.") a))

pub start_sorts : (program : Program) (step i : ℕ) → sorts_of program (Start step i) ≡ global_sorts program
unfolding variables
start_sorts program step i = globals_named [] program.globals

-- ---- bits

pub bits_same : (vs : List Variable) → bits_of_variables vs ≡ bits_of_sorts (map (λ v. v.sort) vs)
bits_same [] = refl
bits_same (v ∷ vs) = ap (λ n. bits_of v.sort + n) (bits_same vs)

-- there are no more sorts within the limits than bits of them
pub long_bits : (ss : List Sort) → AreSorts ss → length ss ≤ bits_of_sorts ss
long_bits [] h = omega arith
long_bits (s ∷ ss) h = omega (arith, bits_some s (h 0 s (omega arith)), long_bits ss (λ i d l. h (suc i) d (omega (arith, l))))

-- ---- the limits

kept_few : {A : Type 0} (test : A → Bool) (xs : List A) → length (filter test xs) ≤ length xs
kept_few test [] = omega arith
kept_few test (x ∷ xs) = by (test x) (kept_few test xs)
  where
    by : (b : Bool) → length (filter test xs) ≤ length xs → length (if b then x ∷ filter test xs else filter test xs) ≤ length (x ∷ xs)
    by true l = omega (arith, l)
    by false l = omega (arith, l)

module _ (program : Program) (keeps : Keeps typing_rules program) where
  pub existing_few : (which : Existing) → length (filter (passes which) program.globals) ≤ 64
  existing_few which = omega (arith, kept_few (passes which) program.globals, globals_few program keeps)

  pub existing_long : (which : Existing) → length (existing_sorts which program) ≤ 64
  existing_long which = omega (arith, length-map (filter (passes which) program.globals) (λ g. g.sort), existing_few which)

  pub existing_are : (which : Existing) → AreSorts (existing_sorts which program)
  existing_are which =
      All-map (λ s. IsTrue (is_sort s)) (λ (g : Global). g.sort) (filter (passes which) program.globals)
      (All-filter (passes which) (λ (g : Global). IsTrue (is_sort g.sort)) program.globals (each_limited program.globals (global_sorts_are program keeps)))

  pub instance_long : (x : ℕ) (a : Action) → slice_get program.actions x ≡ Some a → length (instance_sorts a) ≤ 32
  instance_long x a at =
      omega (arith, length-append (param_sorts a) (choice_sorts a), length-map a.params (λ p. p.sort), length-map a.choices (λ c. c.sort), action_few program keeps x a at)

  pub instance_are : (x : ℕ) (a : Action) → slice_get program.actions x ≡ Some a → AreSorts (instance_sorts a)
  instance_are x a at = sorts_append (param_sorts a) (choice_sorts a) (param_sorts_are program keeps x a at) (choice_sorts_are program keeps x a at)
