-- The conditions of the flag program:
--
--     civl 1; layers 1; permissions 1;
--     global f : bool layers 0 to 1;
--     init true;
--     action Set() -> () choose () layers 0 to 0 atomic gate GATE guard true { f := true; }
--     action AtomSet() -> () choose () layers 1 to 1 atomic gate true guard true { f := VALUE; }
--     proc DoSet() -> () refines AtomSet with () layer 1 { call Set() -> (); commit; }
--     thread DoSet();
use Rattle.std.specs.Prelude.{◌≡◌, true, false, [], ◌∷◌, map, codes}
use Rattle.civl_tree.specs.declared.expr.Expr.{Expr}
use Rattle.civl_tree.specs.declared.expr.Expr as expr
use Rattle.civl_tree.specs.declared.expr.Sort.TheVariants as sort
use Rattle.civl_tree.specs.declared.stmt.Stmt as stmt
use Rattle.civl_tree.specs.declared.program.Program.{Program}
use Rattle.civl_firing.specs.examples.Written.{name, global, update, action, refines, proc, thread, call, bool}
use Rattle.civl_conditions.specs.declared.condition.Condition.TheVariants.{Path}
use Rattle.civl_conditions.specs.declared.condition.Part.TheVariants.{Gate, Perform}
use Rattle.civl_conditions.specs.Listed.{conditions}
use Rattle.civl_conditions.specs.Names.{name_text}
use Rattle.civl_conditions.specs.Violated.{violated}
use Rattle.civl_conditions.specs.Weights.{weight, initial_weight}

abbrev pub flags_by : Expr → Expr → Program
flags_by gate value = record {
  version = 1;
  layers = 1;
  permissions = 1;
  globals = global (codes "f") sort.Bool 0 1 ∷ [];
  init = expr.True;
  invariants = [];
  actions =
      action (codes "Set") [] [] [] 0 0 gate expr.True (update (codes "f") expr.True ∷ [])
      ∷ action (codes "AtomSet") [] [] [] 1 1 expr.True expr.True (update (codes "f") value ∷ [])
      ∷ [];
  procs = proc (codes "DoSet") [] [] (refines (codes "AtomSet") 1) [] (call (codes "Set") [] [] ∷ stmt.Commit ∷ []) ∷ [];
  threads = thread (codes "DoSet") [] ∷ [];
}

abbrev pub flag_program : Expr → Program
flag_program gate = flags_by gate expr.True

abbrev pub FlagNames : Type 0
FlagNames =
    map (name_text (flag_program expr.True)) (conditions (flag_program expr.True))
    ≡ codes "K2 step 1 Set"
    ∷ codes "K9 gate step 1 DoSet from 0"
    ∷ codes "K9 invariant step 1 DoSet from 0"
    ∷ codes "K9 once step 1 DoSet from 0"
    ∷ codes "K9 stutter step 1 DoSet from 0"
    ∷ codes "K9 perform step 1 DoSet from 0"
    ∷ []

-- with `gate f` the first part from the entry is violated where f is false
abbrev pub FlagViolated : Type 0
FlagViolated =
    map (λ f. violated (flag_program (name (codes "f"))) (Path Gate 1 0 0) (bool f ∷ [])) (false ∷ true ∷ []) ≡ true ∷ false ∷ []

-- of all its conditions only that one fails, where f is false
abbrev pub GatedConditions : Type 0
GatedConditions =
    map (λ c. map (λ f. violated (flag_program (name (codes "f"))) c (bool f ∷ [])) (false ∷ true ∷ [])) (conditions (flag_program (name (codes "f"))))
    ≡ (false ∷ false ∷ [])
    ∷ (true ∷ false ∷ [])
    ∷ (false ∷ false ∷ [])
    ∷ (false ∷ false ∷ [])
    ∷ (false ∷ false ∷ [])
    ∷ (false ∷ false ∷ [])
    ∷ []

-- with `f := false` in AtomSet the last part is violated, whatever f is
abbrev pub OtherFlagFails : Type 0
OtherFlagFails = map (λ f. violated (flags_by expr.True expr.False) (Path Perform 1 0 0) (bool f ∷ [])) (false ∷ true ∷ []) ≡ true ∷ true ∷ []

-- the weights of the search for an initial store and of the conditions
abbrev pub FlagWeights : Type 0
FlagWeights =
    (initial_weight (flag_program expr.True) ≡ 2)
    × (map (weight (flag_program expr.True)) (conditions (flag_program expr.True)) ≡ 4 ∷ 8 ∷ 8 ∷ 8 ∷ 9 ∷ 11 ∷ [])
