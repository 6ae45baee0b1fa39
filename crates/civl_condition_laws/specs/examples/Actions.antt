-- Values that violate conditions on initial stores and on one action, and the same with one value changed.
use Rattle.std.specs.Prelude.{ℕ, ◌≡◌, Bool, true, false, List, [], ◌∷◌, map, codes}
use Rattle.civl_bits.specs.declared.value.Value.{Value}
use Rattle.civl_tree.specs.declared.expr.Expr.{Expr}
use Rattle.civl_tree.specs.declared.expr.Expr as expr
use Rattle.civl_tree.specs.declared.expr.Two.TheVariants.{Eq, And, BitAnd, BitOr, Shl}
use Rattle.civl_tree.specs.declared.expr.Sort.TheVariants as sort
use Rattle.civl_tree.specs.declared.action.Mode.{Mode}
use Rattle.civl_tree.specs.declared.action.Mode.TheVariants.{Val, Lend, Take, Give}
use Rattle.civl_tree.specs.declared.action.Mover.TheVariants.{Left}
use Rattle.civl_tree.specs.declared.action.Update.{Update}
use Rattle.civl_tree.specs.declared.program.Program.{Program}
use Rattle.civl_firing.specs.examples.Written.{word, bool, name, lit, global, param, choice, update, action, root, proc, thread}
use Rattle.civl_conditions.specs.declared.condition.Condition.TheVariants.{Start, Keep, Fire}
use Rattle.civl_conditions.specs.Violated.{violated}
use Rattle.civl_condition_laws.specs.examples.Short.{moving, linear_global, one_step}

-- ---- K1

-- a flag, and a linear global beside a thread that holds the permission 0:
--
--     civl 1; layers 2; permissions 1;
--     global f : bool layers 0 to 2;
--     global linear pool : word(2) layers 0 to 2;
--     init f;
--     invariant 2 false;
--     invariant 1 (pool == 2:2);
--     invariant 1 (pool == 1:2);
--     proc Main(lend t : word(1)) -> () root { }
--     thread Main(0:1);
abbrev pool : Expr
pool = name (codes "pool")

abbrev starting : Program
starting = record {
  version = 1;
  layers = 2;
  permissions = 1;
  globals = global (codes "f") sort.Bool 0 2 ∷ linear_global (codes "pool") (sort.Word 2) 0 2 ∷ [];
  init = name (codes "f");
  invariants =
      record { step = 2; expr = expr.False }
      ∷ record { step = 1; expr = expr.Two Eq pool (lit 2 2) }
      ∷ record { step = 1; expr = expr.Two Eq pool (lit 1 2) }
      ∷ [];
  actions = [];
  procs = proc (codes "Main") (param Lend (codes "t") (sort.Word 1) ∷ []) [] root [] [] ∷ [];
  threads = thread (codes "Main") (lit 0 1 ∷ []) ∷ [];
}

-- f and pool are initial where f is true and pool has at most the permission 1, which is pool 0 or pool 2. Pool 2 meets
-- the first invariant of step 1 and not the second; pool 3 isn't initial, nor is f false; and no store meets that of step 2
abbrev pub StartingFails : Type 0
StartingFails =
    (map (violated starting (Start 1 1)) ((bool true ∷ word 2 2 ∷ []) ∷ (bool false ∷ word 2 2 ∷ []) ∷ (bool true ∷ word 2 3 ∷ []) ∷ (bool true ∷ word 2 1 ∷ []) ∷ []) ≡ true ∷ false ∷ false ∷ false ∷ [])
    × (map (violated starting (Start 1 0)) ((bool true ∷ word 2 0 ∷ []) ∷ (bool true ∷ word 2 2 ∷ []) ∷ []) ≡ true ∷ false ∷ [])
    × (map (violated starting (Start 2 0)) ((bool true ∷ word 2 2 ∷ []) ∷ (bool false ∷ word 2 2 ∷ []) ∷ []) ≡ true ∷ false ∷ [])

-- ---- K2

-- an action that gives the permission 0, with and without taking it out of the pool:
--
--     global linear pool : word(2) layers 0 to 1;
--     action Grab() -> (give a : word(1)) choose () layers 0 to 0 atomic gate GATE guard true { a := 0:1; MORE }
abbrev grabbing : Expr → List Update → Program
grabbing gate more =
    one_step (linear_global (codes "pool") (sort.Word 2) 0 1 ∷ []) [] (action (codes "Grab") [] (param Give (codes "a") (sort.Word 1) ∷ []) [] 0 0 gate expr.True (update (codes "a") (lit 0 1) ∷ more) ∷ []) []

abbrev pools : List ℕ
pools = 0 ∷ 1 ∷ 2 ∷ 3 ∷ []

-- without it the permission is made where the pool hasn't it, and doubled where it has; with it all is well, by the gate
abbrev pub GrabbingFails : Type 0
GrabbingFails =
    (map (λ n. violated (grabbing expr.True []) (Keep 1 0) (word 2 n ∷ [])) pools ≡ true ∷ true ∷ true ∷ true ∷ [])
    × (map (λ n. violated (grabbing expr.True (update (codes "pool") (expr.Two BitAnd pool (lit 2 2)) ∷ [])) (Keep 1 0) (word 2 n ∷ [])) pools ≡ true ∷ false ∷ true ∷ false ∷ [])
    × (map (λ n. violated (grabbing (expr.Two Eq (expr.Two BitAnd pool (lit 1 2)) (lit 1 2)) (update (codes "pool") (expr.Two BitAnd pool (lit 2 2)) ∷ [])) (Keep 1 0) (word 2 n ∷ [])) pools ≡ false ∷ false ∷ false ∷ false ∷ [])

-- an action that puts the permission of its parameter into the pool:
--
--     global linear pool : word(2) layers 0 to 1;
--     action Put(MODE t : word(1)) -> () choose (c : bool = true) layers 0 to 0 atomic gate true guard c
--       { pool := (pool | (1:2 << widen(t, 2))); }
abbrev putting : Mode → Program
putting mode =
    one_step (linear_global (codes "pool") (sort.Word 2) 0 1 ∷ []) [] (
    action (codes "Put") (param mode (codes "t") (sort.Word 1) ∷ []) [] (choice (codes "c") sort.Bool expr.True ∷ []) 0 0 expr.True (name (codes "c")) (
    update (codes "pool") (expr.Two BitOr pool (expr.Two Shl (lit 1 2) (expr.Widen (name (codes "t")) 2))) ∷ []
    )
    ∷ []
    ) []

-- the pool, t and c
abbrev put_row : ℕ → ℕ → Bool → List Value
put_row n t c = word 2 n ∷ word 1 t ∷ bool c ∷ []

-- a lent permission is still the caller's, so it is doubled, unless the pool had it before, which is no start at all; a taken
-- one isn't; and a plain word makes one
abbrev pub PuttingFails : Type 0
PuttingFails =
    (map (violated (putting Lend) (Keep 1 0)) (put_row 2 0 true ∷ put_row 1 0 true ∷ put_row 2 0 false ∷ []) ≡ true ∷ false ∷ false ∷ [])
    × (map (violated (putting Take) (Keep 1 0)) (put_row 2 0 true ∷ []) ≡ false ∷ [])
    × (map (violated (putting Val) (Keep 1 0)) (put_row 2 0 true ∷ put_row 2 1 true ∷ []) ≡ true ∷ false ∷ [])

-- ---- K8

-- an action that waits for a flag and for the choice that it is offered:
--
--     global f : bool layers 0 to 1;
--     action Wait(val a : bool, val b : bool) -> () choose (c : bool = b) layers 0 to 0 left gate a guard (c && f) { }
abbrev waiting : Program
waiting =
    one_step (global (codes "f") sort.Bool 0 1 ∷ []) [] (
    moving Left (
    action (codes "Wait") (param Val (codes "a") sort.Bool ∷ param Val (codes "b") sort.Bool ∷ []) [] (choice (codes "c") sort.Bool (name (codes "b")) ∷ []) 0 0 (name (codes "a")) (expr.Two And (name (codes "c")) (name (codes "f"))) []
    )
    ∷ []
    ) []

-- f, a and b: the gate asks for a, and the guard then wants b and f
abbrev pub OfferingFails : Type 0
OfferingFails =
    map (violated waiting (Fire 1 0)) (
    (bool true ∷ bool true ∷ bool false ∷ [])
    ∷ (bool true ∷ bool true ∷ bool true ∷ [])
    ∷ (bool false ∷ bool true ∷ bool true ∷ [])
    ∷ (bool false ∷ bool false ∷ bool true ∷ [])
    ∷ []
    )
    ≡ true ∷ false ∷ true ∷ false ∷ []
