-- A pool of permissions, with actions that double one and that make one:
--
--     civl 1; layers 1; permissions 1;
--     global linear pool : word(2) layers 0 to 1;
--     init true;
--     invariant 1 (pool == 1:2);
--     action Grab() -> (give a : word(1)) choose () layers 0 to 0 atomic gate true guard true { a := 0:1; }
--     action Fill(lend t : word(1)) -> () choose () layers 0 to 0 atomic gate true guard true { pool := 3:2; }
use Rattle.std.specs.Prelude.{ℕ, ◌≡◌, true, [], ◌∷◌, Option, None, Some, codes}
use Rattle.civl_tree.specs.declared.expr.Expr as expr
use Rattle.civl_tree.specs.declared.expr.Two.TheVariants.{Eq}
use Rattle.civl_tree.specs.declared.expr.Sort.TheVariants as sort
use Rattle.civl_tree.specs.declared.action.Mode.TheVariants.{Lend, Give}
use Rattle.civl_tree.specs.declared.program.Program.{Program}
use Rattle.civl_firing.specs.examples.Written.{word, named, name, lit, param, update, action, holding}
use Rattle.civl_conditions.specs.declared.condition.Condition.TheVariants.{Start, Keep}
use Rattle.civl_clashes.specs.declared.violations.Carrier.TheVariants as carrier
use Rattle.civl_clashes.specs.declared.violations.Loss.{Loss}
use Rattle.civl_clashes.specs.declared.violations.Loss.TheVariants.{Twice, Nowhere}
use Rattle.civl_clashes.specs.declared.violations.Violation.{Violation}
use Rattle.civl_clashes.specs.declared.violations.Violation.TheVariants.{Starts, Loses}
use Rattle.civl_clashes.specs.Told.{violation}

abbrev pooling : Program
pooling = record {
  version = 1;
  layers = 1;
  permissions = 1;
  globals = record { linear = true; name = named (codes "pool"); sort = sort.Word 2; first = 0; last = 1 } ∷ [];
  init = expr.True;
  invariants = record { step = 1; expr = expr.Two Eq (name (codes "pool")) (lit 1 2) } ∷ [];
  actions =
      action (codes "Grab") [] (param Give (codes "a") (sort.Word 1) ∷ []) [] 0 0 expr.True expr.True (update (codes "a") (lit 0 1) ∷ [])
      ∷ action (codes "Fill") (param Lend (codes "t") (sort.Word 1) ∷ []) [] [] 0 0 expr.True expr.True (update (codes "pool")
      (lit 3 2) ∷ [])
      ∷ [];
  procs = [];
  threads = [];
}

-- where Grab is made of this pool
abbrev grabs : ℕ → Loss → Option Violation
grabs n loss =
    Some (
    Loses (holding (word 2 n ∷ [])) (record { action = 0; inputs = []; chosen = [] }) (record {
      store = holding (word 2 n
          ∷ []);
      outs = word 1 0 ∷ [];
    }) loss
    )

-- the permission 0 that the pool has comes out of the pool and as the output
abbrev pub GrabDoubles : Type 0
GrabDoubles = violation pooling (Keep 1 0) (word 2 1 ∷ []) ≡ grabs 1 (Twice 0 (carrier.Global 0) (carrier.Out 0))

-- where the pool hasn't it, it comes from nowhere
abbrev pub GrabMakes : Type 0
GrabMakes = violation pooling (Keep 1 0) (word 2 2 ∷ []) ≡ grabs 2 (Nowhere 0 (carrier.Out 0))

-- the permission that is lent comes back, and out of the pool too; where the pool had it before, nothing is told
abbrev pub FillDoubles : Type 0
FillDoubles =
    (violation pooling (Keep 1 1) (word 2 2 ∷ word 1 0 ∷ [])
    ≡ Some (Loses (holding (word 2 2 ∷ [])) (record { action = 1; inputs = word 1 0 ∷ []; chosen = [] }) (record {
      store = holding
          (word 2 3 ∷ []);
      outs = [];
    }) (Twice 0 (carrier.Global 0) (carrier.Param 0))))
    × (violation pooling (Keep 1 1) (word 2 1 ∷ word 1 0 ∷ []) ≡ None)

-- a pool that isn't the one that the invariant asks for
abbrev pub PoolStarts : Type 0
PoolStarts = (violation pooling (Start 1 0) (word 2 2 ∷ []) ≡ Some (Starts (holding (word 2 2 ∷ []))))
    × (violation pooling (Start 1 0) (word 2 1 ∷ []) ≡ None)
