-- The conditions of a product that is computed in two ways:
--
--     civl 1; layers 1; permissions 1;
--     global x : word(4) layers 0 to 1;
--     global y : word(4) layers 0 to 1;
--     global r : word(4) layers 0 to 1;
--     init true;
--     action Mix() -> () choose () layers 0 to 0 atomic gate true guard true { r := (x * (y + 1:4)); }
--     action AtomMix() -> () choose () layers 1 to 1 atomic gate true guard true { r := ((x * y) + x); }
--     proc DoMix() -> () refines AtomMix with () layer 1 { call Mix() -> (); commit; }
--     thread DoMix();
use Rattle.std.specs.Prelude.{◌≡◌, [], ◌∷◌, map, codes}
use Rattle.civl_tree.specs.declared.expr.Expr.{Expr}
use Rattle.civl_tree.specs.declared.expr.Expr as expr
use Rattle.civl_tree.specs.declared.expr.Two.TheVariants.{Add, Mul}
use Rattle.civl_tree.specs.declared.expr.Sort.{Sort}
use Rattle.civl_tree.specs.declared.expr.Sort.TheVariants as sort
use Rattle.civl_tree.specs.declared.stmt.Stmt as stmt
use Rattle.civl_tree.specs.declared.program.Program.{Program}
use Rattle.civl_firing.specs.examples.Written.{name, lit, global, update, action, refines, proc, thread, call}
use Rattle.civl_conditions.specs.Listed.{conditions}
use Rattle.civl_conditions.specs.Names.{name_text}
use Rattle.civl_conditions.specs.Weights.{weight, initial_weight}

abbrev nibble : Sort
nibble = sort.Word 4

abbrev x : Expr
x = name (codes "x")

abbrev y : Expr
y = name (codes "y")

abbrev pub product : Program
product = record {
  version = 1;
  layers = 1;
  permissions = 1;
  globals = global (codes "x") nibble 0 1 ∷ global (codes "y") nibble 0 1 ∷ global (codes "r") nibble 0 1 ∷ [];
  init = expr.True;
  invariants = [];
  actions =
      action (codes "Mix") [] [] [] 0 0 expr.True expr.True (update (codes "r") (expr.Two Mul x (expr.Two Add y (lit 1 4))) ∷ [])
      ∷ action (codes "AtomMix") [] [] [] 1 1 expr.True expr.True (update (codes "r") (expr.Two Add (expr.Two Mul x y) x) ∷ [])
      ∷ [];
  procs = proc (codes "DoMix") [] [] (refines (codes "AtomMix") 1) [] (call (codes "Mix") [] [] ∷ stmt.Commit ∷ []) ∷ [];
  threads = thread (codes "DoMix") [] ∷ [];
}

abbrev pub ProductNames : Type 0
ProductNames =
    map (name_text product) (conditions product)
    ≡ codes "K2 step 1 Mix"
    ∷ codes "K9 gate step 1 DoMix from 0"
    ∷ codes "K9 invariant step 1 DoMix from 0"
    ∷ codes "K9 once step 1 DoMix from 0"
    ∷ codes "K9 stutter step 1 DoMix from 0"
    ∷ codes "K9 perform step 1 DoMix from 0"
    ∷ []

-- initial: the three globals 12, and init 1. `(x * (y + 1:4))` weighs 32 + 1 + 8 + 1 + 1 = 43, and so does `((x * y) + x)`; so Mix
-- weighs 45 with gate and guard. K2: 12 + 45. K9: 12, the gate of AtomMix 1, the call 1 + 45 and the commit 1 are 60; each part at
-- the one end 1, with the globals 12 at stutter and perform, and AtomMix's guard and update 1 + 43 at perform
abbrev pub ProductWeights : Type 0
ProductWeights = (initial_weight product ≡ 13) × (map (weight product) (conditions product) ≡ 57 ∷ 61 ∷ 61 ∷ 61 ∷ 73 ∷ 117 ∷ [])
