-- A flag that one thread waits behind, and an action that clears it:
--
--     civl 1; layers 1; permissions 1;
--     global f : bool layers 0 to 1;
--     init f;
--     invariant 1 f;
--     action Clear() -> () choose () layers 0 to 1 atomic gate true guard true { f := false; }
--     proc Wait() -> () refines Clear with () layer 1 { yield f; }
use Rattle.std.specs.Prelude.{◌≡◌, true, false, [], ◌∷◌, None, Some, codes}
use Rattle.civl_tree.specs.declared.expr.Expr.{Expr}
use Rattle.civl_tree.specs.declared.expr.Expr as expr
use Rattle.civl_tree.specs.declared.expr.Sort.TheVariants as sort
use Rattle.civl_tree.specs.declared.stmt.Stmt as stmt
use Rattle.civl_tree.specs.declared.program.Proc.{Proc}
use Rattle.civl_tree.specs.declared.program.Program.{Program}
use Rattle.civl_firing.specs.examples.Written.{bool, named, name, global, update, action, holding}
use Rattle.civl_conditions.specs.declared.condition.Condition.TheVariants.{Act}
use Rattle.civl_conditions.specs.declared.condition.Target.TheVariants.{Invariant, Yield}
use Rattle.civl_clashes.specs.declared.violations.Violation.{Violation}
use Rattle.civl_clashes.specs.declared.violations.Violation.TheVariants.{Strays}
use Rattle.civl_clashes.specs.Told.{violation}

abbrev f : Expr
f = name (codes "f")

abbrev wait : Proc
wait = record {
  name = named (codes "Wait");
  params = [];
  outs = [];
  refines = Some (record { action = named (codes "Clear"); with = []; layer = 1 });
  locals = [];
  body = stmt.Yield f ∷ [];
}

abbrev clearing : Program
clearing = record {
  version = 1;
  layers = 1;
  permissions = 1;
  globals = global (codes "f") sort.Bool 0 1 ∷ [];
  init = f;
  invariants = record { step = 1; expr = f } ∷ [];
  actions = action (codes "Clear") [] [] [] 0 1 expr.True expr.True (update (codes "f") expr.False ∷ []) ∷ [];
  procs = wait ∷ [];
  threads = [];
}

-- where Clear is made of a set flag, and leaves it cleared
abbrev clears : Violation
clears = Strays (holding (bool true ∷ [])) (record { action = 0; inputs = []; chosen = [] })
    (record { store = holding (bool false ∷ []); outs = [] })

-- Clear makes the invariant false
abbrev pub ClearStrays : Type 0
ClearStrays =
    violation clearing (Act 1 0 (Invariant 0)) (bool true ∷ [])
    ≡ Some clears

-- it makes the invariant of the yield false, at which another thread stands that has not committed; where the invariant of the
-- step is false before, nothing is told
abbrev pub YieldStrays : Type 0
YieldStrays =
    (violation clearing (Act 1 0 (Yield 0 1)) (bool true ∷ bool false ∷ [])
    ≡ Some clears)
    × (violation clearing (Act 1 0 (Yield 0 1)) (bool false ∷ bool false ∷ []) ≡ None)
