-- Values that violate conditions on paths that begin at a yield loop, and the same with one value changed. The program is one
-- of those of paths from the entry, with this body:
--
--     0  while yield b inv INV { 1  call Set(e) -> (); }
--     2  assert FACT;
--     3  commit;
use Rattle.std.specs.Prelude.{Bool, true, false, List, [], ◌∷◌}
use Rattle.civl_bits.specs.declared.value.Value.{Value}
use Rattle.civl_tree.specs.declared.expr.Expr.{Expr}
use Rattle.civl_tree.specs.declared.expr.Expr as expr
use Rattle.civl_tree.specs.declared.stmt.Stmt.{Stmt}
use Rattle.civl_tree.specs.declared.stmt.Stmt as stmt
use Rattle.civl_tree.specs.declared.action.Action.{Action}
use Rattle.civl_tree.specs.declared.program.Program.{Program}
use Rattle.civl_conditions.specs.declared.condition.Condition.TheVariants.{Path}
use Rattle.civl_conditions.specs.declared.condition.Part.{Part}
use Rattle.civl_conditions.specs.declared.condition.Part.TheVariants.{Gate, Invariant, Once, Stutter, Perform}
use Rattle.civl_conditions.specs.Violated.{violated}
use Rattle.civl_condition_laws.specs.examples.Short.{Tells, not_so}
use Rattle.civl_condition_laws.specs.examples.Blocks.{f, b, top, doing, idle, set}
use Rattle.civl_condition_laws.specs.examples.Yields.{flags}

abbrev pub loop : Expr → Expr → Stmt
loop inv e = stmt.YieldLoop b inv (set e ∷ [])

abbrev pub looping : Action → Expr → Expr → Expr → Program
looping t inv e fact = doing t (loop inv e ∷ stmt.Assert fact ∷ stmt.Commit ∷ [])

-- rows of f, b and done
abbrev pub Fails : Program → Part → List (List Value × Bool) → Type 0
Fails program part rows = Tells (violated program (Path part 1 0 1)) rows

-- the assert, which is b, is reached behind the loop, where b is false
abbrev pub LoopGateFails : Type 0
LoopGateFails = Fails (looping idle expr.True f b) Gate ((flags true false false, true) ∷ (flags true true false, false) ∷ [])

-- the loop comes back to its head with f false
abbrev pub LoopInvariantFails : Type 0
LoopInvariantFails = Fails (looping idle f (not_so b) expr.True) Invariant ((flags true true false, true) ∷ (flags true false false, false) ∷ (flags false true false, false) ∷ [])

-- behind the loop comes a commit
abbrev pub LoopOnceFails : Type 0
LoopOnceFails = Fails (looping idle expr.True f expr.True) Once ((flags true false true, true) ∷ (flags true false false, false) ∷ (flags true true true, false) ∷ [])

-- the body sets f
abbrev pub LoopStutterFails : Type 0
LoopStutterFails = Fails (looping idle expr.True b expr.True) Stutter ((flags false true false, true) ∷ (flags true true false, false) ∷ (flags false false false, false) ∷ [])

-- Top has a guard, and is a step where the commit is passed and wasn't before
abbrev pub LoopPerformFails : Type 0
LoopPerformFails = Fails (looping (top expr.True f f) expr.True b expr.True) Perform ((flags false false false, true) ∷ (flags true false false, false) ∷ (flags false false true, false) ∷ (flags false true false, false) ∷ [])
