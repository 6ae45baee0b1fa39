-- Values that violate conditions on paths that begin at a loop with a rank, and the same with one value changed:
--
--     global f : bool layers 0 to 1;
--     action Top() -> (val o : bool) choose () layers 1 to 1 atomic gate true guard true { o := f; }
--     proc Spin() -> (val o : bool) refines Top with () layer 1 {
--       var i : word(2);
--       0  while rank (i != 0:2) by i inv INV { 1  i := NEXT; }
--       2  assert FACT;
--       3  commit;
--     }
use Rattle.std.specs.Prelude.{ℕ, Bool, true, false, List, [], ◌∷◌, codes}
use Rattle.civl_bits.specs.declared.value.Value.{Value}
use Rattle.civl_tree.specs.declared.expr.Expr.{Expr}
use Rattle.civl_tree.specs.declared.expr.Expr as expr
use Rattle.civl_tree.specs.declared.expr.Two.TheVariants.{Add, Sub, Ne, Or, Eq}
use Rattle.civl_tree.specs.declared.expr.Sort.TheVariants as sort
use Rattle.civl_tree.specs.declared.action.Mode.TheVariants.{Val}
use Rattle.civl_tree.specs.declared.action.Param.{Param}
use Rattle.civl_tree.specs.declared.program.Proc.{Proc}
use Rattle.civl_tree.specs.declared.program.Program.{Program}
use Rattle.civl_tree.specs.declared.stmt.Stmt.{Stmt}
use Rattle.civl_tree.specs.declared.stmt.Stmt as stmt
use Rattle.civl_firing.specs.examples.Written.{word, bool, named, name, lit, global, param, local, update, action, refines, proc}
use Rattle.civl_conditions.specs.declared.condition.Condition.TheVariants.{Path}
use Rattle.civl_conditions.specs.declared.condition.Part.{Part}
use Rattle.civl_conditions.specs.declared.condition.Part.TheVariants.{Gate, Invariant, Once, Stutter, Perform, Rank}
use Rattle.civl_conditions.specs.Violated.{violated}
use Rattle.civl_condition_laws.specs.examples.Short.{Tells, one_step}

abbrev pub f : Expr
f = name (codes "f")

abbrev pub i : Expr
i = name (codes "i")

abbrev pub outs : List Param
outs = param Val (codes "o") sort.Bool ∷ []

abbrev pub goes_on : Expr
goes_on = expr.Two Ne i (lit 0 2)

abbrev pub next_is : Expr → Stmt
next_is next = stmt.Assign (named (codes "i")) next

abbrev pub loop : Expr → Expr → Stmt
loop inv next = stmt.RankLoop goes_on i inv (next_is next ∷ [])

abbrev pub spinner : Expr → Expr → Expr → Proc
spinner inv next fact = proc (codes "Spin") [] outs (refines (codes "Top") 1) (local (codes "i") (sort.Word 2) ∷ []) (loop inv next ∷ stmt.Assert fact ∷ stmt.Commit ∷ [])

abbrev pub spinning : Expr → Expr → Expr → Program
spinning inv next fact = one_step (global (codes "f") sort.Bool 0 1 ∷ []) [] (action (codes "Top") [] outs [] 1 1 expr.True expr.True (update (codes "o") f ∷ []) ∷ []) (spinner inv next fact ∷ [])

-- f and old.f; o, i and old.o; done and old.done
abbrev pub row : Bool × Bool → Bool × ℕ × Bool → Bool × Bool → List Value
row a b c = bool a.0 ∷ bool a.1 ∷ bool b.0 ∷ word 2 b.1 ∷ bool b.2 ∷ bool c.0 ∷ bool c.1 ∷ []

abbrev pub Fails : Program → Part → List (List Value × Bool) → Type 0
Fails program part rows = Tells (violated program (Path part 1 0 1)) rows

abbrev pub o : Expr
o = name (codes "o")

abbrev pub less : Expr
less = expr.Two Sub i (lit 1 2)

abbrev pub more : Expr
more = expr.Two Add i (lit 1 2)

abbrev pub same_in_the_end : Expr
same_in_the_end = expr.Two Or goes_on (expr.Two Eq f (expr.Old (named (codes "f"))))

-- the assert, which is o, is reached where i is 0
abbrev pub SpinGateFails : Type 0
SpinGateFails =
    Fails (spinning expr.True less o) Gate (
    (row (false, false) (false, 0, false) (false, false), true)
    ∷ (row (false, false) (true, 0, false) (false, false), false)
    ∷ (row (false, false) (false, 1, false) (false, false), false)
    ∷ []
    )

-- back at the head i is 0, and f isn't what it was at the block's beginning
abbrev pub SpinInvariantFails : Type 0
SpinInvariantFails =
    Fails (spinning same_in_the_end less expr.True) Invariant (
    (row (true, false) (false, 1, false) (false, false), true)
    ∷ (row (false, false) (false, 1, false) (false, false), false)
    ∷ (row (true, false) (false, 2, false) (false, false), false)
    ∷ []
    )

-- behind the loop comes a commit
abbrev pub SpinOnceFails : Type 0
SpinOnceFails =
    Fails (spinning expr.True less expr.True) Once (
    (row (false, false) (false, 0, false) (true, false), true)
    ∷ (row (false, false) (false, 0, false) (false, false), false)
    ∷ (row (false, false) (false, 1, false) (true, false), false)
    ∷ []
    )

-- a commit was passed before the block: f isn't as in old, or o isn't; and that is asked only where done was true, and is
-- assumed to be so
abbrev pub SpinStutterFails : Type 0
SpinStutterFails =
    Fails (spinning expr.True less expr.True) Stutter (
    (row (true, false) (false, 0, false) (true, true), true)
    ∷ (row (false, false) (false, 0, false) (true, true), false)
    ∷ (row (false, false) (true, 0, false) (true, true), true)
    ∷ (row (true, false) (false, 0, false) (true, false), false)
    ∷ (row (true, false) (false, 0, false) (false, true), false)
    ∷ []
    )

-- Top gives o the old f, and leaves f
abbrev pub SpinPerformFails : Type 0
SpinPerformFails =
    Fails (spinning expr.True less expr.True) Perform (
    (row (false, false) (true, 0, false) (false, false), true)
    ∷ (row (false, false) (false, 0, false) (false, false), false)
    ∷ (row (true, false) (false, 0, false) (false, false), true)
    ∷ (row (true, true) (true, 0, false) (false, false), false)
    ∷ (row (true, false) (false, 0, false) (true, true), false)
    ∷ []
    )

-- i stays, goes down, and goes up or, from 3, to 0
abbrev pub SpinRankFails : Type 0
SpinRankFails =
    (Fails (spinning expr.True i expr.True) Rank ((row (false, false) (false, 1, false) (false, false), true) ∷ (row (false, false) (false, 0, false) (false, false), false) ∷ []))
    × (Fails (spinning expr.True less expr.True) Rank ((row (false, false) (false, 1, false) (false, false), false) ∷ []))
    × (Fails (spinning expr.True more expr.True) Rank ((row (false, false) (false, 2, false) (false, false), true) ∷ (row (false, false) (false, 3, false) (false, false), false) ∷ []))
