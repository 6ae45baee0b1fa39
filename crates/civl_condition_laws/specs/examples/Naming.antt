-- The variables of conditions of each kind, by their printed names:
--
--     global low : bool layers 0 to 0;
--     global f : bool layers 0 to 1;
--     global up : bool layers 1 to 1;
--     invariant 1 true;
--     action Pick(val a : bool) -> (val r : bool) choose (c : bool = a, d : bool = true) layers 0 to 0 left gate true guard true { r := c; }
--     action Top(val b : bool) -> (val o : bool) choose () layers 1 to 1 atomic gate true guard true { o := b; }
--     action Both(val e : bool) -> () choose (g : bool = e) layers 0 to 1 atomic gate true guard true { f := g; }
--     proc Do(val b : bool) -> (val o : bool) refines Top with () layer 1 {
--       var i : word(2);
--       0  call Pick(b) -> (o);
--       1  while rank (i != 0:2) by i inv true { 2  i := (i - 1:2); 3  call Pick(b) -> (o); }
--       4  yield true;
--       5  call Pick(b) -> (o);
--       6  commit;
--     }
use Rattle.std.specs.Prelude.{ℕ, ◌≡◌, List, [], ◌∷◌, map, codes}
use Rattle.civl_tree.specs.declared.expr.Expr.{Expr}
use Rattle.civl_tree.specs.declared.expr.Expr as expr
use Rattle.civl_tree.specs.declared.expr.Two.TheVariants.{Sub, Ne}
use Rattle.civl_tree.specs.declared.expr.Sort.TheVariants as sort
use Rattle.civl_tree.specs.declared.action.Mode.TheVariants.{Val}
use Rattle.civl_tree.specs.declared.action.Mover.TheVariants.{Left}
use Rattle.civl_tree.specs.declared.action.Param.{Param}
use Rattle.civl_tree.specs.declared.program.Proc.{Proc}
use Rattle.civl_tree.specs.declared.program.Program.{Program}
use Rattle.civl_tree.specs.declared.stmt.Stmt.{Stmt}
use Rattle.civl_tree.specs.declared.stmt.Stmt as stmt
use Rattle.civl_firing.specs.examples.Written.{named, name, lit, global, param, choice, local, update, action, refines, proc, call}
use Rattle.civl_conditions.specs.declared.condition.Condition.{Condition}
use Rattle.civl_conditions.specs.declared.condition.Condition.TheVariants.{Start, Keep, Pair, Fire, Path, Block, Act}
use Rattle.civl_conditions.specs.declared.condition.Part.TheVariants.{Gate, Rank}
use Rattle.civl_conditions.specs.declared.condition.Target.TheVariants as target
use Rattle.civl_conditions.specs.Variables.{variables}
use Rattle.civl_conditions.specs.Weights.{weight}
use Rattle.civl_condition_laws.specs.examples.Short.{moving, one_step}

-- `val bytes : bool`
abbrev pub flagged : List ℕ → List Param
flagged bytes = param Val bytes sort.Bool ∷ []

abbrev pub i : Expr
i = name (codes "i")

abbrev pub picks : Stmt
picks = call (codes "Pick") (name (codes "b") ∷ []) (named (codes "o") ∷ [])

abbrev pub goes_down : Stmt
goes_down = stmt.Assign (named (codes "i")) (expr.Two Sub i (lit 1 2))

abbrev pub goes_on : Expr
goes_on = expr.Two Ne i (lit 0 2)

abbrev pub loop : Stmt
loop = stmt.RankLoop goes_on i expr.True (goes_down ∷ picks ∷ [])

abbrev pub picker : Proc
picker =
    proc (codes "Do") (flagged (codes "b")) (flagged (codes "o")) (refines (codes "Top") 1) (local (codes "i") (sort.Word 2) ∷ []) (
    picks ∷ loop ∷ stmt.Yield expr.True ∷ picks ∷ stmt.Commit ∷ []
    )

abbrev pub picking : Program
picking =
    one_step (global (codes "low") sort.Bool 0 0 ∷ global (codes "f") sort.Bool 0 1 ∷ global (codes "up") sort.Bool 1 1 ∷ []) (expr.True ∷ []) (
    moving Left (
    action (codes "Pick") (flagged (codes "a")) (flagged (codes "r")) (choice (codes "c") sort.Bool (name (codes "a")) ∷ choice (codes "d") sort.Bool expr.True ∷ []) 0 0 expr.True expr.True (
    update (codes "r") (name (codes "c")) ∷ []
    )
    )
    ∷ action (codes "Top") (flagged (codes "b")) (flagged (codes "o")) [] 1 1 expr.True expr.True (update (codes "o") (name (codes "b")) ∷ [])
    ∷ action (codes "Both") (flagged (codes "e")) [] (choice (codes "g") sort.Bool (name (codes "e")) ∷ []) 0 1 expr.True expr.True (update (codes "f") (name (codes "g")) ∷ [])
    ∷ []
    ) (picker ∷ [])

abbrev pub names_of : Condition → List (List ℕ)
names_of condition = map (λ v. v.name.bytes) (variables picking condition)

-- K1 has all globals; K2 to K8 those of the lower program; K8 has no choices
abbrev pub ActionVariables : Type 0
ActionVariables =
    map names_of (Start 1 0 ∷ Keep 1 0 ∷ Pair 5 1 0 2 ∷ Pair 7 1 0 0 ∷ Fire 1 0 ∷ [])
    ≡ (codes "low" ∷ codes "f" ∷ codes "up" ∷ [])
    ∷ (codes "low" ∷ codes "f" ∷ codes "X.a" ∷ codes "X.c" ∷ codes "X.d" ∷ [])
    ∷ (codes "low" ∷ codes "f" ∷ codes "X.a" ∷ codes "X.c" ∷ codes "X.d" ∷ codes "Y.e" ∷ codes "Y.g" ∷ [])
    ∷ (codes "low" ∷ codes "f" ∷ codes "X.a" ∷ codes "X.c" ∷ codes "X.d" ∷ codes "Y.a" ∷ codes "Y.c" ∷ codes "Y.d" ∷ [])
    ∷ (codes "low" ∷ codes "f" ∷ codes "X.a" ∷ [])
    ∷ []

-- K11, to the invariant and to the yield
abbrev pub ActVariables : Type 0
ActVariables =
    map names_of (Act 1 2 (target.Invariant 0) ∷ Act 1 2 (target.Yield 0 2) ∷ [])
    ≡ (codes "low" ∷ codes "f" ∷ codes "up" ∷ codes "X.e" ∷ codes "X.g" ∷ [])
    ∷ (codes "low" ∷ codes "f" ∷ codes "up" ∷ codes "X.e" ∷ codes "X.g" ∷ codes "other.b" ∷ codes "other.o" ∷ codes "other.i" ∷ codes "other.done" ∷ [])
    ∷ []

-- K9 and K10 from the entry: the call before the loop
abbrev pub EntryVariables : Type 0
EntryVariables = names_of (Path Gate 1 0 0) ≡ codes "low" ∷ codes "f" ∷ codes "up" ∷ codes "b" ∷ codes "call0.c" ∷ codes "call0.d" ∷ []

abbrev pub BlockVariables : Type 0
BlockVariables =
    (names_of (Block 1 0 0 (target.Invariant 0)) ≡ codes "low" ∷ codes "f" ∷ codes "up" ∷ codes "b" ∷ codes "call0.c" ∷ codes "call0.d" ∷ [])
    × (
    names_of (Block 1 0 0 (target.Yield 0 2))
    ≡ codes "low" ∷ codes "f" ∷ codes "up" ∷ codes "b" ∷ codes "call0.c" ∷ codes "call0.d" ∷ codes "other.b" ∷ codes "other.o" ∷ codes "other.i" ∷ codes "other.done" ∷ []
    )

-- from the loop with the rank: the call in it, and none before it or behind the yield
abbrev pub LoopVariables : Type 0
LoopVariables =
    names_of (Path Rank 1 0 1)
    ≡ codes "low"
    ∷ codes "f"
    ∷ codes "up"
    ∷ codes "old.low"
    ∷ codes "old.f"
    ∷ codes "old.up"
    ∷ codes "b"
    ∷ codes "o"
    ∷ codes "i"
    ∷ codes "old.o"
    ∷ codes "done"
    ∷ codes "old.done"
    ∷ codes "call3.c"
    ∷ codes "call3.d"
    ∷ []

-- from the yield: the call behind it
abbrev pub YieldVariables : Type 0
YieldVariables = names_of (Path Gate 1 0 2) ≡ codes "low" ∷ codes "f" ∷ codes "up" ∷ codes "b" ∷ codes "o" ∷ codes "i" ∷ codes "done" ∷ codes "call5.c" ∷ codes "call5.d" ∷ []

-- K8: low, f and a 3; the gate 1, the guard 1 and the two offers 2. K11 to the invariant: low, f, up, e and g 5; the gate 1, the
-- guard 1 and the update 1; the invariants of the step 1; twice the invariant 2. To the yield: the other's b, o, i and done 5 more
abbrev pub ActionWeights : Type 0
ActionWeights = map (weight picking) (Fire 1 0 ∷ Act 1 2 (target.Invariant 0) ∷ Act 1 2 (target.Yield 0 2) ∷ []) ≡ 7 ∷ 11 ∷ 16 ∷ []
