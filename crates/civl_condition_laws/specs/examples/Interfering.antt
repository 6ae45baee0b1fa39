-- Values that violate the conditions that blocks and actions keep an invariant or another thread's yield, and the same with one
-- value changed:
--
--     global f : bool layers 0 to 1;
--     invariant 1 INV;
--     action Set(val e : bool) -> () choose () layers 0 to 0 atomic gate true guard true { f := e; }
--     action Top(val b : bool, lend t : word(1)) -> () choose () layers 1 to 1 atomic gate true guard true { f := b; }
--     action Put(val e : bool, lend t : word(1)) -> () choose (c : bool = true) layers 0 to 1 atomic gate true guard c { f := e; }
--     proc Do(val b : bool, lend t : word(1)) -> () refines Top with () layer 1 { call Set(b) -> (); commit; }
--     proc Rest(val b : bool, lend t : word(1)) -> () refines Top with () layer 1 { yield KEPT; commit; }
use Rattle.std.specs.Prelude.{ℕ, ◌≡◌, Bool, true, false, List, [], ◌∷◌, ◌++◌, map, codes}
use Rattle.civl_bits.specs.declared.value.Value.{Value}
use Rattle.civl_tree.specs.declared.expr.Expr.{Expr}
use Rattle.civl_tree.specs.declared.expr.Expr as expr
use Rattle.civl_tree.specs.declared.expr.Two.TheVariants.{Eq, Implies}
use Rattle.civl_tree.specs.declared.expr.Sort.TheVariants as sort
use Rattle.civl_tree.specs.declared.action.Mode.TheVariants.{Val, Lend}
use Rattle.civl_tree.specs.declared.action.Param.{Param}
use Rattle.civl_tree.specs.declared.program.Program.{Program}
use Rattle.civl_tree.specs.declared.stmt.Stmt as stmt
use Rattle.civl_firing.specs.examples.Written.{word, bool, name, global, param, choice, update, action, refines, proc, call}
use Rattle.civl_conditions.specs.declared.condition.Condition.TheVariants.{Block, Act}
use Rattle.civl_conditions.specs.declared.condition.Target.{Target}
use Rattle.civl_conditions.specs.declared.condition.Target.TheVariants as target
use Rattle.civl_conditions.specs.Listed.{blocks, acts}
use Rattle.civl_conditions.specs.Names.{name_text}
use Rattle.civl_conditions.specs.Violated.{violated}
use Rattle.civl_condition_laws.specs.examples.Short.{Tells, one_step}

abbrev pub f : Expr
f = name (codes "f")

abbrev pub b : Expr
b = name (codes "b")

-- a value with this name, and the permission t
abbrev pub with_t : List ℕ → List Param
with_t bytes = param Val bytes sort.Bool ∷ param Lend (codes "t") (sort.Word 1) ∷ []

abbrev pub interfering : Expr → Expr → Program
interfering inv kept =
    one_step (global (codes "f") sort.Bool 0 1 ∷ []) (inv ∷ []) (
    action (codes "Set") (param Val (codes "e") sort.Bool ∷ []) [] [] 0 0 expr.True expr.True (update (codes "f") (name (codes "e")) ∷ [])
    ∷ action (codes "Top") (with_t (codes "b")) [] [] 1 1 expr.True expr.True (update (codes "f") b ∷ [])
    ∷ action (codes "Put") (with_t (codes "e")) [] (choice (codes "c") sort.Bool expr.True ∷ []) 0 1 expr.True (name (codes "c")) (update (codes "f") (name (codes "e")) ∷ [])
    ∷ []
    ) (
    proc (codes "Do") (with_t (codes "b")) [] (refines (codes "Top") 1) [] (call (codes "Set") (b ∷ []) [] ∷ stmt.Commit ∷ [])
    ∷ proc (codes "Rest") (with_t (codes "b")) [] (refines (codes "Top") 1) [] (stmt.Yield kept ∷ stmt.Commit ∷ [])
    ∷ []
    )

-- what blocks and actions have to keep
abbrev pub InterferingNames : Type 0
InterferingNames =
    map (name_text (interfering expr.True expr.True)) (blocks (interfering expr.True expr.True) 1 ++ acts (interfering expr.True expr.True) 1)
    ≡ codes "K10 step 1 Do from 0 invariant 0"
    ∷ codes "K10 step 1 Do from 0 yield Rest 1"
    ∷ codes "K10 step 1 Rest from 0 invariant 0"
    ∷ codes "K10 step 1 Rest from 0 yield Rest 1"
    ∷ codes "K10 step 1 Rest from 1 invariant 0"
    ∷ codes "K10 step 1 Rest from 1 yield Rest 1"
    ∷ codes "K11 step 1 Put invariant 0"
    ∷ codes "K11 step 1 Put yield Rest 1"
    ∷ []

-- f, b and t; or f, e, t and c
abbrev pub doing_row : Bool → Bool → ℕ → List Value
doing_row f b t = bool f ∷ bool b ∷ word 1 t ∷ []

abbrev pub putting_row : Bool → Bool → ℕ → Bool → List Value
putting_row f e t c = bool f ∷ bool e ∷ word 1 t ∷ bool c ∷ []

-- b, t and done of the other thread's frame
abbrev pub other : Bool → ℕ → Bool → List Value
other b t done = bool b ∷ word 1 t ∷ bool done ∷ []

-- blocks of Do, and Put
abbrev pub BlocksFail : Expr → Expr → Target → List (List Value × Bool) → Type 0
BlocksFail inv kept t rows = Tells (violated (interfering inv kept) (Block 1 0 0 t)) rows

abbrev pub ActsFail : Expr → Expr → Target → List (List Value × Bool) → Type 0
ActsFail inv kept t rows = Tells (violated (interfering inv kept) (Act 1 2 t)) rows

-- f was true and is made false
abbrev pub BlockInvariantFails : Type 0
BlockInvariantFails = BlocksFail f expr.True (target.Invariant 0) ((doing_row true false 0, true) ∷ (doing_row true true 0, false) ∷ (doing_row false false 0, false) ∷ [])

-- the same for the yield of Rest, where the two have different permissions
abbrev pub BlockYieldFails : Type 0
BlockYieldFails =
    BlocksFail expr.True f (target.Yield 1 1) (
    (doing_row true false 0 ++ other false 1 false, true)
    ∷ (doing_row true true 0 ++ other false 1 false, false)
    ∷ (doing_row false false 0 ++ other false 1 false, false)
    ∷ (doing_row true false 0 ++ other false 0 false, false)
    ∷ []
    )

-- what is kept may speak of Rest's own names, and of its done
abbrev pub BlockFrameFails : Type 0
BlockFrameFails =
    (BlocksFail expr.True (expr.Two Eq f b) (target.Yield 1 1) ((doing_row true false 0 ++ other true 1 false, true) ∷ (doing_row true false 0 ++ other false 1 false, false) ∷ []))
    × (BlocksFail expr.True (expr.Two Implies expr.Done f) (target.Yield 1 1) ((doing_row true false 0 ++ other true 1 true, true) ∷ (doing_row true false 0 ++ other true 1 false, false) ∷ []))

-- Put makes f false, where its guard holds
abbrev pub ActInvariantFails : Type 0
ActInvariantFails =
    ActsFail f expr.True (target.Invariant 0) (
    (putting_row true false 0 true, true)
    ∷ (putting_row true true 0 true, false)
    ∷ (putting_row false false 0 true, false)
    ∷ (putting_row true false 0 false, false)
    ∷ []
    )

abbrev pub ActYieldFails : Type 0
ActYieldFails =
    ActsFail expr.True f (target.Yield 1 1) (
    (putting_row true false 0 true ++ other false 1 false, true)
    ∷ (putting_row true true 0 true ++ other false 1 false, false)
    ∷ (putting_row false false 0 true ++ other false 1 false, false)
    ∷ (putting_row true false 0 true ++ other false 0 false, false)
    ∷ []
    )
