-- Values that violate conditions on the paths of a procedure from its entry, and the same with one value changed:
--
--     global f : bool layers 0 to 1;
--     action Set(val e : bool) -> () choose () layers 0 to 0 atomic gate true guard true { f := e; }
--     action Wait() -> () choose () layers 0 to 0 both gate true guard f { }
--     action Top(val b : bool) -> () choose () layers 1 to 1 atomic gate GATE guard GUARD { f := VALUE; }
--     proc Do(val b : bool) -> () refines Top with () layer 1 { BODY }
use Rattle.std.specs.Prelude.{Bool, true, false, List, [], ◌∷◌, codes}
use Rattle.civl_bits.specs.declared.value.Value.{Value}
use Rattle.civl_tree.specs.declared.expr.Expr.{Expr}
use Rattle.civl_tree.specs.declared.expr.Expr as expr
use Rattle.civl_tree.specs.declared.expr.Sort.TheVariants as sort
use Rattle.civl_tree.specs.declared.action.Mode.TheVariants.{Val}
use Rattle.civl_tree.specs.declared.action.Mover.TheVariants.{Both}
use Rattle.civl_tree.specs.declared.action.Param.{Param}
use Rattle.civl_tree.specs.declared.action.Action.{Action}
use Rattle.civl_tree.specs.declared.stmt.Stmt.{Stmt}
use Rattle.civl_tree.specs.declared.stmt.Stmt as stmt
use Rattle.civl_tree.specs.declared.program.Program.{Program}
use Rattle.civl_firing.specs.examples.Written.{bool, name, global, param, choice, update, action, proc, call}
use Rattle.civl_conditions.specs.declared.condition.Condition.TheVariants.{Path}
use Rattle.civl_conditions.specs.declared.condition.Part.{Part}
use Rattle.civl_conditions.specs.declared.condition.Part.TheVariants.{Gate, Invariant, Once, Stutter, Perform}
use Rattle.civl_conditions.specs.Violated.{violated}
use Rattle.civl_condition_laws.specs.examples.Short.{Tells, moving, not_so, refines_with, one_step}

abbrev pub f : Expr
f = name (codes "f")

abbrev pub b : Expr
b = name (codes "b")

abbrev pub params : List Param
params = param Val (codes "b") sort.Bool ∷ []

-- Top, with its gate, its guard and what it sets f to
abbrev pub top : Expr → Expr → Expr → Action
top gate guard e = action (codes "Top") params [] [] 1 1 gate guard (update (codes "f") e ∷ [])

abbrev pub set_action : Action
set_action = action (codes "Set") (param Val (codes "e") sort.Bool ∷ []) [] [] 0 0 expr.True expr.True (update (codes "f") (name (codes "e")) ∷ [])

abbrev pub wait_action : Action
wait_action = moving Both (action (codes "Wait") [] [] [] 0 0 expr.True f [])

-- with what stands behind `with`, and the body
abbrev pub doing_with : Action → List Expr → List Stmt → Program
doing_with t exprs body = one_step (global (codes "f") sort.Bool 0 1 ∷ []) [] (set_action ∷ wait_action ∷ t ∷ []) (proc (codes "Do") params [] (refines_with (codes "Top") exprs) [] body ∷ [])

abbrev pub doing : Action → List Stmt → Program
doing t body = doing_with t [] body

-- Top does nothing
abbrev pub idle : Action
idle = top expr.True expr.True f

-- `call Set(e) -> ();` and `call Wait() -> ();`
abbrev pub set : Expr → Stmt
set e = call (codes "Set") (e ∷ []) []

abbrev pub wait : Stmt
wait = call (codes "Wait") [] []

-- f and b
abbrev pub flags : Bool → Bool → List Value
flags f b = bool f ∷ bool b ∷ []

abbrev pub Fails : Program → Part → List (List Value × Bool) → Type 0
Fails program part rows = Tells (violated program (Path part 1 0 0)) rows

-- an assert is false; not where the gate of Top excludes it, and not where the path stops before it
abbrev pub GateFails : Type 0
GateFails =
    (Fails (doing idle (stmt.Assert b ∷ stmt.Commit ∷ [])) Gate ((flags true false, true) ∷ (flags true true, false) ∷ []))
    × (Fails (doing (top b expr.True f) (stmt.Assert b ∷ stmt.Commit ∷ [])) Gate ((flags true false, false) ∷ []))
    × (Fails (doing idle (wait ∷ stmt.Assert b ∷ stmt.Commit ∷ [])) Gate ((flags true false, true) ∷ (flags false false, false) ∷ []))

-- the invariant of the yield that is reached
abbrev pub InvariantFails : Type 0
InvariantFails =
    (Fails (doing idle (set b ∷ stmt.Yield f ∷ stmt.Commit ∷ [])) Invariant ((flags true false, true) ∷ (flags true true, false) ∷ []))
    × (Fails (doing idle (wait ∷ set b ∷ stmt.Yield f ∷ stmt.Commit ∷ [])) Invariant ((flags true false, true) ∷ (flags false false, false) ∷ []))

-- no commit, or two; two are too many also where the path stops behind them
abbrev pub OnceFails : Type 0
OnceFails =
    (Fails (doing idle (stmt.If b (stmt.Commit ∷ []) [] ∷ [])) Once ((flags true false, true) ∷ (flags true true, false) ∷ []))
    × (Fails (doing idle (stmt.Commit ∷ wait ∷ stmt.Commit ∷ [])) Once ((flags true true, true) ∷ (flags false true, false) ∷ []))
    × (Fails (doing idle (stmt.Commit ∷ stmt.Commit ∷ wait ∷ [])) Once ((flags true true, true) ∷ (flags false true, true) ∷ []))

-- f changes in a block without a commit; with one that is no matter
abbrev pub StutterFails : Type 0
StutterFails =
    (Fails (doing idle (set b ∷ stmt.Yield expr.True ∷ stmt.Commit ∷ [])) Stutter ((flags false true, true) ∷ (flags true true, false) ∷ []))
    × (Fails (doing idle (set b ∷ stmt.Commit ∷ stmt.Yield expr.True ∷ [])) Stutter ((flags false true, false) ∷ []))
    × (Fails (doing idle (set b ∷ wait ∷ stmt.Yield expr.True ∷ stmt.Commit ∷ [])) Stutter ((flags true false, false) ∷ (flags false true, true) ∷ []))

-- Top turns f over, and Do sets it to b; not where the path stops; and Top's guard has to hold
abbrev pub PerformFails : Type 0
PerformFails =
    (Fails (doing (top expr.True expr.True (not_so f)) (set b ∷ stmt.Commit ∷ [])) Perform ((flags true true, true) ∷ (flags false true, false) ∷ (flags false false, true) ∷ []))
    × (Fails (doing (top expr.True expr.True (not_so f)) (wait ∷ set b ∷ stmt.Commit ∷ [])) Perform ((flags true true, true) ∷ (flags false false, false) ∷ []))
    × (Fails (doing (top expr.True f b) (set b ∷ stmt.Commit ∷ [])) Perform ((flags false true, true) ∷ (flags true true, false) ∷ []))

-- `action Top(val b : bool) -> () choose (c : bool = true) layers 1 to 1 atomic gate true guard true { f := c; }`
abbrev pub chooses : Action
chooses = action (codes "Top") params [] (choice (codes "c") sort.Bool expr.True ∷ []) 1 1 expr.True expr.True (update (codes "f") (name (codes "c")) ∷ [])

-- what stands behind `with` is of the present: f is what it then is, and never the contrary
abbrev pub WithIsPresent : Type 0
WithIsPresent =
    (Fails (doing_with chooses (f ∷ []) (set b ∷ stmt.Commit ∷ [])) Perform ((flags false true, false) ∷ (flags true false, false) ∷ (flags true true, false) ∷ []))
    × (Fails (doing_with chooses (not_so f ∷ []) (set b ∷ stmt.Commit ∷ [])) Perform ((flags false true, true) ∷ (flags true false, true) ∷ (flags true true, true) ∷ []))
