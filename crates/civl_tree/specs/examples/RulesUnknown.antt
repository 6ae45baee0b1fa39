-- Programs with a name that isn't in scope as what is needed, and some in which it just is.
use Rattle.std.specs.Prelude.{ℕ, List, [], ◌∷◌, codes}
use Rattle.civl_tree.specs.declared.expr.Expr.{Expr}
use Rattle.civl_tree.specs.declared.expr.Expr as expr
use Rattle.civl_tree.specs.declared.expr.One.TheVariants.{Not}
use Rattle.civl_tree.specs.declared.expr.Two.TheVariants.{And}
use Rattle.civl_tree.specs.declared.stmt.Stmt as stmt
use Rattle.civl_tree.specs.examples.RulesFlag.{named, name, call, Passes, Refused}
use Rattle.civl_tree.specs.examples.RulesUnit.{with_init, with_invariant, with_gate, with_guard, with_offer, with_update, with_body, with_refined, with_thread}

-- the global, the parameter, output and choice of the action, and the parameter and local of the procedure
abbrev pub g : Expr
g = name (codes "g")

abbrev pub p : Expr
p = name (codes "p")

abbrev pub o : Expr
o = name (codes "o")

abbrev pub c : Expr
c = name (codes "c")

abbrev pub a : Expr
a = name (codes "a")

abbrev pub v : Expr
v = name (codes "v")

abbrev pub old : List ℕ → Expr
old bytes = expr.Old (named bytes)

-- `init` and invariants see globals, an action's gate and offers its parameters too, its guard and updates also its
-- choices; no expression of an action sees its outputs, but in `old`
abbrev pub UnknownInActions : Type 0
UnknownInActions =
    Passes (with_init (expr.Two And g (old (codes "g"))))
    × Refused (with_init (name (codes "A"))) 11 1 0
    × Refused (with_init (expr.One Not (old (codes "x")))) 11 1 0
    × Passes (with_invariant g)
    × Refused (with_invariant a) 11 2 0
    × Passes (with_gate (expr.Two And g p))
    × Refused (with_gate c) 11 3 0
    × Refused (with_gate o) 11 3 0
    × Passes (with_gate (old (codes "o")))
    × Passes (with_gate (old (codes "g")))
    × Refused (with_gate (old (codes "p"))) 11 3 0
    × Passes (with_offer (expr.Two And g p))
    × Refused (with_offer c) 11 3 0
    × Passes (with_guard (expr.Two And g (expr.Two And p c)))
    × Refused (with_guard o) 11 3 0
    × Passes (with_guard (expr.Two And (old (codes "g")) (old (codes "o"))))
    × Refused (with_guard (old (codes "c"))) 11 3 0
    × Passes (with_update (codes "g") c)
    × Refused (with_update (codes "p") expr.True) 11 3 0
    × Refused (with_update (codes "c") expr.True) 11 3 0
    × Refused (with_update (codes "g") o) 11 3 0

-- a statement sees parameters, outputs and locals; yields, loop invariants, ranks, intros and `with` see globals too
abbrev pub UnknownInBodies : Type 0
UnknownInBodies =
    Passes (with_body (stmt.Assign (named (codes "v")) (expr.Two And a (expr.Two And o v)) ∷ []))
    × Passes (with_body (stmt.Assign (named (codes "a")) v ∷ stmt.Assign (named (codes "o")) v ∷ []))
    × Refused (with_body (stmt.Assign (named (codes "v")) g ∷ [])) 11 4 0
    × Passes (with_body (stmt.Assert (expr.Two And (old (codes "g")) (old (codes "o"))) ∷ []))
    × Refused (with_body (stmt.Assert (old (codes "v")) ∷ [])) 11 4 0
    × Refused (with_body (stmt.Assign (named (codes "g")) a ∷ [])) 11 4 0
    × Refused (with_body (stmt.Commit ∷ stmt.Assert g ∷ [])) 11 4 1
    × Passes (with_body (stmt.Yield (expr.Two And g a) ∷ []))
    × Refused (with_body (stmt.Yield p ∷ [])) 11 4 0
    × Refused (with_body (stmt.If g [] [] ∷ [])) 11 4 0
    × Refused (with_body (stmt.While g [] ∷ [])) 11 4 0
    × Passes (with_body (stmt.YieldLoop a g [] ∷ []))
    × Refused (with_body (stmt.YieldLoop g a [] ∷ [])) 11 4 0
    × Refused (with_body (stmt.RankLoop g (expr.Literal 0 1) a [] ∷ [])) 11 4 0
    × Refused (with_body (stmt.RankLoop a c g [] ∷ [])) 11 4 0
    × Passes (with_body (stmt.RankLoop a (expr.Pick g (expr.Literal 0 1) (expr.Literal 1 1)) g [] ∷ []))
    × Passes (with_body (stmt.Yield (expr.Two And (old (codes "g")) (old (codes "o"))) ∷ []))
    × Refused (with_body (stmt.Yield (old (codes "v")) ∷ [])) 11 4 0
    × Refused (with_body (stmt.Yield (old (codes "a")) ∷ [])) 11 4 0
    × Passes (with_body (stmt.Intro (named (codes "g")) g ∷ []))
    × Refused (with_body (stmt.Intro (named (codes "v")) g ∷ [])) 11 4 0
    × Refused (with_body (stmt.While a (stmt.If a (stmt.Commit ∷ []) (stmt.Assert c ∷ []) ∷ []) ∷ [])) 11 4 3

-- callees, results and refined names
abbrev pub UnknownCallees : Type 0
UnknownCallees =
    Passes (with_body (call (codes "A") (a ∷ []) (named (codes "v") ∷ []) ∷ []))
    × Passes (with_body (call (codes "A") (v ∷ []) (named (codes "o") ∷ []) ∷ call (codes "A") (o ∷ []) (named (codes "a") ∷ []) ∷ []))
    × Passes (with_body (call (codes "R") [] [] ∷ []))
    × Refused (with_body (call (codes "g") [] [] ∷ [])) 11 4 0
    × Refused (with_body (call (codes "B") [] [] ∷ [])) 11 4 0
    × Refused (with_body (call (codes "A") (g ∷ []) (named (codes "v") ∷ []) ∷ [])) 11 4 0
    × Refused (with_body (call (codes "A") (a ∷ []) (named (codes "g") ∷ []) ∷ [])) 11 4 0
    × Passes (with_body (stmt.Spawn (named (codes "R")) [] ∷ []))
    × Refused (with_body (stmt.Spawn (named (codes "A")) [] ∷ [])) 11 4 0
    × Refused (with_body (stmt.Spawn (named (codes "R")) (g ∷ []) ∷ [])) 11 4 0
    × Passes (with_refined (codes "A") (expr.Two And g (expr.Two And a v) ∷ []))
    × Refused (with_refined (codes "A") (c ∷ [])) 11 4 0
    × Refused (with_refined (codes "R") []) 11 4 0
    × Refused (with_thread (record { callee = named (codes "A"); args = [] })) 11 6 0
    × Refused (with_thread (record { callee = named (codes "Q"); args = expr.Two And g (old (codes "g")) ∷ [] })) 23 6 0
    × Refused (with_thread (record { callee = named (codes "R"); args = a ∷ [] })) 11 6 0
