-- Programs with an expression or a result that hasn't the sort which its place needs.
use Rattle.std.specs.Prelude.{[], ◌∷◌, codes}
use Rattle.civl_tree.specs.declared.expr.Expr.{Expr}
use Rattle.civl_tree.specs.declared.expr.Expr as expr
use Rattle.civl_tree.specs.declared.expr.Two.TheVariants.{Add, Eq}
use Rattle.civl_tree.specs.declared.expr.Sort.TheVariants.{Word}
use Rattle.civl_tree.specs.declared.stmt.Stmt as stmt
use Rattle.civl_tree.specs.examples.RulesFlag.{named, update, choice, var, call, Passes, Refused}
use Rattle.civl_tree.specs.examples.RulesUnit.{unit_action, with_init, with_invariant, with_action, with_gate, with_guard, with_offer, with_update, with_body, with_refined, with_thread, unit_thread, with_proc, unit_proc}

-- a word, and an expression whose sorts don't fit
abbrev pub word : Expr
word = expr.Literal 1 2

abbrev pub unsorted : Expr
unsorted = expr.Two Add expr.True expr.True

abbrev pub SortedInActions : Type 0
SortedInActions =
    Refused (with_init word) 21 1 0
    × Refused (with_init unsorted) 21 1 0
    × Refused (with_invariant word) 21 2 0
    × Refused (with_gate word) 21 3 0
    × Refused (with_gate (expr.Two Eq unsorted unsorted)) 21 3 0
    × Refused (with_guard word) 21 3 0
    × Refused (with_offer word) 21 3 0
    × Refused (with_update (codes "g") word) 21 3 0
    × Refused (with_action (record unit_action { updates = update (codes "o") word ∷ [] })) 21 3 0
    × Refused (with_action (record unit_action { choices = choice (codes "c") (Word 2) expr.True ∷ [] })) 21 3 0
    × Refused (with_action (record unit_action { choices = choice (codes "c") (Word 2) word ∷ [] })) 21 4 0

abbrev pub SortedInBodies : Type 0
SortedInBodies =
    Refused (with_body (stmt.Assign (named (codes "v")) word ∷ [])) 21 4 0
    × Refused (with_body (stmt.Assert word ∷ [])) 21 4 0
    × Refused (with_body (stmt.If word [] [] ∷ [])) 21 4 0
    × Refused (with_body (stmt.While word [] ∷ [])) 21 4 0
    × Refused (with_body (stmt.YieldLoop word expr.True [] ∷ [])) 21 4 0
    × Refused (with_body (stmt.YieldLoop expr.True word [] ∷ [])) 21 4 0
    × Passes (with_body (stmt.RankLoop expr.True word expr.Done [] ∷ []))
    × Refused (with_body (stmt.RankLoop word word expr.True [] ∷ [])) 21 4 0
    × Refused (with_body (stmt.RankLoop expr.True expr.True expr.True [] ∷ [])) 21 4 0
    × Refused (with_body (stmt.RankLoop expr.True (expr.Fill 1 word) expr.True [] ∷ [])) 21 4 0
    × Refused (with_body (stmt.RankLoop expr.True word word [] ∷ [])) 21 4 0
    × Refused (with_body (stmt.Yield word ∷ [])) 21 4 0
    × Refused (with_body (stmt.Intro (named (codes "g")) word ∷ [])) 21 4 0
    × Refused (with_refined (codes "A") (word ∷ [])) 21 4 0

-- arguments and results; one for which there is no place is E23, unless it is ill-sorted inside
abbrev pub SortedInCalls : Type 0
SortedInCalls =
    Passes (with_body (call (codes "A") (expr.True ∷ []) (named (codes "v") ∷ []) ∷ []))
    × Refused (with_body (call (codes "A") (word ∷ []) (named (codes "v") ∷ []) ∷ [])) 21 4 0
    × Refused (with_body (call (codes "A") (expr.True ∷ word ∷ []) (named (codes "v") ∷ []) ∷ [])) 23 4 0
    × Refused (with_body (call (codes "A") (expr.True ∷ unsorted ∷ []) (named (codes "v") ∷ []) ∷ [])) 21 4 0
    × Refused (with_body (call (codes "A") [] (named (codes "v") ∷ []) ∷ [])) 23 4 0
    × Refused (with_proc (record (unit_proc (call (codes "A") (expr.True ∷ []) (named (codes "v") ∷ []) ∷ [])) { locals = var (codes "v") (Word 1) ∷ [] })) 21 4 0
    × Refused (with_proc (record (unit_proc (call (codes "R") [] (named (codes "v") ∷ []) ∷ [])) { locals = var (codes "v") (Word 1) ∷ [] })) 23 4 0
    × Refused (with_body (stmt.Spawn (named (codes "R")) (word ∷ []) ∷ [])) 23 4 0
    × Refused (with_body (stmt.Spawn (named (codes "R")) (unsorted ∷ []) ∷ [])) 21 4 0
    × Refused (with_body (stmt.Spawn (named (codes "Q")) (word ∷ []) ∷ [])) 21 4 0
    × Refused (with_refined (codes "A") (expr.True ∷ word ∷ [])) 23 4 0
    × Refused (with_refined (codes "A") (expr.True ∷ unsorted ∷ [])) 21 4 0
    × Refused (with_thread (unit_thread (word ∷ []))) 23 6 0
    × Refused (with_thread (unit_thread (unsorted ∷ []))) 21 6 0
