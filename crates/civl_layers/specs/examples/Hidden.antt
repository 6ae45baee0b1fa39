-- E31: globals that are used where they don't exist.
use Rattle.std.specs.Prelude.{codes, [], ◌∷◌}
use Rattle.civl_tree.specs.declared.expr.Expr.{Expr}
use Rattle.civl_tree.specs.declared.expr.Expr as expr
use Rattle.civl_tree.specs.declared.expr.One.TheVariants.{Not}
use Rattle.civl_tree.specs.declared.expr.Sort.TheVariants.{Bool as Truth}
use Rattle.civl_tree.specs.declared.stmt.Stmt as stmt
use Rattle.civl_tree.specs.declared.action.Action.{Action}
use Rattle.civl_tree.specs.declared.program.Program.{Program}
use Rattle.civl_tree.specs.examples.RulesFlag.{named, name, update, val, choice}
use Rattle.civl_layers.specs.examples.Tower.{setting, low, mid, top, layered, intro, same, proc_p, proc_q, proc_r, with_invariant, with_actions, with_procs, with_p, with_q, with_r, Stands, Falls}

-- the first action edited, and the last
abbrev pub with_low : Action → Program
with_low action = with_actions action mid top

abbrev pub with_top : Action → Program
with_top action = with_actions low mid action

-- the global c, which begins in layer 1, and a, which ends in layer 0
abbrev pub upper : Expr
upper = name (codes "c")

abbrev pub lower : Expr
lower = name (codes "a")

-- an action names a global that doesn't exist in its whole range: in the gate, plain and old, in the guard, in an offer,
-- in an update and as a target; an output of that name can't be declared beside the global, and others are no globals
abbrev pub HiddenInActions : Type 0
HiddenInActions =
    Falls (with_low (record low { gate = upper })) 31 5 0
    × Falls (with_low (record low { gate = expr.Old (named (codes "c")) })) 31 5 0
    × Falls (with_low (record low { guard = same expr.True (expr.One Not upper) })) 31 5 0
    × Falls (with_low (record low { choices = choice (codes "x") Truth upper ∷ [] })) 31 5 0
    × Falls (with_low (record low { updates = update (codes "a") upper ∷ [] })) 31 5 0
    × Falls (with_low (record low { updates = update (codes "b") expr.True ∷ update (codes "c") expr.True ∷ [] })) 31 5 0
    × Falls (with_top (record top { gate = lower })) 31 7 0
    × Falls (with_low (setting (codes "Low") 0 1 (codes "a"))) 31 5 0
    × Falls (with_top (setting (codes "Top") 0 2 (codes "c"))) 31 7 0
    × Stands (with_top (setting (codes "Top") 0 2 (codes "b")))
    × Stands (with_top (record top { gate = upper }))
    × Stands (with_low (record low { gate = name (codes "p"); params = val (codes "p") Truth ∷ []; outs = val (codes "o") Truth ∷ []; updates = update (codes "o") expr.True ∷ [] }))

-- an invariant, and what a procedure says of the store: of step 2, which doesn't know a
abbrev pub HiddenAtSteps : Type 0
HiddenAtSteps =
    Falls (with_invariant 2 lower) 31 4 0
    × Stands (with_invariant 1 lower)
    × Stands (with_invariant 2 upper)
    × Falls (with_procs proc_p (layered (codes "Q") (codes "Top") (expr.True ∷ lower ∷ []) 2 []) proc_r) 31 9 0
    × Stands (with_procs (layered (codes "P") (codes "Mid") (upper ∷ lower ∷ []) 1 []) proc_q proc_r)
    × Falls (with_q (stmt.Commit ∷ stmt.Yield lower ∷ [])) 31 9 1
    × Falls (with_q (stmt.If lower [] (stmt.YieldLoop lower lower [] ∷ []) ∷ [])) 31 9 1
    × Falls (with_q (stmt.While expr.True (stmt.RankLoop expr.True lower expr.True [] ∷ []) ∷ [])) 31 9 1
    × Falls (with_q (stmt.RankLoop expr.True expr.True lower (stmt.Commit ∷ []) ∷ [])) 31 9 0
    × Falls (with_q (intro (codes "b") lower ∷ [])) 31 9 0
    × Stands (with_p (stmt.Yield (same lower upper) ∷ []))
    × Stands (with_q (stmt.If lower [] [] ∷ stmt.While lower [] ∷ stmt.YieldLoop lower upper [] ∷ stmt.RankLoop lower upper upper [] ∷ stmt.Assert lower ∷ []))
    × Stands (with_r (stmt.Yield lower ∷ stmt.YieldLoop expr.True lower [] ∷ stmt.RankLoop expr.True lower lower [] ∷ intro (codes "a") lower ∷ []))
