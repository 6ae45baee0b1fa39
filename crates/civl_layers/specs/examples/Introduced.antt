-- E34 and E35: signatures, introduced globals and linear ones.
use Rattle.std.specs.Prelude.{true, codes, ℕ, List, [], ◌∷◌}
use Rattle.civl_tree.specs.declared.expr.Expr as expr
use Rattle.civl_tree.specs.declared.expr.Sort.TheVariants.{Bool as Truth, Word}
use Rattle.civl_tree.specs.declared.stmt.Stmt as stmt
use Rattle.civl_tree.specs.declared.action.Param.{Param}
use Rattle.civl_tree.specs.declared.program.Program.{Program}
use Rattle.civl_tree.specs.examples.RulesFlag.{val, lend}
use Rattle.civl_layers.specs.examples.Tower.{global, low, mid, top, intro, proc_p, proc_q, proc_r, with_globals, with_procs, with_p, with_q, with_r, Stands, Falls}

-- P with these parameters and outputs refines Mid with those
abbrev pub signed : List Param → List Param → List Param → List Param → Program
signed params outs others given =
    record (with_procs (record proc_p { params = params; outs = outs }) proc_q proc_r) { actions = low ∷ record mid { params = others; outs = given } ∷ top ∷ [] }

abbrev pub SignaturesAgree : Type 0
SignaturesAgree =
    Falls (signed (val (codes "x") Truth ∷ []) [] [] []) 34 8 0
    × Falls (signed [] [] [] (val (codes "x") Truth ∷ [])) 34 8 0
    × Falls (signed (val (codes "x") (Word 1) ∷ []) [] (lend (codes "x") (Word 1) ∷ []) []) 34 8 0
    × Falls (signed (val (codes "x") (Word 2) ∷ []) [] (val (codes "x") (Word 1) ∷ []) []) 34 8 0
    × Falls (signed [] (val (codes "x") Truth ∷ val (codes "y") Truth ∷ []) [] (val (codes "x") Truth ∷ val (codes "y") (Word 1) ∷ [])) 34 8 0
    × Stands (signed (val (codes "x") Truth ∷ []) (val (codes "y") (Word 2) ∷ []) (val (codes "z") Truth ∷ []) (val (codes "w") (Word 2) ∷ []))

-- the second global as a linear one with these layers
abbrev pub linear : ℕ → ℕ → Program
linear first last = with_globals (global (codes "a") 0 0) (record (global (codes "b") first last) { linear = true }) (global (codes "c") 1 2)

abbrev pub IntrosBegin : Type 0
IntrosBegin =
    Falls (with_p (stmt.Commit ∷ intro (codes "b") expr.True ∷ [])) 35 8 1
    × Falls (with_p (intro (codes "a") expr.True ∷ [])) 35 8 0
    × Falls (with_q (stmt.If expr.True [] (intro (codes "c") expr.True ∷ []) ∷ [])) 35 9 1
    × Stands (with_p (intro (codes "c") expr.True ∷ intro (codes "c") expr.False ∷ []))
    × Stands (with_r (intro (codes "a") expr.True ∷ []))
    × Falls (record (linear 0 1) { actions = low ∷ mid ∷ []; procs = proc_p ∷ []; threads = [] }) 35 1 0
    × Falls (record (linear 1 2) { actions = low ∷ mid ∷ []; procs = proc_p ∷ []; threads = [] }) 35 1 0
    × Stands (linear 0 2)
