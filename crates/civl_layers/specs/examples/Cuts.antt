-- The cuts of procedures, and the plain programs of a layered one.
use Rattle.std.specs.Prelude.{ℕ, ◌≡◌, true, false, List, [], ◌∷◌, codes}
use Rattle.civl_tree.specs.declared.expr.Expr as expr
use Rattle.civl_tree.specs.declared.stmt.Stmt.{Stmt}
use Rattle.civl_tree.specs.declared.stmt.Stmt as stmt
use Rattle.civl_meaning.specs.Layers.{program_at, lowest, topmost}
use Rattle.civl_layers.specs.declared.cut.Cut.{Cut}
use Rattle.civl_layers.specs.declared.cut.CutKind.{CutKind}
use Rattle.civl_layers.specs.declared.cut.CutKind.TheVariants.{Entry, Yield, YieldLoop, RankLoop}
use Rattle.civl_layers.specs.Cuts.{proc_cuts}
use Rattle.civl_layers.specs.examples.Tower.{proc_p, proc_r, calls, tower}

abbrev pub cut : ℕ → CutKind → Cut
cut statement kind = record { statement = statement; kind = kind }

-- `if` with a yield in each branch, a yield loop in a plain one, and a rank loop with a yield loop in it
abbrev pub body : List Stmt
body =
    stmt.Commit
    ∷ stmt.If expr.True (stmt.Yield expr.True ∷ calls (codes "Low") ∷ []) (stmt.Commit ∷ stmt.Yield expr.False ∷ [])
    ∷ stmt.While expr.True (stmt.YieldLoop expr.True expr.True (stmt.Yield expr.True ∷ []) ∷ [])
    ∷ stmt.RankLoop expr.True expr.True expr.True (stmt.YieldLoop expr.True expr.True [] ∷ [])
    ∷ []

abbrev pub CutsInOrder : Type 0
CutsInOrder =
    (proc_cuts (record proc_p { body = body })
    ≡ cut 0 Entry ∷ cut 2 Yield ∷ cut 5 Yield ∷ cut 7 YieldLoop ∷ cut 8 Yield ∷ cut 9 RankLoop ∷ cut 10 YieldLoop ∷ [])
    × (proc_cuts (record proc_p { body = stmt.Yield expr.True ∷ [] }) ≡ cut 0 Entry ∷ cut 0 Yield ∷ [])
    × (proc_cuts proc_p ≡ cut 0 Entry ∷ [])
    × (proc_cuts (record proc_r { body = body }) ≡ [])

abbrev pub BodiesOfLayers : Type 0
BodiesOfLayers =
    ((lowest tower).bodies ≡ true ∷ true ∷ true ∷ [])
    × ((program_at tower 1).bodies ≡ false ∷ true ∷ true ∷ [])
    × ((topmost tower).bodies ≡ false ∷ false ∷ true ∷ [])
    × ((topmost tower).program ≡ tower)
