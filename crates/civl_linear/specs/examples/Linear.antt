-- E40 to E43 on bodies, and what is held at cuts.
use Rattle.std.specs.Prelude.{◌≡◌, Bool, true, false, codes, List, [], ◌∷◌}
use Rattle.civl_tree.specs.declared.expr.Expr as expr
use Rattle.civl_tree.specs.declared.stmt.Stmt as stmt
use Rattle.civl_tree.specs.declared.stmt.Stmt.{Stmt}
use Rattle.civl_tree.specs.examples.RulesFlag.{named, name, call}
use Rattle.civl_linear.specs.Held.{traced_all, entry_held}
use Rattle.civl_linear.specs.examples.Dock.{proc_p, takes, lends, pairs, gives, tells, spawns, Stands, Falls, held, dock}

-- E40: what was taken, what was never held, what is no plain name, and what may not be passed
abbrev pub NotHeldArguments : Type 0
NotHeldArguments =
    Stands (lends (codes "x") ∷ lends (codes "y") ∷ takes (codes "x") ∷ gives (codes "o") ∷ [])
    × Falls (gives (codes "o") ∷ takes (codes "x") ∷ takes (codes "x") ∷ []) 40 2
    × Falls (gives (codes "o") ∷ spawns (codes "x") ∷ lends (codes "x") ∷ []) 40 2
    × Falls (lends (codes "z") ∷ gives (codes "o") ∷ []) 40 0
    × Falls (call (codes "Lend") (expr.Old (named (codes "x")) ∷ []) [] ∷ []) 40 0
    × Falls (gives (codes "o") ∷ lends (codes "o") ∷ []) 40 1
    × Falls (gives (codes "v") ∷ lends (codes "v") ∷ []) 40 1

-- E41: one local for two linear parameters, and what is given to a local that is held
abbrev pub HeldTwice : Type 0
HeldTwice =
    Stands (pairs (codes "y") (codes "x") ∷ gives (codes "z") ∷ gives (codes "o") ∷ [])
    × Falls (gives (codes "o") ∷ pairs (codes "x") (codes "x") ∷ []) 41 1
    × Falls (gives (codes "x") ∷ []) 41 0
    × Falls (gives (codes "o") ∷ gives (codes "o") ∷ []) 41 1
    × Falls (gives (codes "v") ∷ gives (codes "v") ∷ []) 41 1

-- E42: what is owed at the exit, whose number is that of the statements
abbrev pub NotReturned : Type 0
NotReturned =
    Stands (gives (codes "o") ∷ [])
    × Falls [] 42 0
    × Falls (takes (codes "y") ∷ gives (codes "o") ∷ []) 42 2
    × Falls (gives (codes "o") ∷ spawns (codes "y") ∷ []) 42 2

-- E43: assigns and results to what they may not go to
abbrev pub Misassigned : Type 0
Misassigned =
    Stands (gives (codes "o") ∷ stmt.Assign (named (codes "v")) (name (codes "x")) ∷ tells (codes "v") ∷ [])
    × Falls (gives (codes "o") ∷ stmt.Assign (named (codes "x")) (name (codes "v")) ∷ []) 43 1
    × Falls (gives (codes "o") ∷ stmt.Assign (named (codes "z")) (name (codes "v")) ∷ []) 43 1
    × Falls (stmt.Assign (named (codes "o")) (name (codes "v")) ∷ gives (codes "o") ∷ []) 43 0
    × Falls (gives (codes "o") ∷ gives (codes "v") ∷ []) 43 1
    × Falls (gives (codes "o") ∷ tells (codes "z") ∷ []) 43 1
    × Falls (gives (codes "o") ∷ tells (codes "y") ∷ []) 43 1

-- what is lost by the statements of a body, in text order
abbrev pub lost : List Stmt → List Bool
lost body = (traced_all (dock body) (named (codes "x") ∷ named (codes "y") ∷ named (codes "o") ∷ named (codes "z") ∷ named (codes "v") ∷ []) body (entry_held (proc_p body))).losses

-- what is held behind them
abbrev pub behind : List Stmt → List Bool
behind body = (traced_all (dock body) (named (codes "x") ∷ named (codes "y") ∷ named (codes "o") ∷ named (codes "z") ∷ named (codes "v") ∷ []) body (entry_held (proc_p body))).after

-- loops that lose something, and branches that don't hold the same
abbrev pub LoopsAndBranches : Type 0
LoopsAndBranches =
    (lost (stmt.While expr.True (takes (codes "x") ∷ []) ∷ []) ≡ true ∷ false ∷ [])
    × (lost (stmt.YieldLoop expr.True expr.True (gives (codes "o") ∷ lends (codes "x") ∷ []) ∷ []) ≡ false ∷ false ∷ false ∷ [])
    × (behind (stmt.If expr.True (takes (codes "x") ∷ []) (gives (codes "z") ∷ []) ∷ []) ≡ false ∷ true ∷ false ∷ false ∷ false ∷ [])
    × (behind (stmt.While expr.True (gives (codes "z") ∷ []) ∷ []) ≡ true ∷ true ∷ false ∷ false ∷ false ∷ [])

-- what is held at the entry and at each yield
abbrev pub HeldAtCuts : Type 0
HeldAtCuts =
    (held (gives (codes "o") ∷ []) ≡ (0 ∷ 1 ∷ []) ∷ [])
    × (held (stmt.Yield expr.True ∷ takes (codes "x") ∷ stmt.Yield expr.True ∷ gives (codes "z") ∷ stmt.Yield expr.True ∷ gives (codes "o") ∷ []) ≡ (0 ∷ 1 ∷ []) ∷ (0 ∷ 1 ∷ []) ∷ (1 ∷ []) ∷ (1 ∷ 3 ∷ []) ∷ [])
