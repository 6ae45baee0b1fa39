-- Programs at a limit, and past it.
use Rattle.std.specs.Prelude.{ℕ, ◌≡◌, zero, suc, List, [], ◌∷◌, replicate, codes}
use Rattle.civl_tree.specs.declared.expr.Expr as expr
use Rattle.civl_tree.specs.declared.expr.Sort.TheVariants as sort
use Rattle.civl_tree.specs.declared.stmt.Stmt.{Stmt}
use Rattle.civl_tree.specs.declared.stmt.Stmt as stmt
use Rattle.civl_tree.specs.declared.program.Local.{Local}
use Rattle.civl_tree.specs.declared.program.Program.{Program}
use Rattle.civl_tree.specs.rules.Rules.{refusals_of}
use Rattle.civl_tree.specs.rules.Typing.{count_rule}
use Rattle.civl_tree.specs.rules.Broken.{broken_at}
use Rattle.civl_tree.specs.examples.RulesFlag.{flag, flag_global, set_thread, plain_action, val, choice, var, root, do_set, bare, Passes, Refused}

-- the numbers of the header
abbrev pub CountsInHeader : Type 0
CountsInHeader =
    Passes bare
    × Passes (record bare { version = 2 })
    × Refused (record bare { version = 0 }) 12 0 0
    × Refused (record bare { version = 3 }) 12 0 0
    × Passes (record bare { layers = 8 })
    × Refused (record bare { layers = 0 }) 12 0 0
    × Refused (record bare { layers = 9 }) 12 0 0
    × Passes (record bare { permissions = 5 })
    × Refused (record bare { permissions = 0 }) 12 0 0
    × Refused (record bare { permissions = 6 }) 12 0 0

-- the places of E12 alone, where the declarations have one name
abbrev pub CountsOver : Program → ℕ → Type 0
CountsOver program item = refusals_of count_rule program ≡ broken_at count_rule item 0 ∷ []

abbrev pub CountsFit : Program → Type 0
CountsFit program = refusals_of count_rule program ≡ []

-- so many declarations of a kind: one past the limit, and some more past it, which are no further fault
abbrev pub many_globals : ℕ → Program
many_globals count = record flag { globals = replicate count flag_global }

abbrev pub many_invariants : ℕ → Program
many_invariants count = record bare { invariants = replicate count (record { step = 1; expr = expr.True }) }

abbrev pub many_actions : ℕ → Program
many_actions count = record flag { actions = replicate count (plain_action (codes "A") 0 []) }

abbrev pub many_procs : ℕ → Program
many_procs count = record bare { procs = replicate count (root (codes "R") []) }

abbrev pub many_threads : ℕ → Program
many_threads count = record flag { threads = replicate count set_thread }

abbrev pub CountsOfItems : Type 0
CountsOfItems =
    CountsFit (many_globals 64)
    × CountsOver (many_globals 66) 64
    × CountsFit (many_invariants 64)
    × CountsOver (many_invariants 66) 65
    × CountsFit (many_actions 128)
    × CountsOver (many_actions 130) 130
    × CountsFit (many_procs 64)
    × CountsOver (many_procs 66) 65
    × CountsFit (many_threads 64)
    × CountsOver (many_threads 66) 69

-- the flag program with 64 threads, and with 65
abbrev pub CountsOfThreads : Type 0
CountsOfThreads = Passes (many_threads 64) × Refused (many_threads 65) 12 69 0

-- an action or a procedure with so many names of each kind
abbrev pub wide_action : ℕ → ℕ → ℕ → Program
wide_action params outs choices = record bare {
  actions = record (plain_action (codes "A") 0 []) {
    params = replicate params (val (codes "p") sort.Bool);
    outs = replicate outs (val (codes "o") sort.Bool);
    choices = replicate choices (choice (codes "c") sort.Bool expr.True);
  } ∷ [];
}

abbrev pub wide_proc : ℕ → ℕ → ℕ → Program
wide_proc params outs locals = record bare {
  procs = record (root (codes "R") []) {
    params = replicate params (val (codes "p") sort.Bool);
    outs = replicate outs (val (codes "o") sort.Bool);
    locals = replicate locals (var (codes "v") sort.Bool);
  } ∷ [];
}

-- so many locals v, vv, vvv, ..
abbrev pub locals_from : List ℕ → ℕ → List Local
locals_from prefix zero = []
locals_from prefix (suc count) = var (118 ∷ prefix) sort.Bool ∷ locals_from (118 ∷ prefix) count

-- the flag program with so many locals
abbrev pub flag_locals : ℕ → Program
flag_locals count = record flag { procs = record (do_set []) { locals = locals_from [] count } ∷ [] }

abbrev pub CountsOfNames : Type 0
CountsOfNames =
    CountsFit (wide_action 10 11 11)
    × CountsOver (wide_action 11 11 11) 1
    × CountsOver (wide_action 33 0 0) 1
    × CountsFit (wide_proc 10 11 11)
    × CountsOver (wide_proc 11 11 11) 1
    × CountsOver (wide_proc 0 33 0) 1
    × Passes (flag_locals 32)
    × Refused (flag_locals 33) 12 4 0

-- the flag program's procedure with this body, and then a procedure with the other one, and a root with many yields
abbrev pub two_bodies : List Stmt → List Stmt → Program
two_bodies first second = record flag {
  procs = do_set first ∷ root (codes "Main") (replicate 300 (stmt.Yield expr.True)) ∷ do_set second ∷ [];
}

abbrev pub yields : ℕ → List Stmt
yields count = replicate count (stmt.Yield expr.True)

-- a yield loop with a rank loop and an `if` in it: 4 cut points
abbrev pub nested : List Stmt
nested =
    stmt.YieldLoop expr.True expr.True (stmt.RankLoop expr.True (expr.Literal 0 1) expr.True (stmt.Commit ∷ []) ∷ stmt.If expr.True (yields 1) (yields 1) ∷ [])
    ∷ []

abbrev pub CountsOfCuts : Type 0
CountsOfCuts =
    CountsFit (two_bodies (yields 254) [])
    × CountsOver (two_bodies (yields 255) []) 6
    × CountsFit (two_bodies (yields 127) (yields 127))
    × CountsFit (two_bodies nested (yields 250))
    × CountsOver (two_bodies nested (yields 251)) 6
    × CountsOver (two_bodies (yields 256) []) 4
