-- Programs with a name that stands for two things, and some whose names only look alike.
use Rattle.std.specs.Prelude.{[], ◌∷◌, codes}
use Rattle.civl_tree.specs.declared.expr.Expr as expr
use Rattle.civl_tree.specs.declared.expr.Sort.TheVariants as sort
use Rattle.civl_tree.specs.declared.stmt.Stmt as stmt
use Rattle.civl_tree.specs.declared.action.Action.{Action}
use Rattle.civl_tree.specs.declared.program.Program.{Program}
use Rattle.civl_tree.specs.examples.RulesFlag.{named, flag_global, update, plain_action, bare, val, choice, var, root, call, Passes, Refused}

-- two globals `f`
abbrev pub two_globals : Program
two_globals = record bare { globals = flag_global ∷ flag_global ∷ [] }

-- a global `f`, and then this action
abbrev pub with_action : Action → Program
with_action action = record bare { globals = flag_global ∷ []; actions = action ∷ [] }

abbrev pub act : Action
act = plain_action (codes "A") 0 []

-- an action `f` beside the global `f`
abbrev pub action_as_global : Program
action_as_global = with_action (plain_action (codes "f") 0 [])

-- an action whose parameter has the name of a global
abbrev pub param_as_global : Program
param_as_global = with_action (record act { params = val (codes "f") sort.Bool ∷ [] })

-- one whose output has the name of its parameter
abbrev pub out_as_param : Program
out_as_param = with_action (record act { params = val (codes "a") sort.Bool ∷ []; outs = val (codes "a") sort.Bool ∷ [] })

-- one whose choice has the name of its output, but not of its parameter
abbrev pub choice_as_out : Program
choice_as_out = with_action (record act { params = val (codes "p") sort.Bool ∷ []; outs = val (codes "a") sort.Bool ∷ []; choices = choice (codes "a") sort.Bool expr.True ∷ [] })

-- one that updates `f` twice
abbrev pub two_updates : Program
two_updates = with_action (plain_action (codes "A") 0 (update (codes "f") expr.True ∷ update (codes "f") expr.False ∷ []))

-- two actions and a procedure with one name
abbrev pub two_actions : Program
two_actions = record bare { actions = act ∷ act ∷ [] }

abbrev pub proc_as_action : Program
proc_as_action = record bare { actions = act ∷ []; procs = root (codes "A") [] ∷ [] }

abbrev pub two_procs : Program
two_procs = record bare { procs = root (codes "Q") [] ∷ root (codes "Q") [] ∷ [] }

-- a local with the name of a parameter, and one with that of a global
abbrev pub local_as_param : Program
local_as_param = record bare { procs = record (root (codes "Q") []) { params = val (codes "a") sort.Bool ∷ []; locals = var (codes "a") sort.Bool ∷ [] } ∷ [] }

abbrev pub local_as_global : Program
local_as_global = record bare { globals = flag_global ∷ []; procs = record (root (codes "Q") []) { locals = var (codes "f") sort.Bool ∷ [] } ∷ [] }

-- a local with the name of an output, and a procedure with the name of a global
abbrev pub local_as_out : Program
local_as_out = record bare { procs = record (root (codes "Q") []) { outs = val (codes "a") sort.Bool ∷ []; locals = var (codes "a") sort.Bool ∷ [] } ∷ [] }

abbrev pub proc_as_global : Program
proc_as_global = record bare { globals = flag_global ∷ []; procs = root (codes "f") [] ∷ [] }

-- an action with two outputs, and a procedure that takes both into one local, in the second branch of an `if`
abbrev pub pair : Action
pair = record (plain_action (codes "Two") 0 (update (codes "a") expr.True ∷ update (codes "b") expr.True ∷ [])) { outs = val (codes "a") sort.Bool ∷ val (codes "b") sort.Bool ∷ [] }

abbrev pub two_results : Program
two_results = record bare {
  actions = pair ∷ [];
  procs = record (root (codes "Q") (stmt.If expr.True (stmt.Commit ∷ []) (call (codes "Two") [] (named (codes "a") ∷ named (codes "a") ∷ []) ∷ []) ∷ [])) { locals = var (codes "a") sort.Bool ∷ [] } ∷ [];
}

-- names may be used again: that of an action or procedure by its own parameters or locals, and any by two declarations
abbrev pub names_again : Program
names_again = record bare {
  actions = record act { params = val (codes "A") sort.Bool ∷ val (codes "a") sort.Bool ∷ [] } ∷ [];
  procs = record (root (codes "Q") []) { params = val (codes "a") sort.Bool ∷ []; locals = var (codes "A") sort.Bool ∷ var (codes "Q") sort.Bool ∷ [] } ∷ [];
}

abbrev pub RefusesTwice : Type 0
RefusesTwice =
    Refused two_globals 10 1 0
    × Refused action_as_global 10 2 0
    × Refused param_as_global 10 2 0
    × Refused out_as_param 10 2 0
    × Refused choice_as_out 10 2 0
    × Refused two_updates 10 2 0
    × Refused two_actions 10 2 0
    × Refused proc_as_action 10 2 0
    × Refused two_procs 10 2 0
    × Refused local_as_param 10 1 0
    × Refused local_as_global 10 2 0
    × Refused local_as_out 10 1 0
    × Refused proc_as_global 10 2 0
    × Refused two_results 10 2 2
    × Passes names_again
