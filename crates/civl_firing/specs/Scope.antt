-- Part of the claim: docs/CLAIM.md.
-- The values of the names at a program's places: which names stand there, and for which values. The sorts of the names
-- there are the scopes of civl_tree's rules.
use Rattle.std.specs.Prelude.{false, List, ◌++◌, map}
use Rattle.civl_bits.specs.declared.value.Value.{Value}
use Rattle.civl_tree.specs.declared.name.Name.{Name}
use Rattle.civl_tree.specs.declared.action.Action.{Action}
use Rattle.civl_tree.specs.declared.action.Choice.{Choice}
use Rattle.civl_tree.specs.declared.action.Param.{Param}
use Rattle.civl_tree.specs.declared.program.Global.{Global}
use Rattle.civl_tree.specs.declared.program.Local.{Local}
use Rattle.civl_tree.specs.declared.program.Proc.{Proc}
use Rattle.civl_tree.specs.rules.Names.{global_names, param_names, names_in_proc}
use Rattle.civl_firing.specs.declared.store.Store.{Store}
use Rattle.civl_firing.specs.declared.scope.Scope.{Scope}
use Rattle.civl_firing.specs.values.Values.{zero_of}

abbrev pub choice_names : List Choice → List Name
choice_names choices = map (λ c. c.name) choices

abbrev pub local_names : List Local → List Name
local_names locals = map (λ l. l.name) locals

abbrev pub zeros_of_globals : List Global → List Value
zeros_of_globals globals = map (λ g. zero_of g.sort) globals

abbrev pub zeros_of_params : List Param → List Value
zeros_of_params params = map (λ p. zero_of p.sort) params

abbrev pub zeros_of_locals : List Local → List Value
zeros_of_locals locals = map (λ l. zero_of l.sort) locals

-- a place that gives `done` and `old(..)` no values of their own: `done` and `old(done)` are false, and `old(n)` is the
-- value of n
abbrev pub present_values : List Name → List Value → Scope
present_values names values = record { names = names; values = values; old = values; done = false; old_done = false }

-- `init` and the arguments of threads: the globals
abbrev pub global_values : List Global → Store → Scope
global_values globals store = present_values (global_names globals) store.values

-- an action's gate and offers: the globals and the parameters; the outputs, which `old(..)` may name, are zeros
abbrev pub gate_values : List Global → Store → Action → List Value → Scope
gate_values globals store action inputs =
    present_values (global_names globals ++ (param_names action.params ++ param_names action.outs))
    (store.values ++ (inputs ++ zeros_of_params action.outs))

-- an action's guard and updates: these and the choices
abbrev pub guard_values : List Global → Store → Action → List Value → List Value → Scope
guard_values globals store action inputs chosen =
    present_values (global_names globals ++ (param_names action.params ++ (choice_names action.choices ++ param_names action.outs)))
    (store.values ++ (inputs ++ (chosen ++ zeros_of_params action.outs)))

-- a procedure's statements: its parameters, outputs and locals; the globals, which `old(..)` may name, are zeros
abbrev pub frame_values : List Global → Proc → List Value → Scope
frame_values globals proc locals = present_values (names_in_proc proc ++ global_names globals) (locals ++ zeros_of_globals globals)
