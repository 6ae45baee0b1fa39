-- Which names an expression may use at each place of a program, with their sorts, and which names may stand in
-- `old(name)` there.
use Rattle.std.specs.Prelude.{List, [], ◌∷◌, ◌++◌, map, Option, None, Some, if◌then◌else◌}
use Rattle.civl_tree.specs.declared.name.Name.{Name}
use Rattle.civl_tree.specs.declared.expr.Sort.{Sort}
use Rattle.civl_tree.specs.declared.action.Param.{Param}
use Rattle.civl_tree.specs.declared.action.Choice.{Choice}
use Rattle.civl_tree.specs.declared.action.Action.{Action}
use Rattle.civl_tree.specs.declared.program.Global.{Global}
use Rattle.civl_tree.specs.declared.program.Local.{Local}
use Rattle.civl_tree.specs.declared.program.Proc.{Proc}
use Rattle.civl_tree.specs.declared.program.Program.{Program}
use Rattle.civl_tree.specs.rules.Names.{same_name}

-- a name with its declared sort
pub record Binding : Type 0 where
  pub name : Name
  pub sort : Sort

-- the names that an expression may use, and those that may stand in `old(name)`
pub record Scope : Type 0 where
  pub names : List Binding
  pub olds : List Binding

-- the sort of a name, where it is one of these
abbrev pub sort_in : List Binding → Name → Option Sort
sort_in [] name = None
sort_in (binding ∷ bindings) name = if same_name binding.name name then Some binding.sort else sort_in bindings name

-- ---- the names of declarations with their sorts, in text order

abbrev pub bind_globals : List Global → List Binding
bind_globals globals = map (λ global. record { name = global.name; sort = global.sort }) globals

abbrev pub bind_params : List Param → List Binding
bind_params params = map (λ param. record { name = param.name; sort = param.sort }) params

abbrev pub bind_choices : List Choice → List Binding
bind_choices choices = map (λ choice. record { name = choice.name; sort = choice.sort }) choices

abbrev pub bind_locals : List Local → List Binding
bind_locals locals = map (λ declared. record { name = declared.name; sort = declared.sort }) locals

-- the parameters, outputs and locals of a procedure
abbrev pub bind_proc : Proc → List Binding
bind_proc proc = bind_params proc.params ++ (bind_params proc.outs ++ bind_locals proc.locals)

-- ---- the scopes; `old(name)` may name the globals, and the outputs of the declaration where it stands

-- `init`, invariants and the arguments of threads: the globals
abbrev pub global_scope : Program → Scope
global_scope program = record { names = bind_globals program.globals; olds = bind_globals program.globals }

-- the gate of an action and the offers of its choices: globals and parameters
abbrev pub gate_scope : Program → Action → Scope
gate_scope program action = record {
  names = bind_globals program.globals ++ bind_params action.params;
  olds = bind_globals program.globals ++ bind_params action.outs;
}

-- the guard and the updates of an action: globals, parameters and choices
abbrev pub guard_scope : Program → Action → Scope
guard_scope program action = record {
  names = bind_globals program.globals ++ (bind_params action.params ++ bind_choices action.choices);
  olds = bind_globals program.globals ++ bind_params action.outs;
}

-- assigns, asserts, conditions and the arguments of calls and spawns: parameters, outputs and locals
abbrev pub body_scope : Program → Proc → Scope
body_scope program proc = record { names = bind_proc proc; olds = bind_globals program.globals ++ bind_params proc.outs }

-- yield and loop invariants, ranks, the values after `with` and those of an intro: these and the globals
abbrev pub note_scope : Program → Proc → Scope
note_scope program proc = record {
  names = bind_globals program.globals ++ bind_proc proc;
  olds = bind_globals program.globals ++ bind_params proc.outs;
}
