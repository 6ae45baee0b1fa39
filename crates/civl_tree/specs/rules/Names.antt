-- Part of the claim: docs/CLAIM.md.
-- The names that a program declares, and what a name stands for. The forms of declaration are those of layered
-- programs over gated atomic actions (Hawblitzel, Petrank, Qadeer, Tasiran, CAV 2015; Kragl, Qadeer, CAV 2018).
use Rattle.std.specs.Prelude.{Bool, false, ◌||◌, List, [], ◌∷◌, ◌++◌, map, Option, None, Some}
use Rattle.std.specs.List.{find, list_any}
use Rattle.std.specs.Str.{bytes_eq}
use Rattle.civl_tree.specs.declared.name.Name.{Name}
use Rattle.civl_tree.specs.declared.action.Param.{Param}
use Rattle.civl_tree.specs.declared.action.Action.{Action}
use Rattle.civl_tree.specs.declared.program.Global.{Global}
use Rattle.civl_tree.specs.declared.program.Proc.{Proc}
use Rattle.civl_tree.specs.declared.program.Program.{Program}

-- two names have the same bytes
abbrev pub same_name : Name → Name → Bool
same_name first second = bytes_eq first.bytes second.bytes

-- the name is one of these
abbrev pub has_name : List Name → Name → Bool
has_name names name = list_any (same_name name) names

-- some name stands among these more than once
abbrev pub any_twice : List Name → Bool
any_twice [] = false
any_twice (name ∷ names) = has_name names name || any_twice names

-- ---- the names of declarations, in text order

abbrev pub global_names : List Global → List Name
global_names globals = map (λ global. global.name) globals

abbrev pub action_names : List Action → List Name
action_names actions = map (λ action. action.name) actions

abbrev pub proc_names : List Proc → List Name
proc_names procs = map (λ proc. proc.name) procs

abbrev pub param_names : List Param → List Name
param_names params = map (λ param. param.name) params

-- the names that an action declares: its parameters, outputs and choices
abbrev pub names_in_action : Action → List Name
names_in_action action = param_names action.params ++ (param_names action.outs ++ map (λ choice. choice.name) action.choices)

-- the names that a procedure declares: its parameters, outputs and locals
abbrev pub names_in_proc : Proc → List Name
names_in_proc proc = param_names proc.params ++ (param_names proc.outs ++ map (λ declared. declared.name) proc.locals)

-- what an action updates
abbrev pub targets_of : Action → List Name
targets_of action = map (λ update. update.target) action.updates

-- ---- what a name stands for

-- the action of this name
abbrev pub action_named : Program → Name → Option Action
action_named program name = find (λ action. same_name name action.name) program.actions

-- the procedure of this name
abbrev pub proc_named : Program → Name → Option Proc
proc_named program name = find (λ proc. same_name name proc.name) program.procs

-- the parameters and outputs of an action or a procedure
pub record Signature : Type 0 where
  pub params : List Param
  pub outs : List Param

abbrev pub action_signature : Action → Signature
action_signature action = record { params = action.params; outs = action.outs }

abbrev pub proc_signature : Proc → Signature
proc_signature proc = record { params = proc.params; outs = proc.outs }

abbrev pub proc_signature_of : Option Proc → Option Signature
proc_signature_of None = None
proc_signature_of (Some proc) = Some (proc_signature proc)

-- that of the action where there is one, else that of the procedure
abbrev pub first_signature : Option Action → Option Proc → Option Signature
first_signature None proc = proc_signature_of proc
first_signature (Some action) proc = Some (action_signature action)

-- the signature of the action or procedure that a call of this name means
abbrev pub callee_signature : Program → Name → Option Signature
callee_signature program name = first_signature (action_named program name) (proc_named program name)
