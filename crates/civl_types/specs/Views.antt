-- What the code hands on in place of a scope (`sort_of` and civl_weighing cite `scope_of`), or of a signature.
use Rattle.std.specs.Prelude.{Option, None, Some}
use Rattle.civl_tree.specs.rules.Names.{Signature}
use Rattle.civl_types.specs.declared.names.Signature.{Signature as Lent}
use Rattle.civl_types.specs.declared.view.View.{View}
use Rattle.civl_types.specs.declared.view.View.TheVariants.{Globals, Gate, Guard, Body, Note}
use Rattle.civl_tree.specs.rules.Scopes.{Scope, global_scope, gate_scope, guard_scope, body_scope, note_scope}

-- the scope at a place
abbrev pub scope_of : View → Scope
scope_of (Globals program) = global_scope program.now
scope_of (Gate program action) = gate_scope program.now action.now
scope_of (Guard program action) = guard_scope program.now action.now
scope_of (Body program proc) = body_scope program.now proc.now
scope_of (Note program proc) = note_scope program.now proc.now

-- the signature that is handed on
abbrev pub signature_of : Option Lent → Option Signature
signature_of None = None
signature_of (Some signature) = Some (record { params = signature.params.now; outs = signature.outs.now })
