-- What is assumed at a cut of a procedure, where its paths begin (Kragl, Qadeer, CAV 2018: yield invariants, linear
-- permissions, and the gate of the refined action).
use Rattle.std.specs.Prelude.{ℕ, Bool, true, false, not, ◌&&◌, ◌||◌, List, [], ◌++◌, length, take, Option, None, Some}
use Rattle.std.specs.Option.{option_map_or}
use Rattle.civl_bits.specs.declared.value.Value.{Value}
use Rattle.civl_tree.specs.declared.expr.Expr.{Expr}
use Rattle.civl_tree.specs.declared.stmt.Stmt.{Stmt, out-Stmt}
use Rattle.civl_tree.specs.declared.stmt.Stmt.TheOpen as stmt
use Rattle.civl_tree.specs.declared.action.Action.{Action}
use Rattle.civl_tree.specs.declared.program.Refines.{Refines}
use Rattle.civl_tree.specs.declared.program.Proc.{Proc}
use Rattle.civl_tree.specs.declared.program.Program.{Program}
use Rattle.civl_tree.specs.Numbering.{statement_at}
use Rattle.civl_firing.specs.declared.scope.Scope.{Scope}
use Rattle.civl_firing.specs.Fired.{gate_holds}
use Rattle.civl_meaning.specs.Permissions.{pairwise_disjoint}
use Rattle.civl_meaning.specs.Meaning.{refined}
use Rattle.civl_layers.specs.declared.cut.Cut.{Cut}
use Rattle.civl_layers.specs.declared.cut.CutKind.{CutKind}
use Rattle.civl_layers.specs.declared.cut.CutKind.TheVariants as kind
use Rattle.civl_conditions.specs.paths.NoteValues.{note_values}
use Rattle.civl_conditions.specs.paths.Choices.{action_meant}
use Rattle.civl_conditions.specs.Values.{Begun}
use Rattle.civl_conditions.specs.Permissions.{in_store, held_at, of_held}
use Rattle.civl_conditions.specs.Invariants.{holds_in, invariants_hold}

-- ---- what a cut says

abbrev pub layer_invariant : stmt.Stmt-F Stmt → Option Expr
layer_invariant (stmt.YieldLoop e i a) = Some i
layer_invariant (stmt.RankLoop e r i a) = Some i
layer_invariant (stmt.Yield i) = Some i
layer_invariant _ = None

abbrev pub layer_rank : stmt.Stmt-F Stmt → Option Expr
layer_rank (stmt.RankLoop e r i a) = Some r
layer_rank _ = None

-- what the statement of a cut says; the entry isn't one
abbrev pub said_at : (stmt.Stmt-F Stmt → Option Expr) → Proc → ℕ → CutKind → Option Expr
said_at f proc number kind.Entry = None
said_at f proc number _ = option_map_or (λ s. f (out-Stmt s)) (statement_at proc.body number) None

-- the invariant of a cut
abbrev pub cut_invariant : Proc → Cut → Option Expr
cut_invariant proc cut = said_at layer_invariant proc cut.statement cut.kind

-- the rank of a rank loop
abbrev pub cut_rank : Proc → Cut → Option Expr
cut_rank proc cut = said_at layer_rank proc cut.statement cut.kind

-- where there is an invariant it holds
abbrev pub note_holds : Scope → Option Expr → Bool
note_holds scope note = option_map_or (holds_in scope) note true

-- ---- the refined action

-- the action that a procedure refines
abbrev pub refined_action : Program → Proc → Option Action
refined_action program proc = action_meant (refined program proc.refines)

-- the expressions behind `with`, which stand for its choices
abbrev pub with_of : Option Refines → List Expr
with_of None = []
with_of (Some r) = r.with

-- its inputs are the procedure's parameters
abbrev pub inputs_of : Proc → List Value → List Value
inputs_of proc locals = take (length proc.params) locals

-- its gate holds of the old globals
abbrev pub refined_gate : Program → Proc → Begun → Bool
refined_gate program proc b = option_map_or (λ a. gate_holds program.globals b.old a (inputs_of proc b.locals)) (refined_action program proc) false

-- ---- the whole

-- the permissions that are owned at a path's beginning: those of the linear globals and of the held locals, as they are now
abbrev pub owned : Program → Proc → ℕ → Begun → List (List ℕ)
owned program proc c b = in_store program b.store ++ of_held (held_at program proc c) b.locals

-- the invariants of the step hold of the old globals; the cut's invariant holds; the refined action's gate holds of the old
-- globals, where old `done` is false; where it is true, so is `done`; and what is owned is pairwise disjoint
abbrev pub assumed : Program → ℕ → Proc → ℕ → Cut → Begun → Bool
assumed program step proc c cut b =
    invariants_hold program step b.old
    && (note_holds (note_values program.globals proc b.store b.locals b.done b.old b.old_outs b.old_done) (cut_invariant proc cut)
    && ((b.old_done || refined_gate program proc b)
    && ((not b.old_done || b.done)
    && pairwise_disjoint (owned program proc c b))))
