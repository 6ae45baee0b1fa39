-- What the terms say that stand for the names in notes: in the invariants of a procedure's yields and loops, in its ranks, in the
-- values behind `with` and in those of intros.
use Rattle.std.specs.Prelude.{◌≡◌, ℕ, Bool, List, Some, slice_get}
use Rattle.civl_bits.specs.declared.value.Value.{Value}
use Rattle.civl_tree.specs.declared.expr.Expr.{Expr}
use Rattle.civl_tree.specs.declared.expr.Sort.{Sort}
use Rattle.civl_tree.specs.declared.expr.Sort.TheVariants.{Bool as Truth}
use Rattle.civl_tree.specs.declared.program.Proc.{Proc}
use Rattle.civl_tree.specs.declared.program.Program.{Program}
use Rattle.civl_tree.specs.rules.Sorts.{sort_of}
use Rattle.civl_tree.specs.rules.Scopes.{Scope as Sorts, global_scope, note_scope}
use Rattle.civl_tree.specs.rules.Uses.{param_sorts}
use Rattle.civl_firing.specs.declared.store.Store.{Store}
use Rattle.civl_firing.specs.declared.scope.Scope.{Scope}
use Rattle.civl_firing.specs.Eval.{value_of}
use Rattle.civl_firing.specs.Scope.{global_values}
use Rattle.civl_meaning.specs.Config.{frame_sorts}
use Rattle.civl_terms.specs.declared.node.Node.{Node}
use Rattle.civl_terms.specs.Graphs.{sort_at}
use Rattle.civl_actions.specs.Scopes.{AreOf, IsTyped}
use Rattle.civl_conditions.specs.paths.NoteValues.{note_values}
use Rattle.civl_states.specs.formula_parts.Said.{Env, IsTest, IsSaid}
use Rattle.civl_states.specs.formula_parts.Lists.{AreSaid}
use Rattle.civl_conditions.specs.Invariants.{holds_in}
use Rattle.civl_states.specs.Stores.{AreGlobals, AreStore}
use Rattle.civl_states.specs.declared.notes.View.{View}

-- the procedure is one of the program
abbrev pub IsProcIn : Program → Proc → Type 0
IsProcIn program proc = (number : ℕ) × (slice_get program.procs number ≡ Some proc)

-- an expression that is typed, and has this sort
pub record HasType (scope : Sorts) (e : Expr) (sort : Sort) : Type 0 where
  pub typed : IsTyped scope e
  pub sorted : sort_of scope e ≡ Some sort

-- what a note sees: the store, the frame and `done`, as they are and as they were
pub record Seen : Type 0 where
  pub store : Store
  pub locals : List Value
  pub done : Bool
  pub old : Store
  pub old_outs : List Value
  pub old_done : Bool

abbrev pub seen_values : Program → Proc → Seen → Scope
seen_values program proc s = note_values program.globals proc s.store s.locals s.done s.old s.old_outs s.old_done

-- terms of the sorts that belong there
pub record CanSee (ns : List Node) (program : Program) (proc : Proc) (view : View) : Type 0 where
  pub globals : AreGlobals ns program view.globals.now
  pub locals : AreOf ns view.locals.now (frame_sorts proc)
  pub done : sort_at ns view.done ≡ Some Truth
  pub old_globals : AreGlobals ns program view.old_globals.now
  pub old_outs : AreOf ns view.old_outs.now (param_sorts proc.outs)
  pub old_done : sort_at ns view.old_done ≡ Some Truth

-- terms that say this
pub record AreSeen (ns : List Node) (program : Program) (proc : Proc) (view : View) (s : Env → Seen) : Type 0 where
  pub globals : AreStore ns program view.globals.now (λ env. (s env).store)
  pub locals : AreSaid ns view.locals.now (frame_sorts proc) (λ env. (s env).locals)
  pub done : IsTest ns view.done (λ env. (s env).done)
  pub old_globals : AreStore ns program view.old_globals.now (λ env. (s env).old)
  pub old_outs : AreSaid ns view.old_outs.now (param_sorts proc.outs) (λ env. (s env).old_outs)
  pub old_done : IsTest ns view.old_done (λ env. (s env).old_done)

-- ---- a new graph's term, at terms of the old one

-- the term has the note's value, and where the note is a bool it says whether it holds
pub record IsNote (old new : List Node) (program : Program) (proc : Proc) (view : View) (note : Expr) (id : ℕ) : Type 0 where
  pub said : (sort : Sort) (s : Env → Seen) → sort_of (note_scope program proc) note ≡ Some sort → AreSeen old program proc view s → IsSaid new id sort (λ env. value_of (seen_values program proc (s env)) note)
  pub holds : (s : Env → Seen) → sort_of (note_scope program proc) note ≡ Some Truth → AreSeen old program proc view s → IsTest new id (λ env. holds_in (seen_values program proc (s env)) note)

-- the same of an expression of the globals alone
pub record IsGlobalNote (old new : List Node) (program : Program) (globals : List ℕ) (note : Expr) (id : ℕ) : Type 0 where
  pub said : (sort : Sort) (g : Env → Store) → sort_of (global_scope program) note ≡ Some sort → AreStore old program globals g → IsSaid new id sort (λ env. value_of (global_values program.globals (g env)) note)
  pub holds : (g : Env → Store) → sort_of (global_scope program) note ≡ Some Truth → AreStore old program globals g → IsTest new id (λ env. holds_in (global_values program.globals (g env)) note)
