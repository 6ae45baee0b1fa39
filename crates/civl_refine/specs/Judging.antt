-- What a part of the condition on paths comes to at the end of a path.
use Rattle.std.specs.Prelude.{◌≡◌, ℕ, Bool, true, false, not, ◌&&◌, ◌||◌, nat_eq, List, slice_get, Option, None, Some, ⊤}
use Rattle.civl_bits.specs.declared.value.Value.{Value}
use Rattle.civl_firing.specs.values.Values.{is_true}
use Rattle.civl_firing.specs.values.Operators.{two_value}
use Rattle.civl_tree.specs.declared.expr.Expr.{Expr}
use Rattle.civl_tree.specs.declared.expr.Two.TheVariants.{Lt}
use Rattle.civl_tree.specs.declared.expr.Sort.{Sort}
use Rattle.civl_tree.specs.declared.expr.Sort.TheVariants.{Bool as Truth}
use Rattle.civl_tree.specs.declared.program.Proc.{Proc}
use Rattle.civl_tree.specs.declared.program.Program.{Program}
use Rattle.civl_tree.specs.rules.Sorts.{sort_of}
use Rattle.civl_tree.specs.rules.Scopes.{note_scope}
use Rattle.civl_firing.specs.declared.store.Store.{Store}
use Rattle.civl_firing.specs.Eval.{value_of, values_of}
use Rattle.civl_firing.specs.Fired.{fires, guard_holds, store_after, outs_after}
use Rattle.civl_tree.specs.declared.action.Action.{Action}
use Rattle.civl_tree.specs.rules.Uses.{param_sorts}
use Rattle.civl_refine.specs.declared.performing.Performed.{Performed}
use Rattle.civl_meaning.specs.Config.{frame_sorts}
use Rattle.civl_meaning.specs.Change.{outs_in}
use Rattle.civl_terms.specs.declared.node.Node.{Node}
use Rattle.civl_layers.specs.declared.cut.Cut.{Cut}
use Rattle.civl_layers.specs.Cuts.{proc_cuts}
use Rattle.civl_conditions.specs.footprints.Agreement.{exists_at}
use Rattle.civl_conditions.specs.paths.NoteValues.{plain_note_values, steady_note_values}
use Rattle.civl_conditions.specs.paths.Paths.{Progress, Outcome, progress_of, has_failed}
use Rattle.civl_conditions.specs.paths.Ends.{is_exit, ends_block}
use Rattle.civl_conditions.specs.declared.condition.Part.{Part}
use Rattle.civl_conditions.specs.declared.condition.Part.TheVariants.{Gate, Invariant, Once, Stutter, Perform, Rank}
use Rattle.civl_conditions.specs.Values.{Begun, same_bool, same_values, same_stores}
use Rattle.civl_conditions.specs.Movers.{on_some}
use Rattle.civl_conditions.specs.Invariants.{holds_in}
use Rattle.civl_conditions.specs.Assumed.{cut_invariant, cut_rank, note_holds, refined_action, with_of, inputs_of}
use Rattle.civl_conditions.specs.Parts.{end_values}
use Rattle.civl_states.specs.formula_parts.Said.{Env, IsTest, IsSaid}
use Rattle.civl_states.specs.formula_parts.Lists.{AreSaid}
use Rattle.civl_terms.specs.Graphs.{sort_at}
use Rattle.civl_states.specs.Stores.{AreStore}
use Rattle.civl_states.specs.declared.beginning.Beginning.{Beginning}
use Rattle.civl_states.specs.Beginnings.{AreBegun}
use Rattle.civl_body.specs.declared.way.Way.{Way}
use Rattle.civl_refine.specs.declared.start.Start.{Start}

-- ---- notes where old means the present, and notes that say nothing of `done` and of old values

pub record IsSteady (old new : List Node) (program : Program) (proc : Proc) (globals locals : List ℕ) (done : ℕ) (note : Expr) (id : ℕ) : Type 0 where
  pub said : (sort : Sort) (g : Env → Store) (v : Env → List Value) (d : Env → Bool) → sort_of (note_scope program proc) note ≡ Some sort → AreStore old program globals g → AreSaid old locals (frame_sorts proc) v → IsTest old done d
      → IsSaid new id sort (λ env. value_of (steady_note_values program.globals proc (g env) (v env) (d env)) note)
  pub holds : (g : Env → Store) (v : Env → List Value) (d : Env → Bool) → sort_of (note_scope program proc) note ≡ Some Truth → AreStore old program globals g → AreSaid old locals (frame_sorts proc) v → IsTest old done d
      → IsTest new id (λ env. holds_in (steady_note_values program.globals proc (g env) (v env) (d env)) note)

abbrev pub IsPlainNote : List Node → List Node → Program → Proc → List ℕ → List ℕ → Expr → ℕ → Type 0
IsPlainNote old new program proc globals locals note id =
    (sort : Sort) (g : Env → Store) (v : Env → List Value) → sort_of (note_scope program proc) note ≡ Some sort → AreStore old program globals g → AreSaid old locals (frame_sorts proc) v
    → IsSaid new id sort (λ env. value_of (plain_note_values program.globals proc (g env) (v env)) note)

-- ---- ends

-- the terms of a way say this state
pub record IsAt (ns : List Node) (program : Program) (proc : Proc) (way : Way) (p : Env → Progress) : Type 0 where
  pub globals : AreStore ns program way.globals (λ env. (p env).store)
  pub locals : AreSaid ns way.locals (frame_sorts proc) (λ env. (p env).locals)
  pub done : IsTest ns way.done (λ env. (p env).done)

-- the terms say what the refined action does from the old globals, with these choices
pub record Performs (ns : List Node) (program : Program) (proc : Proc) (a : Action) (b : Env → Begun) (c : Env → List Value) (d : Performed) : Type 0 where
  pub guard : IsTest ns d.guard (λ env. guard_holds program.globals (b env).old a (inputs_of proc (b env).locals) (c env))
  pub globals : AreStore ns program d.changed.globals (λ env. store_after program.globals (b env).old a (inputs_of proc (b env).locals) (c env))
  pub outs : AreSaid ns d.changed.outs (param_sorts proc.outs) (λ env. outs_after program.globals (b env).old a (inputs_of proc (b env).locals) (c env))

-- the values behind `with`, in this state
abbrev pub with_values : Program → Proc → Progress → List Value
with_values program proc p = values_of (plain_note_values program.globals proc p.store p.locals) (with_of proc.refines)

-- the action can fire with these choices, and comes to the globals of the upper program and the outputs of this state
abbrev pub comes_to : Program → ℕ → Proc → Action → Begun → List Value → Progress → Bool
comes_to program step proc a b c p =
    guard_holds program.globals b.old a (inputs_of proc b.locals) c
    && (same_stores (exists_at step) program p.store (store_after program.globals b.old a (inputs_of proc b.locals) c)
    && same_values (outs_in proc p.locals) (outs_after program.globals b.old a (inputs_of proc b.locals) c))

-- the part isn't kept where the path ends here in this state
abbrev pub fails_at : Program → ℕ → Proc → ℕ → Cut → Begun → Part → ℕ → Progress → Bool
fails_at program step proc c cut b Gate end p = false
fails_at program step proc c cut b Invariant end p = on_some (slice_get (proc_cuts proc) end) (λ k. not (note_holds (end_values program proc b end p) (cut_invariant proc k)))
fails_at program step proc c cut b Once end p = is_exit proc end && not p.done
fails_at program step proc c cut b Stutter end p =
    ends_block proc end
    && (same_bool p.done b.old_done
    && (not (same_stores (exists_at step) program p.store b.old) || (b.old_done && not (same_values (outs_in proc p.locals) b.old_outs))))
fails_at program step proc c cut b Perform end p =
    ends_block proc end
    && (p.done
    && (not b.old_done
    && on_some (refined_action program proc) (λ a.
    not (on_some (fires program.globals b.old a (inputs_of proc b.locals) (values_of (plain_note_values program.globals proc p.store p.locals) (with_of proc.refines))) (λ d.
    same_stores (exists_at step) program p.store d.0 && same_values (outs_in proc p.locals) d.1)))))
fails_at program step proc c cut b Rank end p =
    nat_eq end c
    && on_some (cut_rank proc cut) (λ r.
    not (is_true (two_value Lt (value_of (plain_note_values program.globals proc p.store p.locals) r) (value_of (plain_note_values program.globals proc b.store b.locals) r))))

-- it isn't kept wherever the path ends
abbrev pub fails_before : Outcome → Part → Bool
fails_before o Gate = has_failed o
fails_before o Once = (progress_of o).again
fails_before o _ = false

-- the cuts of a procedure
abbrev pub AreCuts : Proc → List Cut → Type 0
AreCuts proc cuts = cuts ≡ proc_cuts proc

-- a test that is this one, or none where it is true in any case
abbrev pub Asks : List Node → Option ℕ → (Env → Bool) → Type 0
Asks ns None f = (env : Env) → f env ≡ true
Asks ns (Some id) f = IsTest ns id f

abbrev pub IsAsked : List Node → Option ℕ → Type 0
IsAsked ns None = ⊤
IsAsked ns (Some id) = sort_at ns id ≡ Some Truth

-- whatever the beginning and the end of the path are, it says that the part is kept there
abbrev pub KeepsAt : List Node → List Node → Start → Beginning → Way → Part → Option ℕ → Type 0
KeepsAt old new start beginning way part asked =
    (b : Env → Begun) (p : Env → Progress) → AreBegun old start.program.now start.step start.proc.now start.cut beginning b → IsAt old start.program.now start.proc.now way p
    → Asks new asked (λ env. not (fails_at start.program.now start.step start.proc.now start.number start.cut (b env) part way.end (p env)))
