-- The first frame of a procedure that is called by its name, and the arguments of a spawn.
use Rattle.std.specs.Prelude.{map, slice_get, not, is_none, All}
use Rattle.std.specs.Option.{option_map, option_map_or}
use Rattle.std.proofs.Common.{◌≡◌, ◌∙◌, ℕ, false, List, [], length, refl, sym, ap, subst, Option, Some, None}
use Rattle.std.proofs.lemmas.Bool.{false≢true, not-false, or_parts, eqb-true}
use Rattle.std.proofs.lemmas.List.{length-map}
use Rattle.civl_bits.specs.declared.value.Value.{Value}
use Rattle.civl_tree.specs.declared.name.Name.{Name}
use Rattle.civl_tree.specs.declared.expr.Expr.{Expr}
use Rattle.civl_tree.specs.declared.expr.Sort.{Sort}
use Rattle.civl_tree.specs.declared.stmt.Stmt.{out-Stmt}
use Rattle.civl_tree.specs.declared.stmt.Stmt.TheOpen as stmt
use Rattle.civl_tree.specs.declared.program.Proc.{Proc}
use Rattle.civl_tree.specs.declared.program.Program.{Program}
use Rattle.civl_tree.specs.rules.Names.{proc_named, proc_signature_of}
use Rattle.civl_tree.specs.rules.Scopes.{body_scope}
use Rattle.civl_tree.specs.rules.Uses.{argument_uses, param_sorts, taken_sorts}
use Rattle.civl_tree.specs.rules.Arity.{form_arity, stmt_arity, thread_arity}
use Rattle.civl_tree.specs.rules.Unknown.{any_unknown, form_unknown, stmt_unknown}
use Rattle.civl_tree.specs.rules.Uses.{stmt_uses}
use Rattle.civl_tree.specs.rules.Typing.{typing_rules, unknown_rule, arity_rule}
use Rattle.civl_tree.proofs.Kept.{statement_kept, unknown_among, arity_among}
use Rattle.civl_outlines.specs.declared.outline.Outline.{Outline}
use Rattle.civl_firing.specs.declared.store.Store.{Store}
use Rattle.civl_firing.specs.Eval.{values_of}
use Rattle.civl_firing.specs.Scope.{frame_values}
use Rattle.civl_meaning.specs.Change.{new_frame}
use Rattle.civl_meaning.specs.Meaning.{proc_number}
use Rattle.civl_meaning.proofs.Begun.{proc_is}
use Rattle.civl_layers.specs.Layered.{IsLayered}
use Rattle.civl_terms.specs.declared.node.Node.{Node}
use Rattle.civl_terms.specs.Graphs.{Fits}
use Rattle.civl_actions.specs.Actions.{values_at}
use Rattle.civl_actions.specs.Scopes.{AreOf, IsTyped}
use Rattle.civl_conditions.specs.Movers.{on_some}
use Rattle.civl_states.specs.formula_parts.Said.{Env}
use Rattle.civl_states.specs.formula_parts.Lists.{AreSaid}
use Rattle.civl_moves.specs.Calls.{AreBodyTerms}
use Rattle.civl_body.proofs.Typed.{Kept, form_kept, args_typed, args_sorted}
use Rattle.civl_goals.specs.Outlines.{note_holds}
use Rattle.civl_goal_terms.specs.declared.places.At.{At}
use Rattle.civl_goal_terms.specs.inner.Places.{IsAt}
use Rattle.civl_goal_terms.specs.inner.Frames.{named_sorts, begins_astray}

-- ---- a procedure with a name

module _ (program : Program) (name : Name) (proc : Proc) (at : slice_get program.procs (proc_number program name) ≡ Some proc) where
  pub sorts_named : named_sorts program name ≡ param_sorts proc.params
  sorts_named = ap (λ (o : Option Proc). option_map_or (λ p. param_sorts p.params) o []) at

pub astray_there : (program : Program) (name : Name) (number : ℕ) (proc : Proc) → number ≡ proc_number program name → slice_get program.procs number ≡ Some proc → (outline : Outline) (g : Store) (args : List Value)
    → not (note_holds program outline g (new_frame number proc args)) ≡ begins_astray program outline name g args
astray_there program name number proc same at outline g args =
    sym (ap (λ (n : ℕ). on_some (option_map (λ p. new_frame n p args) (slice_get program.procs n)) (λ first. not (note_holds program outline g first))) (sym same)
    ∙ ap (λ (o : Option Proc). on_some (option_map (λ p. new_frame number p args) o) (λ first. not (note_holds program outline g first))) at)

pub astray_none : (program : Program) (name : Name) (number : ℕ) → number ≡ proc_number program name → slice_get program.procs number ≡ None → (outline : Outline) (g : Store) (args : List Value) → false ≡ begins_astray program outline name g args
astray_none program name number same at outline g args =
    sym (ap (λ (o : Option Proc). on_some (option_map (λ p. new_frame (proc_number program name) p args) o) (λ first. not (note_holds program outline g first))) (ap (slice_get program.procs) (sym same) ∙ at))

-- ---- a spawn

the_proc : (o : Option Proc) → is_none o ≡ false → (x : Proc) × (o ≡ Some x)
the_proc None e = absurd (false≢true (sym e))
the_proc (Some x) e = (x, refl)

module _ (program : Program) (layered : IsLayered program) (at : At) (is : IsAt program at) (f : Name) (es : List Expr) (o : out-Stmt at.stmt.now ≡ stmt.Spawn f es) where
  kept : Kept (argument_uses (body_scope program at.proc.now) es (taken_sorts (proc_signature_of (proc_named program f))))
  kept = form_kept program layered.rules at.proc.now (at.root, is.proc) at.number at.stmt.now _ is.stmt o

  pub spawn_typed : All (IsTyped (body_scope program at.proc.now)) es
  spawn_typed = args_typed (body_scope program at.proc.now) es _ kept

  known : form_unknown program at.proc.now (stmt.Spawn f es) ≡ false
  known =
      ap (form_unknown program at.proc.now) (sym o)
      ∙ (or_parts (form_unknown program at.proc.now (out-Stmt at.stmt.now)) (any_unknown (stmt_uses program at.proc.now at.stmt.now)) (statement_kept typing_rules program layered.rules unknown_rule unknown_among (stmt_unknown program at.proc.now) at.root at.proc.now is.proc refl at.number at.stmt.now is.stmt)).0

  found : (x : Proc) × (proc_named program f ≡ Some x)
  found = the_proc (proc_named program f) known

  counted : length es ≡ length (param_sorts found.0.params)
  counted =
      let arity = ap (form_arity program) (sym o) ∙ statement_kept typing_rules program layered.rules arity_rule arity_among (stmt_arity program) at.root at.proc.now is.proc refl at.number at.stmt.now is.stmt in
      let own : thread_arity es (Some found.0) ≡ false = subst (λ (x : Option Proc). thread_arity es x ≡ false) found.1 arity in
      eqb-true (length es) (length found.0.params) (not-false _ (or_parts _ _ own).0) ∙ sym (length-map found.0.params (λ p. p.sort))

  there : slice_get program.procs (proc_number program f) ≡ Some found.0
  there = proc_is program f ∙ found.1

  pub spawn_args : (old new : List Node) (locals ids : List ℕ) → AreBodyTerms old new program at.proc.now locals es ids → AreOf new ids (named_sorts program f)
  spawn_args old new locals ids t =
      t.sorts
      ∙ args_sorted (body_scope program at.proc.now) es (param_sorts found.0.params) (subst (λ (x : Option Proc). Kept (argument_uses (body_scope program at.proc.now) es (taken_sorts (proc_signature_of x)))) found.1 kept) counted
      ∙ ap (map (λ (s : Sort). Some s)) (sym (sorts_named program f found.0 there))

  -- the terms of its arguments say their values
  pub args_said : (old new : List Node) (locals ids : List ℕ) (l : Env → List Value) → AreBodyTerms old new program at.proc.now locals es ids → ((env : Env) → Fits env new → values_at env old locals ≡ l env)
      → AreSaid new ids (named_sorts program f) (λ env. values_of (frame_values program.globals at.proc.now (l env)) es)
  args_said old new locals ids l t is = record {
    sorted = spawn_args old new locals ids t;
    are = λ env fits. t.are env fits ∙ ap (λ (vs : List Value). values_of (frame_values program.globals at.proc.now vs) es) (is env fits);
  }
