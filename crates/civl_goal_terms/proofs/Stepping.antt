-- A statement of a root at terms: where its sweep begins, what it makes of it, and what the terms say then.
use Rattle.std.specs.Prelude.{map, All}
use Rattle.std.proofs.Common.{◌≡◌, ◌∙◌, ℕ, true, false, not, List, [], refl, sym, ap, ap₂, subst, Some}
use Rattle.std.proofs.lemmas.List.Elements.{All-nil}
use Rattle.std.proofs.Math.Bool.{not-not}
use Rattle.civl_bits.specs.declared.value.Value.{Value}
use Rattle.civl_tree.specs.declared.name.Name.{Name}
use Rattle.civl_tree.specs.declared.expr.Expr.{Expr}
use Rattle.civl_tree.specs.declared.action.Action.{Action}
use Rattle.civl_tree.specs.declared.stmt.Stmt.{Stmt, out-Stmt}
use Rattle.civl_tree.specs.declared.stmt.Stmt.TheOpen.{Stmt-F}
use Rattle.civl_tree.specs.declared.program.Proc.{Proc}
use Rattle.civl_tree.specs.declared.program.Program.{Program}
use Rattle.civl_firing.specs.Eval.{values_of}
use Rattle.civl_firing.specs.Scope.{frame_values}
use Rattle.civl_meaning.specs.Config.{frame_sorts, choice_sorts}
use Rattle.civl_meaning.specs.Layers.{topmost}
use Rattle.civl_meaning.specs.Meaning.{Meaning, called}
use Rattle.civl_terms.specs.declared.node.Node.{Node}
use Rattle.civl_terms.specs.Graphs.{Fits}
use Rattle.civl_terms.specs.Building.{Grows}
use Rattle.civl_actions.specs.Scopes.{AreOf}
use Rattle.civl_actions.specs.Actions.{values_at}
use Rattle.civl_actions.proofs.Staying.{are_stay, values_stay}
use Rattle.civl_conditions.specs.paths.Choices.{action_meant}
use Rattle.civl_conditions.specs.Variables.{choices_of}
use Rattle.civl_moves.specs.sweeps.Sweeps.{Swept, with_action, with_meaning, with_call}
use Rattle.civl_states.specs.formula_parts.Said.{Env, IsTest}
use Rattle.civl_states.specs.formula_parts.Lists.{AreSaid}
use Rattle.civl_states.proofs.formula_parts.Saying.{test_where}
use Rattle.civl_states.proofs.formula_parts.Listing.{said_stay}
use Rattle.civl_moves.specs.declared.sweep.Stop.{Stop}
use Rattle.civl_moves.specs.declared.sweep.Sweep.{Sweep}
use Rattle.civl_moves.specs.Calls.{AreBodyTerms}
use Rattle.civl_moves.specs.States.{swept_at, stop_at, CanStop, CanSweep, Moves, body_of}
use Rattle.civl_moves.proofs.States.{same_swept, swept_same, test_bool, test_value}
use Rattle.civl_body.specs.Passing.{course_in}
use Rattle.civl_body.proofs.Calling.{does_is}
use Rattle.civl_goal_terms.specs.declared.places.At.{At}
use Rattle.civl_goal_terms.specs.declared.settings.Setting.{Setting}
use Rattle.civl_goal_terms.specs.inner.Settings.{Here, CanStand, SaysHere}
use Rattle.civl_goal_terms.specs.inner.Steps.{begun, moved, moved_at, SaysSwept}

-- ---- before the statement

module _ (old new : List Node) (program : Program) (at : At) (setting : Setting) (grows : Grows old new) (sure never : ℕ) (yea : IsTest new sure (λ env. true)) (nay : IsTest new never (λ env. false))
    (globals locals : List ℕ) (stops : List Stop) (same_globals : globals ≡ setting.globals) (same_locals : locals ≡ setting.locals) (none : stops ≡ []) where
  abbrev first : Sweep
  first = record { onward = true; live = sure; globals = globals; locals = locals; done = never; safe = sure; once = sure; stops = stops }

  pub begin_can : CanStand old program at setting → CanSweep new program at.proc.now first
  begin_can c = record {
    live = test_bool new sure _ yea;
    globals = subst (λ (ids : List ℕ). AreOf new ids (map (λ q. q.sort) program.globals)) (sym same_globals) (are_stay old new setting.globals _ c.globals grows);
    locals = subst (λ (ids : List ℕ). AreOf new ids (frame_sorts at.proc.now)) (sym same_locals) (are_stay old new setting.locals _ c.locals grows);
    done = test_bool new never _ nay;
    safe = test_bool new sure _ yea;
    once = test_bool new sure _ yea;
    stops = subst (All (CanStop new program at.proc.now)) (sym none) (All-nil (CanStop new program at.proc.now));
  }

  pub begin_says : (h : Env → Here) → SaysHere old program at setting h → (env : Env) → Fits env new → swept_at env new first ≡ begun (h env)
  begin_says h s env fits =
      let yes = test_value new sure _ yea env fits in
      let before = grows.fits env fits in
      same_swept true _ _ _ _ _ _ _ _ _ _ _ _ _ _ yes (ap (values_at env new) same_globals ∙ values_stay env old new setting.globals _ s.globals.sorted grows ∙ s.globals.are env before)
      (ap (values_at env new) same_locals ∙ values_stay env old new setting.locals _ s.locals.sorted grows ∙ s.locals.are env before) (test_value new never _ nay env fits) (ap not yes) (ap not yes) (ap (map (stop_at env new)) none)

-- ---- a call

module _ (program : Program) (f : Name) (a : Action) (meant : action_meant (called (topmost program) f) ≡ Some a) where
  pub choices_given : map (λ c. c.sort) (choices_of (called (topmost program) f)) ≡ choice_sorts a
  choices_given = ap (λ (m : Meaning). map (λ c. c.sort) (choices_of m)) (does_is (called (topmost program) f) a meant)

  pub call_moves : (proc : Proc) (es : List Expr) (rs : List Name) (at : ℕ) (o0 o1 o2 : List Node) (s t : Sweep) (v : Env → List Value) (inputs choices : List ℕ) → Grows o0 o1 → Grows o1 o2 → CanSweep o0 program proc s → AreBodyTerms o0 o1 program proc s.locals es inputs
      → AreSaid o0 choices (map (λ c. c.sort) (choices_of (called (topmost program) f))) v
      → Moves o1 o2 program proc s t (λ env. with_action (body_of program proc) rs a (values_at env o1 inputs) (values_at env o1 choices)) → Moves o0 o2 program proc s t (λ env. with_call (course_in program program.layers proc (λ number. v env)) f es rs at)
  call_moves proc es rs at o0 o1 o2 s t v inputs choices g h can terms said m = record {
    can = m.can;
    is = λ env fits2.
        let fits1 = h.fits env fits2 in
        let fits0 = g.fits env fits1 in
        let d = swept_at env o0 s in
        let c = course_in program program.layers proc (λ number. v env) in
        let given = values_stay env o0 o1 choices _ said.sorted g ∙ said.are env fits0 in
        m.is env fits2
        ∙ ap (with_action (body_of program proc) rs a (values_at env o1 inputs) (values_at env o1 choices)) (swept_same o0 o1 program proc g s can env)
        ∙ ap₂ (λ (us ws : List Value). with_action (body_of program proc) rs a us ws d) (terms.are env fits1) given
        ∙ ap (λ (x : Meaning). with_meaning c rs x (values_of (frame_values program.globals proc d.locals) es) (v env) d) (sym (does_is (called (topmost program) f) a meant));
  }

-- ---- a statement

module _ (program : Program) (at : At) (old new : List Node) (s t : Sweep) (v : Env → List Value) where
  pub form_moves : (d : Stmt-F Stmt) → out-Stmt at.stmt.now ≡ d → Moves old new program at.proc.now s t (λ env. moved (course_in program program.layers at.proc.now (λ number. v env)) at.number d) → Moves old new program at.proc.now s t (λ env. moved_at program at (v env))
  form_moves d e m = subst (λ (x : Stmt-F Stmt). Moves old new program at.proc.now s t (λ env. moved (course_in program program.layers at.proc.now (λ number. v env)) at.number x)) (sym e) m

-- one that leaves the state as it is
pub still : (ns : List Node) (program : Program) (proc : Proc) (s : Sweep) → CanSweep ns program proc s → Moves ns ns program proc s s (λ env d. d)
still ns program proc s can = record { can = can; is = λ env fits. refl }

-- ---- behind it

pub says_swept : (ns : List Node) (program : Program) (proc : Proc) (sweep : Sweep) (d : Env → Swept) → CanSweep ns program proc sweep → ((env : Env) → Fits env ns → swept_at env ns sweep ≡ d env) → SaysSwept ns program proc sweep d
says_swept ns program proc sweep d can is = record {
  live = test_where ns sweep.live _ _ (λ env fits. ap (λ (x : Swept). x.live) (is env fits)) can.live;
  safe = test_where ns sweep.safe _ _ (λ env fits. sym (not-not _) ∙ ap (λ (x : Swept). not x.broken) (is env fits)) can.safe;
  globals = record { sorted = can.globals; are = λ env fits. ap (λ (x : Swept). x.store.values) (is env fits) };
  locals = record { sorted = can.locals; are = λ env fits. ap (λ (x : Swept). x.locals) (is env fits) };
}

-- ---- while the graph grows

module _ (old new : List Node) (program : Program) (at : At) (setting : Setting) (grows : Grows old new) where
  pub can_stay : CanStand old program at setting → CanStand new program at setting
  can_stay c = record {
    globals = are_stay old new setting.globals _ c.globals grows;
    locals = are_stay old new setting.locals _ c.locals grows;
    choices = are_stay old new setting.choices _ c.choices grows;
  }

  pub says_stay : (h : Env → Here) → SaysHere old program at setting h → SaysHere new program at setting h
  says_stay h s = record {
    globals = said_stay old new setting.globals _ _ grows s.globals;
    locals = said_stay old new setting.locals _ _ grows s.locals;
    choices = said_stay old new setting.choices _ _ grows s.choices;
  }
