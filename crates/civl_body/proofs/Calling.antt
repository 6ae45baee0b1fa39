-- Calls at terms: what is called, and what its terms make of a sweep.
use Rattle.std.specs.Prelude.{map, All}
use Rattle.std.proofs.Common.{◌≡◌, ◌∙◌, ℕ, ◌<◌, ◌^◌, List, length, refl, sym, ap, ap₂, subst, Some, None, arith}
use Rattle.std.proofs.lemmas.Option.{same_Some}
use Rattle.civl_bits.specs.declared.value.Value.{Value}
use Rattle.civl_tree.specs.declared.name.Name.{Name}
use Rattle.civl_tree.specs.declared.expr.Expr.{Expr}
use Rattle.civl_tree.specs.declared.expr.Sort.{Sort}
use Rattle.civl_tree.specs.declared.action.Action.{Action}
use Rattle.civl_tree.specs.declared.program.Proc.{Proc}
use Rattle.civl_tree.specs.declared.program.Program.{Program}
use Rattle.civl_tree.specs.rules.Scopes.{body_scope}
use Rattle.civl_tree.specs.rules.Uses.{param_sorts}
use Rattle.civl_firing.specs.Eval.{values_of}
use Rattle.civl_firing.specs.Scope.{frame_values}
use Rattle.civl_meaning.specs.Layers.{program_at}
use Rattle.civl_meaning.specs.Meaning.{Meaning, Does, Runs, Missing, called}
use Rattle.civl_layers.specs.Layered.{IsLayered}
use Rattle.civl_terms.specs.declared.node.Node.{Node}
use Rattle.civl_terms.specs.Graphs.{Fits}
use Rattle.civl_terms.specs.Building.{Grows}
use Rattle.civl_actions.specs.Scopes.{AreOf, IsTyped}
use Rattle.civl_actions.specs.Actions.{values_at}
use Rattle.civl_actions.proofs.Staying.{values_stay}
use Rattle.civl_conditions.specs.paths.Choices.{action_meant}
use Rattle.civl_conditions.specs.paths.Paths.{Course}
use Rattle.civl_states.specs.Notes.{IsProcIn}
use Rattle.civl_moves.specs.sweeps.Sweeps.{Swept, halted, with_action, with_meaning, with_call}
use Rattle.civl_states.specs.formula_parts.Said.{Env}
use Rattle.civl_moves.specs.declared.sweep.Sweep.{Sweep}
use Rattle.civl_moves.specs.Calls.{AreBodyTerms, ResultsSuit}
use Rattle.civl_moves.specs.States.{swept_at, CanSweep, Moves, body_of}
use Rattle.civl_moves.proofs.States.{swept_same}
use Rattle.civl_states.specs.declared.choices.Chosen.{Chosen}
use Rattle.civl_states.specs.Beginnings.{chosen_at}
use Rattle.civl_meaning.specs.Config.{choice_sorts}
use Rattle.civl_body.specs.Passing.{StandsCall, course_in}
use Rattle.civl_body.proofs.Typed.{CallKept, call_kept, args_typed, args_sorted, results_suit}
use Rattle.civl_body.proofs.Called.{Serves, called_serves}

pub few_actions : (program : Program) → IsLayered program → length program.actions < 2 ^ 32
few_actions program layered = omega (arith, layered.numbered.items)

pub does_is : (m : Meaning) (a : Action) → action_meant m ≡ Some a → m ≡ Does a
does_is (Does b) a e = ap Does (same_Some b a e)
does_is (Runs n p) a e = absurd (cc)
does_is Missing a e = absurd (cc)

halts : (c : Course) (rs : List Name) (m : Meaning) (inputs chosen : List Value) (d : Swept) → action_meant m ≡ None → halted d ≡ with_meaning c rs m inputs chosen d
halts c rs (Does b) inputs chosen d e = absurd (cc)
halts c rs (Runs n p) inputs chosen d e = refl
halts c rs Missing inputs chosen d e = refl

pub halt_calls : (old new : List Node) (program : Program) (layer : ℕ) (proc : Proc) (s t : Sweep) (v : Env → ℕ → List Value) (f : Name) (es : List Expr) (rs : List Name) (at : ℕ) → action_meant (called (program_at program layer) f) ≡ None
    → Moves old new program proc s t (λ env. halted) → Moves old new program proc s t (λ env. with_call (course_in program layer proc (v env)) f es rs at)
halt_calls old new program layer proc s t v f es rs at e m = record {
  can = m.can;
  is = λ env fits. m.is env fits ∙ halts (course_in program layer proc (v env)) rs (called (program_at program layer) f) _ _ (swept_at env old s) e;
}

module _ (program : Program) (layered : IsLayered program) (layer : ℕ) (proc : Proc) (there : IsProcIn program proc) (at : ℕ) (f : Name) (es : List Expr) (rs : List Name) (stands : StandsCall proc at f es rs) where
  kept : CallKept program proc f es rs
  kept = call_kept program layered.rules proc there at stands.0 f es rs stands.1 stands.2

  pub typed_args : All (IsTyped (body_scope program proc)) es
  typed_args = args_typed (body_scope program proc) es _ kept.args

  module _ (a : Action) (meant : action_meant (called (program_at program layer) f) ≡ Some a) where
    served : Serves program (param_sorts kept.signature.params) (param_sorts kept.signature.outs) (Does a)
    served = subst (Serves program (param_sorts kept.signature.params) (param_sorts kept.signature.outs)) (does_is (called (program_at program layer) f) a meant) (called_serves program layered layer f kept.signature kept.is)

    pub inputs_are : (old new : List Node) (locals ids : List ℕ) → AreBodyTerms old new program proc locals es ids → AreOf new ids (map (λ p. p.sort) a.params)
    inputs_are old new locals ids t = t.sorts ∙ args_sorted (body_scope program proc) es _ kept.args kept.long ∙ ap (map (λ (s : Sort). Some s)) (sym served.2)

    pub results_are : ResultsSuit proc rs (map (λ p. p.sort) a.outs)
    results_are = subst (ResultsSuit proc rs) (sym served.3) (results_suit proc rs _ kept.results)

    pub action_calls : (o0 o1 o2 : List Node) (s t : Sweep) (v : Env → ℕ → List Value) (chosen : List Chosen) (inputs choices : List ℕ) → Grows o0 o1 → Grows o1 o2 → CanSweep o0 program proc s → AreBodyTerms o0 o1 program proc s.locals es inputs
        → choices ≡ chosen_at chosen at → AreOf o0 (chosen_at chosen at) (choice_sorts a) → ((env : Env) → Fits env o0 → values_at env o0 (chosen_at chosen at) ≡ v env at)
        → Moves o1 o2 program proc s t (λ env. with_action (body_of program proc) rs a (values_at env o1 inputs) (values_at env o1 choices)) → Moves o0 o2 program proc s t (λ env. with_call (course_in program layer proc (v env)) f es rs at)
    action_calls o0 o1 o2 s t v chosen inputs choices g h can terms is have says m = record {
      can = m.can;
      is = λ env fits2.
          let fits1 = h.fits env fits2 in
          let fits0 = g.fits env fits1 in
          let d = swept_at env o0 s in
          let c = course_in program layer proc (v env) in
          let given = ap (values_at env o1) is ∙ values_stay env o0 o1 (chosen_at chosen at) _ have g ∙ says env fits0 in
          m.is env fits2
          ∙ ap (with_action (body_of program proc) rs a (values_at env o1 inputs) (values_at env o1 choices)) (swept_same o0 o1 program proc g s can env)
          ∙ ap₂ (λ (us ws : List Value). with_action (body_of program proc) rs a us ws d) (terms.are env fits1) given
          ∙ ap (λ (x : Meaning). with_meaning c rs x (values_of (frame_values program.globals proc d.locals) es) (v env at) d) (sym (does_is (called (program_at program layer) f) a meant));
    }

pub terms_of : (old new : List Node) (program : Program) (proc : Proc) (locals us : List ℕ) (es fs : List Expr) (ids : List ℕ) → us ≡ locals → fs ≡ es → AreBodyTerms old new program proc us fs ids → AreBodyTerms old new program proc locals es ids
terms_of old new program proc locals us es fs ids p q t =
    subst (λ (ls : List ℕ). AreBodyTerms old new program proc ls es ids) p (subst (λ (xs : List Expr). AreBodyTerms old new program proc us xs ids) q t)
