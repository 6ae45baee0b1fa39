-- The choices of a path's beginning: zeros, at first, and those of each step that is made; they have their sorts.
use Rattle.std.proofs.Common.{◌≡◌, ℕ, ◌-◌, Bool, true, false, List, [], ◌++◌, map, Option, None, Some, refl, sym, ap, ◌∙◌, subst}
use Rattle.std.specs.Prelude.{slice_get, is_none, nat_eq, All, if◌then◌else◌}
use Rattle.std.specs.List.{Contains, list_any}
use Rattle.std.specs.Option.{option_map_or}
use Rattle.std.proofs.lemmas.Bool.{or_parts, not-false, eqb-true, true≢false}
use Rattle.std.proofs.lemmas.Option.{none-some, same_Some}
use Rattle.civl_bits.specs.Value.{IsValue}
use Rattle.civl_bits.specs.declared.value.Value.{Value}
use Rattle.civl_tree.specs.declared.name.Name.{Name}
use Rattle.civl_tree.specs.declared.expr.Sort.{Sort}
use Rattle.civl_tree.specs.declared.action.Action.{Action}
use Rattle.civl_tree.specs.declared.action.Choice.{Choice}
use Rattle.civl_tree.specs.declared.action.Param.{Param}
use Rattle.civl_tree.specs.declared.program.Proc.{Proc}
use Rattle.civl_tree.specs.declared.program.Program.{Program}
use Rattle.civl_tree.specs.declared.stmt.Stmt.{Stmt, out-Stmt}
use Rattle.civl_tree.specs.declared.stmt.Stmt.TheOpen as stmt
use Rattle.civl_tree.specs.Numbering.{statement_at}
use Rattle.civl_tree.specs.rules.Names.{Signature, callee_signature}
use Rattle.civl_tree.specs.rules.Uses.{param_sorts, form_uses, action_uses}
use Rattle.civl_tree.specs.rules.Unknown.{form_unknown, any_unknown, stmt_unknown}
use Rattle.civl_tree.specs.rules.Width.{sort_width_fits, param_width, choice_width, any_width}
use Rattle.civl_tree.specs.rules.Index.{sort_index, any_index}
use Rattle.civl_tree.specs.rules.Typing.{typing_rules, unknown_rule, width_rule, index_rule}
use Rattle.civl_tree.proofs.Kept.{statement_kept, action_kept, unknown_among, width_among, index_among}
use Rattle.civl_tree.proofs.Pairs.{from_map}
use Rattle.civl_firing.specs.values.Values.{zero_of, HaveSorts}
use Rattle.civl_firing.specs.declared.store.Store.{Store}
use Rattle.civl_firing.specs.declared.firing.Fired.{Fired}
use Rattle.civl_firing.specs.declared.firing.Fired.TheVariants as fire
use Rattle.civl_firing.specs.Eval.{value_of, values_of}
use Rattle.civl_firing.specs.Scope.{frame_values}
use Rattle.civl_firing.specs.Fired.{gate_holds, choices_fit, fired}
use Rattle.civl_firing.specs.values.Values.{is_true}
use Rattle.civl_firing.proofs.SortLimits.{limits}
use Rattle.civl_meaning.specs.declared.config.Plain.{Plain}
use Rattle.civl_meaning.specs.declared.config.Stepped.TheVariants as answer
use Rattle.civl_meaning.specs.declared.config.Change.{Change}
use Rattle.civl_meaning.specs.declared.config.Change.TheVariants.{Stays, Goes, Acts}
use Rattle.civl_meaning.specs.Meaning.{Meaning, Does, Runs, Missing, called}
use Rattle.civl_meaning.specs.Change.{acted, done_by, call_doing, statement_doing}
use Rattle.civl_meaning.specs.Change as calls_of
use Rattle.civl_meaning.specs.Layers.{program_at}
use Rattle.civl_layers.specs.declared.cut.Cut.{Cut}
use Rattle.civl_layers.specs.Layered.{IsLayered}
use Rattle.civl_layers.proofs.PlainPrograms.{layered_is_plain}
use Rattle.civl_conditions.specs.paths.Flows.{flow_from}
use Rattle.civl_conditions.proofs.paths.Passed.{passed_stand_in_body}
use Rattle.civl_soundness.proofs.Sorted.{zeros_fit, none_at}
use Rattle.civl_soundness.proofs.Called.{Serves, called_serves}
use Rattle.civl_conditions.specs.Variables.{choices_of, layer_choices, passed_choices}
use Rattle.civl_reduction.specs.open_blocks.Following.{with_choices}
use Rattle.civl_reduction.specs.open_blocks.Open.{ChoicesAreThere}

-- values for these choices
abbrev pub FitChoices : List Value → List Choice → Type 0
FitChoices values choices = HaveSorts values (map (λ c. c.sort) choices)

-- ---- what a step chooses

module _ (plain : Plain) (store : Store) (proc : Proc) (locals : List Value) (n p : ℕ) where
  abbrev does : List Value → stmt.Stmt-F Stmt → Change
  does v d = done_by plain store v (statement_doing plain proc locals n p d)

  abbrev calls : List Value → List Name → List Name → Meaning → List Value → Change
  calls v names rs m args = done_by plain store v (call_doing names locals rs n p m args)

  -- a call never only goes on
  no_fired : (names rs : List Name) (f : Fired) (ls : List Value) (w : ℕ) → acted names locals rs p f ≡ Goes ls w → ⊥
  no_fired names rs fire.GateFalse ls w e = cc
  no_fired names rs fire.Blocked ls w e = cc
  no_fired names rs (fire.Moved g outs) ls w e = cc

  no_tests : (gate fit : Bool) (names rs : List Name) (f : Fired) (ls : List Value) (w : ℕ) → (if gate then (if fit then acted names locals rs p f else Stays answer.BadChoices) else Stays answer.Failing) ≡ Goes ls w → ⊥
  no_tests true true names rs f ls w e = no_fired names rs f ls w e
  no_tests true false names rs f ls w e = cc
  no_tests false fit names rs f ls w e = cc

  no_call : (v : List Value) (names rs : List Name) (m : Meaning) (args : List Value) (ls : List Value) (w : ℕ) → calls v names rs m args ≡ Goes ls w → ⊥
  no_call v names rs (Does action) args ls w e = no_tests (gate_holds plain.program.globals store action args) (choices_fit action v) names rs (fired plain.program.globals store action args v) ls w e
  no_call v names rs (Runs number callee) args ls w e = cc
  no_call v names rs Missing args ls w e = cc

  -- nor does an assert read choices
  assert_whatever : (v u : List Value) (b : Bool) → done_by plain store v (if b then calls_of.Goes locals p else calls_of.Fails) ≡ done_by plain store u (if b then calls_of.Goes locals p else calls_of.Fails)
  assert_whatever v u true = refl
  assert_whatever v u false = refl

  -- a step that only goes on reads no choices
  pub goes_whatever : (v u : List Value) (d : stmt.Stmt-F Stmt) (ls : List Value) (w : ℕ) → does v d ≡ Goes ls w → does u d ≡ Goes ls w
  goes_whatever v u (stmt.Call f es rs) ls w e = absurd (no_call v _ rs (called plain f) (values_of (frame_values plain.program.globals proc locals) es) ls w e)
  goes_whatever v u (stmt.Assert f) ls w e = sym (assert_whatever v u (is_true (value_of (frame_values plain.program.globals proc locals) f))) ∙ e
  goes_whatever v u _ ls w e = e

  -- where an action acts, its choices fit
  fit_tests : (gate fit : Bool) (names rs : List Name) (f : Fired) (g : Store) (ls : List Value) (w : ℕ) → (if gate then (if fit then acted names locals rs p f else Stays answer.BadChoices) else Stays answer.Failing) ≡ Acts g ls w → fit ≡ true
  fit_tests true true names rs f g ls w e = refl
  fit_tests true false names rs f g ls w e = absurd (cc)
  fit_tests false fit names rs f g ls w e = absurd (cc)

  fit_call : (v : List Value) → All IsValue v → (names rs : List Name) (m : Meaning) (args : List Value) (g : Store) (ls : List Value) (w : ℕ) → calls v names rs m args ≡ Acts g ls w → FitChoices v (choices_of m)
  fit_call v a names rs (Does action) args g ls w e =
      record { fit = a; are = fit_tests (gate_holds plain.program.globals store action args) (choices_fit action v) names rs (fired plain.program.globals store action args v) g ls w e }
  fit_call v a names rs (Runs number callee) args g ls w e = absurd (cc)
  fit_call v a names rs Missing args g ls w e = absurd (cc)

  no_assert : (v : List Value) (b : Bool) (g : Store) (ls : List Value) (w : ℕ) → done_by plain store v (if b then calls_of.Goes locals p else calls_of.Fails) ≡ Acts g ls w → ⊥
  no_assert v true g ls w e = cc
  no_assert v false g ls w e = cc

  pub acts_fitting : (v : List Value) → All IsValue v → (d : stmt.Stmt-F Stmt) (g : Store) (ls : List Value) (w : ℕ) → does v d ≡ Acts g ls w → FitChoices v (layer_choices plain d)
  acts_fitting v a (stmt.Call f es rs) g ls w e = fit_call v a _ rs (called plain f) (values_of (frame_values plain.program.globals proc locals) es) g ls w e
  acts_fitting v a (stmt.Assert f) g ls w e = absurd (no_assert v (is_true (value_of (frame_values plain.program.globals proc locals) f)) g ls w e)
  acts_fitting v a _ g ls w e = absurd (cc)

-- ---- the choices that have variables

module _ (program : Program) (step : ℕ) (proc : Proc) (cut : Cut) where
  abbrev lower : Plain
  lower = program_at program (step - 1)

  -- values of their sorts for the choices of each statement that some path passes
  abbrev pub AllFit : (ℕ → List Value) → Type 0
  AllFit chosen = (number : ℕ) (choices : List Choice) → Contains (passed_choices program step proc cut) (number, choices) → FitChoices (chosen number) choices

  -- these are the choices of the statement with this number
  pub passed_are : (number : ℕ) (choices : List Choice) → Contains (passed_choices program step proc cut) (number, choices) → (s : Stmt) × (statement_at proc.body number ≡ Some s) × (layer_choices lower (out-Stmt s) ≡ choices)
  passed_are number choices h =
      let m = from_map (λ (q : ℕ × Stmt). (q.0, layer_choices lower (out-Stmt q.1))) (flow_from proc cut).passed (number, choices) h in
      let q = m.0 in
      let at = passed_stand_in_body proc cut q m.1 in
      (q.1, subst (λ (n : ℕ). statement_at proc.body n ≡ Some q.1) (ap (λ (r : ℕ × List Choice). r.0) m.2) at, ap (λ (r : ℕ × List Choice). r.1) m.2)

  -- so with others for one statement
  pub more_fit : (chosen : ℕ → List Value) → AllFit chosen → (n : ℕ) (s : Stmt) → statement_at proc.body n ≡ Some s → (v : List Value) → FitChoices v (layer_choices lower (out-Stmt s)) → AllFit (with_choices chosen n v)
  more_fit chosen fit n s at v h number choices among = by_number (nat_eq number n) refl
    where
      by_number : (b : Bool) → nat_eq number n ≡ b → FitChoices (if b then v else chosen number) choices
      by_number false e = fit number choices among
      by_number true e =
          let is = passed_are number choices among in
          let same : is.0 ≡ s = same_Some is.0 s (sym is.1 ∙ ap (statement_at proc.body) (eqb-true number n e) ∙ at) in
          subst (FitChoices v) (ap (λ (t : Stmt). layer_choices lower (out-Stmt t)) (sym same) ∙ is.2) h

  -- and with its own
  pub same_fit : (chosen : ℕ → List Value) → AllFit chosen → (n : ℕ) → AllFit (with_choices chosen n (chosen n))
  same_fit chosen fit n number choices among = by_number (nat_eq number n) refl
    where
      by_number : (b : Bool) → nat_eq number n ≡ b → FitChoices (if b then chosen n else chosen number) choices
      by_number false e = fit number choices among
      by_number true e = subst (λ (m : ℕ). FitChoices (chosen m) choices) (eqb-true number n e) (fit number choices among)

-- ---- zeros

module _ (program : Program) (layered : IsLayered program) (step q : ℕ) (proc : Proc) (there : slice_get program.procs q ≡ Some proc) where
  -- the choices of a declared action are of sorts
  action_zeros : (place : ℕ) (a : Action) → slice_get program.actions place ≡ Some a → FitChoices (map (λ c. zero_of c.sort) a.choices) a.choices
  action_zeros place a at =
      let w = (or_parts (list_any choice_width a.choices) (any_width (action_uses program a)) (or_parts (list_any (param_width program) (a.params ++ a.outs)) _ (action_kept typing_rules program layered.rules width_rule width_among place a at)).1).0 in
      let i = (or_parts (list_any (λ (c : Choice). sort_index c.sort) a.choices) (any_index (action_uses program a)) (or_parts (list_any (λ (p : Param). sort_index p.sort) (a.params ++ a.outs)) _ (action_kept typing_rules program layered.rules index_rule index_among place a at)).1).0 in
      zeros_fit (λ (c : Choice). c.sort) a.choices (λ k c e. limits c.sort (not-false (sort_width_fits c.sort) (none_at choice_width a.choices w k c e)) (none_at (λ (c : Choice). sort_index c.sort) a.choices i k c e))

  abbrev zeros : List Choice → List Value
  zeros choices = map (λ c. zero_of c.sort) choices

  meant_zeros : (taken given : List Sort) (m : Meaning) → Serves program taken given m → FitChoices (zeros (choices_of m)) (choices_of m)
  meant_zeros taken given (Does a) s = action_zeros s.0 a s.1
  meant_zeros taken given (Runs number callee) s = zeros_fit (λ (c : Choice). c.sort) [] (λ k c e. absurd (none-some c e))
  meant_zeros taken given Missing s = zeros_fit (λ (c : Choice). c.sort) [] (λ k c e. absurd (none-some c e))

  abbrev plain : Plain
  plain = program_at program (step - 1)

  form_zeros : (d : stmt.Stmt-F Stmt) → form_unknown program proc d ≡ false → FitChoices (zeros (layer_choices plain d)) (layer_choices plain d)
  form_zeros (stmt.Call f es rs) u = by_signature (callee_signature program f) refl (or_parts (is_none (callee_signature program f)) _ u).0
    where
      by_signature : (o : Option Signature) → callee_signature program f ≡ o → is_none o ≡ false → FitChoices (zeros (choices_of (called plain f))) (choices_of (called plain f))
      by_signature None e n = absurd (true≢false n)
      by_signature (Some signature) e n = meant_zeros (param_sorts signature.params) (param_sorts signature.outs) (called plain f) (called_serves plain (layered_is_plain program layered (step - 1)) f signature e)
  form_zeros _ u = zeros_fit (λ (c : Choice). c.sort) [] (λ k c e. absurd (none-some c e))

  -- zeros for the choices of each statement
  abbrev pub zero_choices : ℕ → List Value
  zero_choices number = option_map_or (λ s. zeros (layer_choices plain (out-Stmt s))) (statement_at proc.body number) []

  pub zeros_fit_all : (cut : Cut) → AllFit program step proc cut zero_choices
  zeros_fit_all cut number choices among =
      let is = passed_are program step proc cut number choices among in
      let known = (or_parts (form_unknown program proc (out-Stmt is.0)) (any_unknown (form_uses program proc (out-Stmt is.0))) (statement_kept typing_rules program layered.rules unknown_rule unknown_among (stmt_unknown program proc) q proc there refl number is.0 is.1)).0 in
      let values : zero_choices number ≡ zeros choices = ap (λ (o : Option Stmt). option_map_or (λ s. zeros (layer_choices plain (out-Stmt s))) o []) is.1 ∙ ap zeros is.2 in
      subst (λ (vs : List Value). FitChoices vs choices) (sym values) (subst (λ (cs : List Choice). FitChoices (zeros cs) cs) is.2 (form_zeros (out-Stmt is.0) known))

pub choices_are_there : ChoicesAreThere
choices_are_there program step q proc cut layered of = (zero_choices program layered step q proc of.there, zeros_fit_all program layered step q proc of.there cut)
