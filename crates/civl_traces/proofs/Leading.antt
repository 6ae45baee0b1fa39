-- What is told to change leads from the one state to the other.
use Rattle.std.proofs.Common.{◌≡◌, ℕ, ◌+◌, Bool, true, false, ◌&&◌, List, [], ◌∷◌, ◌++◌, length, refl, sym, ap, ap₂, ◌∙◌, subst, arith, Option, None, Some, ◌⊎◌, inl, inr}
use Rattle.std.proofs.lemmas.Bool.{false≢true, and_parts, eqb-true}
use Rattle.std.proofs.lemmas.List.{append-nil, append_assoc, length-append, length-set}
use Rattle.std.proofs.Math.Seq.{set-append_seam}
use Rattle.std.specs.Cmp.Lexicographic.{pointwise, bytes_decides}
use Rattle.std.specs.Prelude.{if◌then◌else◌, slice_set, nat_eq}
use Rattle.civl_bits.specs.declared.value.Value.{Value}
use Rattle.civl_bits.specs.declared.value.Value.TheVariants as value
use Rattle.civl_bits.specs.Row.{Cells}
use Rattle.civl_bits.specs.Value.{same_value}
use Rattle.civl_tree.specs.declared.name.Name.{Name}
use Rattle.civl_tree.specs.declared.action.Action.{Action}
use Rattle.civl_tree.specs.declared.action.Update.{Update}
use Rattle.civl_tree.specs.declared.stmt.Stmt.{Stmt, out-Stmt}
use Rattle.civl_tree.specs.declared.stmt.Stmt.TheOpen as stmt
use Rattle.civl_tree.specs.rules.Names.{names_in_proc}
use Rattle.civl_firing.specs.declared.scope.Scope.{Scope}
use Rattle.civl_firing.specs.declared.firing.Fired.TheVariants as fire
use Rattle.civl_firing.specs.Truth.{place_of}
use Rattle.civl_firing.specs.Eval.{value_of, values_of}
use Rattle.civl_firing.specs.Scope.{frame_values}
use Rattle.civl_firing.specs.Fired.{gate_holds, choices_fit, updated, guard_holds, store_after, outs_after, fires, fired_by, fired}
use Rattle.civl_meaning.specs.declared.config.Change.TheVariants.{Stays, Goes}
use Rattle.civl_meaning.specs.declared.config.Stepped.TheVariants as answer
use Rattle.civl_meaning.specs.Meaning.{Meaning, Does, Runs, Missing, called}
use Rattle.civl_meaning.specs.Change.{with_results, acted, action_change, call_doing, done_by, is_true_in, statement_doing}
use Rattle.civl_meaning.specs.Change as does
use Rattle.civl_conditions.specs.paths.Paths.{Course, Progress, Outcome, Past, Comes, Fails, Stops, came, pass}
use Rattle.civl_conditions.proofs.paths.Passing.{pass_layer, pass_is}
use Rattle.civl_traces.specs.declared.walked.Changed.{Changed}
use Rattle.civl_traces.specs.Traces.{Passed}
use Rattle.civl_traces.specs.Told.{changes, changed}
use Rattle.civl_traces.specs.Laws.{condition, PassesAlone, with_changes, values, ChangesLead}
use Rattle.civl_traces.proofs.Changes.{unchanged}
use Rattle.civl_traces.proofs.Sound.{passed_stand_in_body}

-- ---- values that are the same

rows_same : (r s : Cells) → (nat_eq r.index s.index && nat_eq r.width s.width && pointwise nat_eq r.cells s.cells) ≡ true → r ≡ s
rows_same r s e =
    let parts = and_parts _ _ e in
    let first = and_parts _ _ parts.0 in
    ap₂ (λ (m n : ℕ). record { index = m; width = n; cells = r.cells }) (eqb-true r.index s.index first.0) (eqb-true r.width s.width first.1)
    ∙ ap (λ (cs : List ℕ). record { index = s.index; width = s.width; cells = cs }) ((bytes_decides r.cells s.cells).0 parts.1)

values_same : (v w : Value) → same_value v w ≡ true → v ≡ w
values_same (value.Bool true) (value.Bool true) e = refl
values_same (value.Bool true) (value.Bool false) e = absurd (false≢true e)
values_same (value.Bool false) (value.Bool true) e = absurd (false≢true e)
values_same (value.Bool false) (value.Bool false) e = refl
values_same (value.Bool a) (value.Word b) e = absurd (false≢true e)
values_same (value.Bool a) (value.Row s) e = absurd (false≢true e)
values_same (value.Word a) (value.Bool b) e = absurd (false≢true e)
values_same (value.Word a) (value.Word b) e =
    let parts = and_parts _ _ e in
    ap₂ (λ (m n : ℕ). value.Word (m, n)) (eqb-true a.0 b.0 parts.0) (eqb-true a.1 b.1 parts.1)
values_same (value.Word a) (value.Row s) e = absurd (false≢true e)
values_same (value.Row r) (value.Bool b) e = absurd (false≢true e)
values_same (value.Row r) (value.Word b) e = absurd (false≢true e)
values_same (value.Row r) (value.Row s) e = ap value.Row (rows_same r s e)

-- ---- the changes of two lists of one length

same_or : (b : Bool) → (b ≡ true) ⊎ (b ≡ false)
same_or true = inl refl
same_or false = inr refl

-- those of these values, where xs stand before them and ys behind
leads : (at : ℕ) (xs vs ws ys : List Value) → at ≡ length xs → length ws ≡ length vs → with_changes (changes at vs ws) (xs ++ (vs ++ ys)) ≡ xs ++ (ws ++ ys)
leads at xs [] [] ys a h = refl
leads at xs [] (w ∷ ws) ys a h = absurd (omega arith)
leads at xs (v ∷ vs) [] ys a h = absurd (omega arith)
leads at xs (v ∷ vs) (w ∷ ws) ys a h =
    let longer : at + 1 ≡ length (xs ++ w ∷ []) = omega (arith, length-append xs (w ∷ [])) in
    let front : (zs : List Value) → (xs ++ w ∷ []) ++ zs ≡ xs ++ (w ∷ zs) = λ zs. append_assoc xs (w ∷ []) zs in
    let others : with_changes (changes (at + 1) vs ws) (xs ++ (w ∷ (vs ++ ys))) ≡ xs ++ (w ∷ (ws ++ ys))
    = ap (with_changes (changes (at + 1) vs ws)) (sym (front (vs ++ ys))) ∙ leads (at + 1) (xs ++ w ∷ []) vs ws ys longer (omega arith) ∙ front (ws ++ ys) in
    elim (same_or (same_value v w)) [
      | inl e ↦
          rw e (ap (λ (u : Value). with_changes (changes (at + 1) vs ws) (xs ++ (u ∷ (vs ++ ys)))) (values_same v w e) ∙ others)
      | inr e ↦
          rw e (ap (with_changes (changes (at + 1) vs ws)) (ap (λ (n : ℕ). slice_set (xs ++ (v ∷ (vs ++ ys))) n w) a ∙ set-append_seam xs v (vs ++ ys) w) ∙ others)
    ]

with_both : (ds es : List Changed) (vs : List Value) → with_changes (ds ++ es) vs ≡ with_changes es (with_changes ds vs)
with_both [] es vs = refl
with_both (d ∷ ds) es vs = with_both ds es (slice_set vs d.place d.after)

-- as many values of globals, and as many others
abbrev AsMany : Progress → Progress → Type 0
AsMany p q = (length q.store.values ≡ length p.store.values) × (length q.locals ≡ length p.locals)

all_lead : (p q : Progress) → AsMany p q → with_changes (changed p q) (values p) ≡ values q
all_lead p q h =
    let globals = changes 0 p.store.values q.store.values in
    let locals = changes (length p.store.values) p.locals q.locals in
    with_both globals locals (values p)
    ∙ ap (with_changes locals) (leads 0 [] p.store.values q.store.values p.locals refl h.0)
    ∙ ap (λ (vs : List Value). with_changes locals (q.store.values ++ vs)) (sym (append-nil p.locals))
    ∙ leads (length p.store.values) q.store.values p.locals q.locals [] (sym h.0) h.1
    ∙ ap (λ (vs : List Value). q.store.values ++ vs) (append-nil q.locals)

-- ---- a statement keeps how many values there are

results_kept : (names : List Name) (vs : List Value) (rs : List Name) (outs : List Value) → length (with_results names vs rs outs) ≡ length vs
results_kept names vs [] outs = refl
results_kept names vs (r ∷ rs) [] = refl
results_kept names vs (r ∷ rs) (v ∷ outs) = results_kept names (slice_set vs (place_of names r) v) rs outs ∙ length-set vs (place_of names r) v

updates_kept : (names : List Name) (vs : List Value) (scope : Scope) (us : List Update) → length (updated names vs scope us) ≡ length vs
updates_kept names vs scope [] = refl
updates_kept names vs scope (u ∷ us) = updates_kept names (slice_set vs (place_of names u.target) (value_of scope u.expr)) scope us ∙ length-set vs (place_of names u.target) (value_of scope u.expr)

module _ (c : Course) (p : Progress) where
  abbrev Kept : Outcome → Type 0
  Kept (Past b) = AsMany p b
  Kept (Comes n b) = Unit {0}
  Kept (Fails b) = Unit {0}
  Kept (Stops b) = Unit {0}

  goes_kept : (locals : List Value) (place : ℕ) → length locals ≡ length p.locals → Kept (came p (Goes locals place))
  goes_kept locals place h = (refl, h)

  assert_kept : (t : Bool) (chosen : List Value) (place : ℕ) → Kept (came p (done_by c.plain p.store chosen (if t then does.Goes p.locals place else does.Fails)))
  assert_kept true chosen place = (refl, refl)
  assert_kept false chosen place = tt

  fired_kept : (names rs : List Name) (place : ℕ) (a : Action) (args chosen : List Value) (guard : Bool) →
      Kept (came p (acted names p.locals rs place (fired_by (if guard then Some (store_after c.plain.program.globals p.store a args chosen, outs_after c.plain.program.globals p.store a args chosen) else None))))
  fired_kept names rs place a args chosen true = (updates_kept _ _ _ a.updates, results_kept names p.locals rs _)
  fired_kept names rs place a args chosen false = tt

  tests_kept : (gate fit guard : Bool) (names rs : List Name) (place : ℕ) (a : Action) (args chosen : List Value) →
      Kept (came p (if gate then (if fit then acted names p.locals rs place (if gate then fired_by (if guard then Some (store_after c.plain.program.globals p.store a args chosen, outs_after c.plain.program.globals p.store a args chosen) else None) else fire.GateFalse) else Stays answer.BadChoices) else Stays answer.Failing))
  tests_kept true true guard names rs place a args chosen = fired_kept names rs place a args chosen guard
  tests_kept true false guard names rs place a args chosen = tt
  tests_kept false fit guard names rs place a args chosen = tt

  action_kept : (chosen : List Value) (names rs : List Name) (place : ℕ) (a : Action) (args : List Value) → Kept (came p (action_change c.plain p.store chosen names p.locals rs place a args))
  unfolding fired fires
  action_kept chosen names rs place a args =
      let gs = c.plain.program.globals in
      tests_kept (gate_holds gs p.store a args) (choices_fit a chosen) (guard_holds gs p.store a args chosen) names rs place a args chosen

  call_kept : (chosen : List Value) (names rs : List Name) (at place : ℕ) (m : Meaning) (args : List Value) → Kept (came p (done_by c.plain p.store chosen (call_doing names p.locals rs at place m args)))
  call_kept chosen names rs at place (Does a) args = action_kept chosen names rs place a args
  call_kept chosen names rs at place (Runs n proc) args = tt
  call_kept chosen names rs at place Missing args = tt

  layer_kept : (d : stmt.Stmt-F Stmt) (n : ℕ) → condition d ≡ None → Kept (pass_layer c d n p)
  layer_kept (stmt.If e a b) n h = cc
  layer_kept (stmt.While e a) n h = tt
  layer_kept (stmt.YieldLoop e i a) n h = tt
  layer_kept (stmt.RankLoop e r i a) n h = tt
  layer_kept (stmt.Assign x e) n h = goes_kept _ (n + 1) (length-set p.locals (place_of (names_in_proc c.proc) x) (value_of (frame_values c.plain.program.globals c.proc p.locals) e))
  layer_kept (stmt.Assert e) n h = assert_kept (is_true_in c.plain c.proc p.locals e) (c.chosen n) (n + 1)
  layer_kept (stmt.Call f es rs) n h = call_kept (c.chosen n) (names_in_proc c.proc) rs n (n + 1) (called c.plain f) (values_of (frame_values c.plain.program.globals c.proc p.locals) es)
  layer_kept (stmt.Yield i) n h = tt
  layer_kept stmt.Commit n h = (refl, refl)
  layer_kept (stmt.Intro x e) n h = (length-set p.store.values _ _, refl)
  layer_kept (stmt.Spawn f es) n h = tt

  stmt_kept : (s : Stmt) (n : ℕ) (b : Progress) → condition (out-Stmt s) ≡ None → pass c s n p ≡ Past b → AsMany p b
  stmt_kept s n b h e = subst Kept (sym (pass_is c s n p) ∙ e) (layer_kept (out-Stmt s) n h)

-- ---- of each statement that is passed

alone_leads : (c : Course) (q : Passed) (s : Stmt) (took : Option Bool) → PassesAlone c q s took → with_changes (changed q.before q.behind) (values q.before) ≡ values q.behind
alone_leads c q s (Some t) h =
    rw (ap (changed q.before) h.3 ∙ unchanged q.before) (ap values (sym h.3))
alone_leads c q s None h = all_lead q.before q.behind (stmt_kept c q.before s q.statement q.behind h.0 h.1)

pub changes_lead : ChangesLead
changes_lead c cut p q a =
    let stands = passed_stand_in_body c cut p q a in
    alone_leads c q stands.0 q.took stands.2
