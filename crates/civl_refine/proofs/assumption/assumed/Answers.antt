use Rattle.std.specs.Prelude.{Bool, List, ℕ, ◌≤◌, Option, Some, None, IfSome, length, ◌&&◌, if◌then◌else◌}
use Rattle.std.proofs.Common.{◌≡◌, ◌+◌, ◌*◌, refl, sym, ap, subst, arith}
use Rattle.civl_tree.specs.declared.expr.Expr.{Expr}
use Rattle.civl_tree.specs.declared.expr.Sort.TheVariants.{Bool as Truth}
use Rattle.civl_tree.specs.declared.action.Action.{Action}
use Rattle.civl_tree.specs.rules.Scopes.{note_scope}
use Rattle.civl_tree.specs.rules.Sorts.{sort_of}
use Rattle.civl_firing.specs.values.ActionWeights.{gate_weight}
use Rattle.civl_meaning.specs.Permissions.{pairwise_disjoint}
use Rattle.civl_terms.specs.Weights.{graph_weight}
use Rattle.civl_terms.proofs.Growing.{grows_trans}
use Rattle.civl_actions.specs.Scopes.{IsTyped}
use Rattle.civl_conditions.specs.paths.Ends.{is_entry, is_rank_loop}
use Rattle.civl_conditions.specs.Assumed.{owned, refined_gate, cut_invariant, note_holds}
use Rattle.civl_conditions.specs.Invariants.{invariants_hold}
use Rattle.civl_conditions.specs.Steps.{step_invariants}
use Rattle.civl_conditions.specs.Weights.{lin, linear_globals, global_weight, note_weight, weights_of, maybe_weight}
use Rattle.civl_states.specs.formula_parts.Said.{Env, IsTest}
use Rattle.civl_states.proofs.formula_parts.Saying.{test_as}
use Rattle.civl_states.proofs.formula_parts.Listing.{sorts_stay, said_stay}
use Rattle.civl_states.specs.Notes.{Seen, seen_values}
use Rattle.civl_states.proofs.Weighing.{weighs_some, gate_weighs}
use Rattle.civl_refine.specs.Assuming.{gate_or_done}
use Rattle.civl_refine.proofs.Typing.{cut_typed, cut_truth}
use Rattle.civl_refine.proofs.Assuming.{can_see, seen_begun, begin_stays, begun_stays, refined_weighs, reorder, weighs_rank, note_counts, note_some, entry_none}
use Rattle.civl_refine.proofs.assumption.assumed.Goals as goal

pub with_note-requires-clause-typed : goal.with_note-requires-clause-typed
with_note-requires-clause-typed c =
    let s = c.args.start.now in
    subst (λ (o : Option Expr). IfSome o (IsTyped (note_scope s.program.now s.proc.now))) (sym c.requires.start.note) (each (cut_invariant s.proc.now s.cut) refl)
  where
    each : (o : Option Expr) → cut_invariant c.args.start.now.proc.now c.args.start.now.cut ≡ o → IfSome o (IsTyped (note_scope c.args.start.now.program.now c.args.start.now.proc.now))
    each None e = tt
    each (Some x) e = cut_typed c.args.start.now.program.now c.requires.start.rules c.args.start.now.proc.now c.requires.start.proc c.args.start.now.cut x e

pub with_note-requires-clause-truth : goal.with_note-requires-clause-truth
with_note-requires-clause-truth c =
    let s = c.args.start.now in
    subst (λ (o : Option Expr). IfSome o (λ e. sort_of (note_scope s.program.now s.proc.now) e ≡ Some Truth)) (sym c.requires.start.note) (each (cut_invariant s.proc.now s.cut) refl)
  where
    each : (o : Option Expr) → cut_invariant c.args.start.now.proc.now c.args.start.now.cut ≡ o → IfSome o (λ e. sort_of (note_scope c.args.start.now.program.now c.args.start.now.proc.now) e ≡ Some Truth)
    each None e = tt
    each (Some x) e = cut_truth c.args.start.now.program.now c.requires.start.rules c.args.start.now.proc.now c.requires.start.proc c.args.start.now.cut x e

pub with_note-requires-clause-view : goal.with_note-requires-clause-view
with_note-requires-clause-view c =
    let s = c.args.start.now in
    let v = c.view_of-view.ensures in
    can_see _ s.program.now s.step s.proc.now s.cut c.args.beginning.now _ v.globals v.locals v.done v.old_globals v.old_outs v.old_done (begin_stays _ _ _ _ _ _ _ c.in_ok-test.ensures.grows c.requires.begins)

pub returns-in_err-test-2-clause-grows : goal.returns-in_err-test-2-clause-grows
returns-in_err-test-2-clause-grows c = grows_trans _ _ _ c.in_ok-test.ensures.grows c.in_err-test-2.ensures.grows

pub with_invariants-requires-clause-globals : goal.with_invariants-requires-clause-globals
with_invariants-requires-clause-globals c = sorts_stay _ _ _ _ (grows_trans _ _ _ c.in_ok-test.ensures.grows c.in_ok-test-2.ensures.grows) c.requires.begins.old_globals

pub returns-in_err-test-3-clause-grows : goal.returns-in_err-test-3-clause-grows
returns-in_err-test-3-clause-grows c = grows_trans _ _ _ c.in_ok-test.ensures.grows (grows_trans _ _ _ c.in_ok-test-2.ensures.grows c.in_err-test-3.ensures.grows)

pub returns-clause-test : goal.returns-clause-test
returns-clause-test c = λ b at begun.
    let s = c.args.start.now in
    let p = s.program.now in
    let q = s.proc.now in
    let v = c.view_of-view.ensures in
    let one = c.in_ok-test.ensures.grows in
    let two = grows_trans _ _ _ one c.in_ok-test-2.ensures.grows in
    let seen : Env → Seen = λ env. record { store = (b env).store; locals = (b env).locals; done = (b env).done; old = (b env).old; old_outs = (b env).old_outs; old_done = (b env).old_done } in
    let a : Env → Bool = λ env. pairwise_disjoint (owned p q s.number (b env)) && gate_or_done (b env).old_done (b env).done (refined_gate p q (b env)) in
    let n : Env → Bool = λ env. note_holds (seen_values p q (seen env)) (cut_invariant q s.cut) in
    let begun1 = begun_stays _ _ p s.step q s.cut c.args.beginning.now b one begun in
    let said = seen_begun _ p s.step q s.cut c.args.beginning.now _ b v.globals v.locals v.done v.old_globals v.old_outs v.old_done begun1 in
    let first = c.in_ok-test.ensures.test b at begun in
    let second = subst (λ (o : Option Expr). IsTest c.with_note.new.terms c.in_ok-test-2.test (λ env. a env && note_holds (seen_values p q (seen env)) o)) c.requires.start.note (c.in_ok-test-2.ensures.test a seen first said) in
    let third = c.in_ok-test-3.ensures.test (λ env. a env && n env) (λ env. (b env).old) second (said_stay _ _ _ _ _ two begun.old_globals) in
    test_as _ _ (λ env. (a env && n env) && invariants_hold p s.step (b env).old) _
    (λ env. reorder (pairwise_disjoint (owned p q s.number (b env))) _ _ (n env) (invariants_hold p s.step (b env).old)) third

pub returns-clause-grows : goal.returns-clause-grows
returns-clause-grows c = grows_trans _ _ _ c.in_ok-test.ensures.grows (grows_trans _ _ _ c.in_ok-test-2.ensures.grows c.in_ok-test-3.ensures.grows)

pub returns-clause-weighs : goal.returns-clause-weighs
returns-clause-weighs c =
    let s = c.args.start.now in
    let p = s.program.now in
    let q = s.proc.now in
    let r = c.requires.start.refined in
    let entry = is_entry s.cut.kind in
    let w0 = subst (λ (o : Option Action). IfSome o (λ a. graph_weight c.owned_and_gated.new.terms ≤ graph_weight c.args.terms.now + 4 * lin p (length s.held.now + linear_globals p) + gate_weight p a + (if entry then 1 else if is_rank_loop s.cut.kind then 4 else 2))) r.refined c.in_ok-test.ensures.weighs in
    let w1 = subst (λ (o : Option Expr). graph_weight c.with_note.new.terms ≤ graph_weight c.owned_and_gated.new.terms + maybe_weight (λ e. note_weight p q e + 1) o) c.requires.start.note c.in_ok-test-2.ensures.weighs in
    let counted = note_counts entry (note_weight p q) (cut_invariant q s.cut) (entry_none q s.cut.statement s.cut.kind) in
    let all = weighs_rank entry (is_rank_loop s.cut.kind) (graph_weight c.args.terms.now) (graph_weight c.with_invariants.new.terms) (lin p (length s.held.now + linear_globals p)) (gate_weight p r.action) (maybe_weight (note_weight p q) (cut_invariant q s.cut))
    (weights_of (global_weight p) (step_invariants p s.step)) (gate_weighs p r.action) (λ e. note_some (note_weight p q) (λ x. weighs_some (note_scope p q) x) (cut_invariant q s.cut) (c.requires.start.said e))
    (omega (arith, w0, w1, c.in_ok-test-3.ensures.weighs, counted)) in
    omega (arith, all, refined_weighs p q s.refined r, ap (λ (ns : List ℕ). lin p (length ns + linear_globals p)) c.requires.start.held)
