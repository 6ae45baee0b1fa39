use Rattle.std.specs.Prelude.{map, slice_get, length, List, ℕ, ◌≤◌, Some}
use Rattle.std.proofs.Common.{◌≡◌, ◌∙◌, sym, ap, subst, arith}
use Rattle.std.proofs.lemmas.List.{take_all, length-map}
use Rattle.civl_tree.specs.declared.action.Action.{Action}
use Rattle.civl_firing.specs.declared.scope.Scope.{Scope}
use Rattle.civl_firing.specs.Eval.{values_of}
use Rattle.civl_terms.proofs.Growing.{grows_trans, grows_same}
use Rattle.civl_terms.specs.Graphs.{sort_at}
use Rattle.civl_actions.specs.Actions.{values_at}
use Rattle.civl_actions.specs.Scopes.{AreOf}
use Rattle.civl_actions.proofs.Listing.{item_at}
use Rattle.civl_conditions.specs.paths.NoteValues.{plain_note_values}
use Rattle.civl_conditions.specs.Assumed.{with_of}
use Rattle.civl_conditions.specs.Weights.{note_weight}
use Rattle.civl_states.specs.formula_parts.Said.{Env}
use Rattle.civl_states.specs.formula_parts.Lists.{AreSaid}
use Rattle.civl_states.proofs.formula_parts.Listing.{sorts_stay, said_stay}
use Rattle.civl_states.proofs.Picking.{same_some}
use Rattle.civl_meaning.specs.Config.{choice_sorts}
use Rattle.civl_refine.proofs.Withs.{with_at, with_long, sorted_next, said_next, weigh_next, whole}
use Rattle.civl_refine.proofs.performing.with_terms.Goals as goal

pub plain_note-requires-clause-typed : goal.plain_note-requires-clause-typed
plain_note-requires-clause-typed c =
    let s = c.args.start.now in
    let r = c.requires.start in
    let at = item_at (with_of s.proc.now.refines) c.with_of-expr-items.result.now c.loop-expr.expr-index c.expr-item.result c.with_of-expr-items.ensures (omega arith) c.expr-item.is in
    (with_at s.program.now r.rules s.proc.now r.proc r.refined.action r.refined.refined c.loop-expr.expr-index c.expr-item.result at).3

pub plain_note-requires-clause-globals : goal.plain_note-requires-clause-globals
plain_note-requires-clause-globals c = sorts_stay _ _ _ _ c.loop-expr.invariant.0 c.requires.ends.globals

pub plain_note-requires-clause-locals : goal.plain_note-requires-clause-locals
plain_note-requires-clause-locals c = sorts_stay _ _ _ _ c.loop-expr.invariant.0 c.requires.ends.locals

pub loop-expr-init : goal.loop-expr-init
loop-expr-init c =
    let o = c.args.terms.now in
    let none = c.new-ids.ensures.items in
    (grows_same o, omega arith, λ a e. ap (map (sort_at o)) none, λ a p e at. record { sorted = ap (map (sort_at o)) none; are = λ env fits. ap (values_at env o) none })

pub loop-expr-preserved : goal.loop-expr-preserved
loop-expr-preserved c =
    let s = c.args.start.now in
    let r = c.requires.start in
    let i = c.loop-expr.expr-index in
    let e = c.expr-item.result in
    let es = with_of s.proc.now.refines in
    let inv = c.loop-expr.invariant in
    let m = c.loop-expr.terms in
    let n = c.plain_note.new.terms in
    let g = c.in_ok-id.ensures.grows in
    let at = item_at es c.with_of-expr-items.result.now i e c.with_of-expr-items.ensures (omega arith) c.expr-item.is in
    let w = with_at s.program.now r.rules s.proc.now r.proc r.refined.action r.refined.refined i e at in
    let here : (a : Action) → slice_get s.program.now.actions s.refined ≡ Some a → slice_get (choice_sorts a) i ≡ Some w.0 =
    λ a f. subst (λ (b : Action). slice_get (choice_sorts b) i ≡ Some w.0) (same_some _ r.refined.action a r.refined.is f) w.1 in (
      grows_trans _ _ _ inv.0 g,
      omega (arith, inv.1, c.in_ok-id.ensures.weighs, weigh_next (note_weight s.program.now s.proc.now) es i e at),
      λ a f. sorted_next m n c.loop-expr.ids.items c.push.new.self.items (choice_sorts a) i c.in_ok-id.id w.0 (sorts_stay _ _ _ _ g (inv.2 a f)) (here a f) (c.in_ok-id.ensures.sorted ∙ w.2) c.in_ok-push.ensures.items,
      λ a p f ends.
          let scope : Env → Scope = λ env. plain_note_values s.program.now.globals s.proc.now (p env).store (p env).locals in
          said_next m n c.loop-expr.ids.items c.push.new.self.items (choice_sorts a) es i c.in_ok-id.id w.0 e scope g (inv.3 a p f ends) (here a f) at
          (c.in_ok-id.ensures.note w.0 (λ env. (p env).store) (λ env. (p env).locals) w.2 (said_stay _ _ _ _ _ inv.0 ends.globals) (said_stay _ _ _ _ _ inv.0 ends.locals)) c.in_ok-push.ensures.items,
    )

pub returns-clause-said : goal.returns-clause-said
returns-clause-said c = λ a p f ends.
    let s = c.args.start.now in
    let r = c.requires.start in
    let i = c.loop-expr.expr-index in
    let es = with_of s.proc.now.refines in
    let scope : Env → Scope = λ env. plain_note_values s.program.now.globals s.proc.now (p env).store (p env).locals in
    let past : length es ≤ i = omega (arith, ap length c.with_of-expr-items.ensures) in
    let long : length es ≡ length a.choices = subst (λ (b : Action). length es ≡ length b.choices) (same_some _ r.refined.action a r.refined.is f) (with_long s.program.now r.rules s.proc.now r.proc r.refined.action r.refined.refined) in
    subst (λ (xs : List ℕ). AreSaid c.loop-expr.terms xs (choice_sorts a) (λ env. values_of (scope env) es)) (sym c.from_vec.ensures)
    (whole c.loop-expr.terms c.loop-expr.ids.items (choice_sorts a) es i scope past (omega (arith, past, long, length-map a.choices (λ x. x.sort))) (c.loop-expr.invariant.3 a p f ends))

pub returns-clause-sorted : goal.returns-clause-sorted
returns-clause-sorted c = λ a f.
    let s = c.args.start.now in
    let r = c.requires.start in
    let i = c.loop-expr.expr-index in
    let es = with_of s.proc.now.refines in
    let past : length es ≤ i = omega (arith, ap length c.with_of-expr-items.ensures) in
    let long : length es ≡ length a.choices = subst (λ (b : Action). length es ≡ length b.choices) (same_some _ r.refined.action a r.refined.is f) (with_long s.program.now r.rules s.proc.now r.proc r.refined.action r.refined.refined) in
    subst (λ (xs : List ℕ). AreOf c.loop-expr.terms xs (choice_sorts a)) (sym c.from_vec.ensures)
    (subst (AreOf c.loop-expr.terms c.loop-expr.ids.items) (take_all i (choice_sorts a) (omega (arith, past, long, length-map a.choices (λ x. x.sort)))) (c.loop-expr.invariant.2 a f))

pub returns-in_err-push-clause-grows : goal.returns-in_err-push-clause-grows
returns-in_err-push-clause-grows c = grows_trans _ _ _ c.loop-expr.invariant.0 c.in_ok-id.ensures.grows

pub returns-in_err-id-clause-grows : goal.returns-in_err-id-clause-grows
returns-in_err-id-clause-grows c = grows_trans _ _ _ c.loop-expr.invariant.0 c.in_err-id.ensures.grows
