use Rattle.std.specs.Prelude.{take, slice_get, nat_eq}
use Rattle.std.proofs.Common.{◌≡◌, ◌∙◌, ◌+◌, ℕ, Bool, true, false, List, Some, refl, sym, subst, arith}
use Rattle.std.proofs.lemmas.Bool.{eq-eqb, eqb-true}
use Rattle.std.proofs.lemmas.List.{take_all}
use Rattle.std.proofs.lemmas.Option.{slice_get_read}
use Rattle.std.specs.List.{list_all}
use Rattle.civl_tree.specs.declared.expr.Expr.{Expr}
use Rattle.civl_tree.specs.declared.program.Invariant.{Invariant}
use Rattle.civl_terms.specs.declared.node.Node.{Node}
use Rattle.civl_terms.proofs.Growing.{grows_trans}
use Rattle.civl_conditions.specs.Invariants.{holds_of_globals}
use Rattle.civl_states.specs.formula_parts.Said.{IsTest}
use Rattle.civl_states.proofs.formula_parts.Listing.{sorts_stay}
use Rattle.civl_states.proofs.Typed.{invariant_typed}
use Rattle.civl_states.proofs.Stepping.{of_step, HoldSo, hold_more, step_more, step_same}
use Rattle.civl_states.proofs.invariants.invariants_at.Goals as goal
use Rattle.civl_states.proofs.invariants.invariants_at.Goals.{then-invariant-step+in_ok-all-2, else-invariant-step}

differs : (a b : ℕ) → (a ≡ b → ⊥) → nat_eq a b ≡ false
differs a b f = by (nat_eq a b) refl
  where
    by : (t : Bool) → nat_eq a b ≡ t → t ≡ false
    by true e = absurd (f (eqb-true a b e))
    by false e = refl

pub and_hold-requires-clause-typed : goal.and_hold-requires-clause-typed
and_hold-requires-clause-typed c =
    invariant_typed c.args.program.now c.requires.rules c.loop-invariant.invariant-index c.invariant-item.result
    (subst (λ (is : List Invariant). slice_get is c.loop-invariant.invariant-index ≡ Some c.invariant-item.result) c.as_slice-invariant-items.ensures
    (slice_get_read c.as_slice-invariant-items.result.now _ c.loop-invariant.invariant-index c.invariant-item.result refl (omega arith) c.invariant-item.is))

pub and_hold-requires-clause-globals : goal.and_hold-requires-clause-globals
and_hold-requires-clause-globals c = sorts_stay _ _ _ _ c.loop-invariant.invariant.0 c.requires.globals

pub returns-in_err-all-2-clause-grows : goal.returns-in_err-all-2-clause-grows
returns-in_err-all-2-clause-grows c = grows_trans _ _ _ c.loop-invariant.invariant.0 c.in_err-all-2.ensures.grows

pub loop-invariant-preserved : goal.loop-invariant-preserved
loop-invariant-preserved c =
    let p = c.args.program.now in
    let o = c.args.terms.now in
    let gs = c.args.globals.now in
    let is = c.as_slice-invariant-items.result.now in
    let k = c.loop-invariant.invariant-index in
    let i = c.invariant-item.result in
    let s = c.args.step in
    elim c.if-invariant-step.branch [
      | then-invariant-step+in_ok-all-2 w ↦
          subst (λ (ns : List Node). HoldSo o p gs (of_step s (take (k + 1) is)) ns c.if-invariant-step.all) (sym w.terms-is)
          (subst (λ (j : ℕ). HoldSo o p gs (of_step s (take (k + 1) is)) w.and_hold.new.terms j) (sym w.all-is)
          (subst (λ (es : List Expr). HoldSo o p gs es w.and_hold.new.terms w.in_ok-all-2.all) (sym (step_more s is k i (omega arith) c.invariant-item.is (eq-eqb i.step s w.if-invariant-step.true)))
          (hold_more o c.loop-invariant.terms w.and_hold.new.terms p gs (of_step s (take k is)) i.expr c.loop-invariant.all w.in_ok-all-2.all c.loop-invariant.invariant
          w.in_ok-all-2.ensures.grows w.in_ok-all-2.ensures.sorted w.in_ok-all-2.ensures.test w.in_ok-all-2.ensures.weighs)))
      | else-invariant-step w ↦
          subst (λ (ns : List Node). HoldSo o p gs (of_step s (take (k + 1) is)) ns c.if-invariant-step.all) (sym w.terms-is)
          (subst (λ (j : ℕ). HoldSo o p gs (of_step s (take (k + 1) is)) c.loop-invariant.terms j) (sym w.all-is)
          (subst (λ (es : List Expr). HoldSo o p gs es c.loop-invariant.terms c.loop-invariant.all) (sym (step_same s is k i (omega arith) c.invariant-item.is (differs i.step s w.if-invariant-step.false))) c.loop-invariant.invariant))
    ]

pub returns-clause-tells : goal.returns-clause-tells
returns-clause-tells c = λ g s.
    let all = take_all c.loop-invariant.invariant-index c.as_slice-invariant-items.result.now (omega arith) ∙ c.as_slice-invariant-items.ensures in
    subst (λ (is : List Invariant). IsTest c.loop-invariant.terms c.loop-invariant.all (λ env. list_all (holds_of_globals c.args.program.now (g env)) (of_step c.args.step is))) all (c.loop-invariant.invariant.2 g s)
