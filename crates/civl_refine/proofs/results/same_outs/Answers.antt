use Rattle.std.specs.Prelude.{List, ℕ}
use Rattle.std.proofs.Common.{◌∙◌, sym, ap, ap₂, subst, arith}
use Rattle.civl_tree.specs.rules.Uses.{param_sorts}
use Rattle.civl_actions.specs.Scopes.{AreOf}
use Rattle.civl_actions.specs.Actions.{values_at}
use Rattle.civl_conditions.specs.Values.{same_values}
use Rattle.civl_states.proofs.formula_parts.Saying.{test_where}
use Rattle.civl_states.proofs.Choosing.{same_weighs}
use Rattle.civl_refine.proofs.Judging.{outs_sorted, outs_said, outs_within}
use Rattle.civl_refine.proofs.results.same_outs.Goals as goal

pub out_ids-requires : goal.out_ids-requires
out_ids-requires c = outs_within c.args.terms.now c.args.proc.now c.args.locals.now c.requires.locals

pub all_same-requires : goal.all_same-requires
all_same-requires c =
    let o = c.args.terms.now in
    let q = c.args.proc.now in record {
      sorts = param_sorts q.outs;
      first = subst (λ (xs : List ℕ). AreOf o xs (param_sorts q.outs)) (sym (c.as_slice.ensures ∙ c.in_ok-here.ensures)) (outs_sorted o q c.args.locals.now c.requires.locals);
      second = subst (λ (xs : List ℕ). AreOf o xs (param_sorts q.outs)) (sym c.as_slice-2.ensures) c.requires.outs;
    }

pub returns-clause-test : goal.returns-clause-test
returns-clause-test c = λ v w s t.
    let o = c.args.terms.now in
    let q = c.args.proc.now in
    test_where _ _ _ _ (λ env fits.
    let before = c.in_ok-id.ensures.grows.fits env fits in
    ap₂ same_values (ap (values_at env o) (c.as_slice.ensures ∙ c.in_ok-here.ensures) ∙ (outs_said o q c.args.locals.now v s).are env before) (ap (values_at env o) c.as_slice-2.ensures ∙ t.are env before)) c.in_ok-id.ensures.test

pub returns-clause-weighs : goal.returns-clause-weighs
returns-clause-weighs c =
    let o = c.args.terms.now in
    let q = c.args.proc.now in
    let w = same_weighs o c.as_slice.result.now (param_sorts q.outs) (subst (λ (xs : List ℕ). AreOf o xs (param_sorts q.outs)) (sym (c.as_slice.ensures ∙ c.in_ok-here.ensures)) (outs_sorted o q c.args.locals.now c.requires.locals)) in
    omega (arith, c.in_ok-id.ensures.weighs, w)
