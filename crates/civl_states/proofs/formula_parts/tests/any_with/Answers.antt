use Rattle.std.proofs.Common.{List, ℕ, take, sym, subst, arith}
use Rattle.std.specs.Prelude.{slice_index_or}
use Rattle.std.proofs.lemmas.List.{take_more, take_all}
use Rattle.civl_tree.specs.declared.expr.Sort.TheVariants.{Bool as Truth}
use Rattle.civl_terms.proofs.Growing.{grows_trans, grows_same}
use Rattle.civl_states.specs.formula_parts.Said.{AreTests}
use Rattle.civl_states.proofs.formula_parts.Saying.{sort_stays, any_step, any_begins}
use Rattle.civl_states.proofs.formula_parts.tests.any_with.Goals as goal

pub either-requires-clause-b : goal.either-requires-clause-b
either-requires-clause-b c = sort_stays c.args.terms.now c.loop-test.terms _ Truth c.loop-test.invariant.0 (c.requires.tests c.loop-test.test-index 0 (omega arith))

pub loop-test-init : goal.loop-test-init
loop-test-init c = (grows_same c.args.terms.now, c.requires.first, omega arith, λ f fs h hs. any_begins c.args.terms.now c.args.first f fs h hs)

pub loop-test-preserved : goal.loop-test-preserved
loop-test-preserved c = (
  grows_trans _ _ _ c.loop-test.invariant.0 c.in_ok-id.ensures.grows,
  c.in_ok-id.ensures.sorted,
  omega (arith, c.loop-test.invariant.2, c.in_ok-id.ensures.weighs),
  λ f fs h hs.
      let more = take_more c.args.tests.now c.loop-test.test-index 0 (omega arith) in
      any_step c.args.terms.now c.loop-test.terms c.either.new.terms c.args.first c.loop-test.id c.in_ok-id.id (slice_index_or c.args.tests.now c.loop-test.test-index 0) (take c.loop-test.test-index c.args.tests.now) c.loop-test.invariant.3 c.loop-test.invariant.0
      c.in_ok-id.ensures.test f fs h (subst (λ (xs : List ℕ). AreTests c.args.terms.now xs fs) more hs),
)

pub returns-clause-test : goal.returns-clause-test
returns-clause-test c = λ f fs h hs. c.loop-test.invariant.3 f fs h (subst (λ (xs : List ℕ). AreTests c.args.terms.now xs fs) (sym (take_all c.loop-test.test-index c.args.tests.now (omega arith))) hs)
