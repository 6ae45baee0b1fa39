use Rattle.std.specs.Prelude.{not}
use Rattle.std.proofs.Common.{sym, subst}
use Rattle.civl_tree.specs.declared.expr.Sort.TheVariants.{Bool as Truth}
use Rattle.civl_conditions.specs.declared.condition.Part.{Part}
use Rattle.civl_states.specs.formula_parts.Said.{IsTest}
use Rattle.civl_states.proofs.formula_parts.Saying.{sort_stays, test_stays}
use Rattle.civl_refine.specs.Judging.{fails_before}
use Rattle.civl_refine.proofs.failures.kept_before.Goals as goal

pub returns-in-Gate-clause-test : goal.returns-in-Gate-clause-test
returns-in-Gate-clause-test c = λ o before.
    subst (λ (p : Part). IsTest c.constant.new.self c.args.walk.now.safe (λ env. not (fails_before (o env) p))) (sym c.in-Gate.is) (test_stays _ _ _ _ c.in_ok-yes.ensures.grows before.safe)

pub returns-in-Gate-clause-sorted : goal.returns-in-Gate-clause-sorted
returns-in-Gate-clause-sorted c = sort_stays _ _ _ Truth c.in_ok-yes.ensures.grows c.requires.safe

pub returns-in-Once-clause-test : goal.returns-in-Once-clause-test
returns-in-Once-clause-test c = λ o before.
    subst (λ (p : Part). IsTest c.constant.new.self c.args.walk.now.once (λ env. not (fails_before (o env) p))) (sym c.in-Once.is) (test_stays _ _ _ _ c.in_ok-yes.ensures.grows before.once)

pub returns-in-Once-clause-sorted : goal.returns-in-Once-clause-sorted
returns-in-Once-clause-sorted c = sort_stays _ _ _ Truth c.in_ok-yes.ensures.grows c.requires.once
