use Rattle.std.proofs.Common.{◌∙◌, not, arith}
use Rattle.std.proofs.Math.Bool.{not-not}
use Rattle.civl_terms.proofs.Growing.{grows_trans}
use Rattle.civl_states.proofs.formula_parts.Saying.{test_as}
use Rattle.civl_goal_terms.specs.inner.Steps.{swept_by}
use Rattle.civl_goal_terms.proofs.Leading.{unsafe_is}
use Rattle.civl_goal_terms.proofs.failing.unsafe_at.Goals as goal

pub negated-requires : goal.negated-requires
negated-requires c = c.in_ok-sweep.ensures.can.safe.sorted

pub returns-in_err-id-clause-grows : goal.returns-in_err-id-clause-grows
returns-in_err-id-clause-grows c = grows_trans _ _ _ c.in_ok-sweep.ensures.grows c.in_err-id.ensures.grows

pub returns-clause-grows : goal.returns-clause-grows
returns-clause-grows c = grows_trans _ _ _ c.in_ok-sweep.ensures.grows c.in_ok-id.ensures.grows

pub returns-clause-weighs : goal.returns-clause-weighs
returns-clause-weighs c = omega (arith, c.in_ok-sweep.ensures.weighs, c.in_ok-id.ensures.weighs)

pub returns-clause-tells : goal.returns-clause-tells
returns-clause-tells c = λ h s.
    let p = c.args.program.now in
    let a = c.args.at.now in
    test_as _ _ _ _ (λ env. not-not (swept_by p a (h env)).broken ∙ unsafe_is p a c.requires.at (h env))
    (c.in_ok-id.ensures.test (λ env. not (swept_by p a (h env)).broken) (c.in_ok-sweep.ensures.says h s).safe)
