use Rattle.std.specs.Prelude.{length}
use Rattle.std.proofs.Common.{◌∙◌, ◌+◌, [], ap, subst, arith}
use Rattle.civl_conditions.specs.Weights.{lin, linear_globals}
use Rattle.civl_terms.proofs.Growing.{lengthens_trans, lengthened}
use Rattle.civl_states.specs.formula_parts.Given.{bits_of_sorts, AreVariablesOf}
use Rattle.civl_states.proofs.formula_parts.Giving.{variables_kept}
use Rattle.civl_states.proofs.formula_parts.Saying.{test_as}
use Rattle.civl_states.proofs.Formulas.{formula_of}
use Rattle.civl_goals.specs.Failed.{failed}
use Rattle.civl_goal_terms.specs.Formulas.{sorts_of}
use Rattle.civl_goal_terms.specs.inner.Given.{here_from}
use Rattle.civl_goal_terms.specs.inner.Fails.{fails_of}
use Rattle.civl_goal_terms.proofs.Standing.{step_there, goal_weighs, three_bits, whole_long, whole_few, whole_are, can_begin}
use Rattle.civl_goal_terms.proofs.Concluding.{own_sorts, own_failed, own_weighs}
use Rattle.civl_goal_terms.proofs.statements.goal_over.Goals as goal

pub set-requires-clause-stand : goal.set-requires-clause-stand
set-requires-clause-stand c = ([], c.requires.sorts ∙ own_sorts c.args.program.now c.args.at.now c.requires.at c.args.goal.now c.requires.own)

pub set-requires-clause-small : goal.set-requires-clause-small
set-requires-clause-small c =
    let p = c.args.program.now in
    let a = c.args.at.now in
    omega (arith, whole_few p c.requires.layered a c.requires.at c.args.sorts.now (c.requires.sorts ∙ own_sorts p a c.requires.at c.args.goal.now c.requires.own))

pub set-requires-clause-limits : goal.set-requires-clause-limits
set-requires-clause-limits c =
    let p = c.args.program.now in
    let a = c.args.at.now in
    whole_are p c.requires.layered a c.requires.at c.args.sorts.now (c.requires.sorts ∙ own_sorts p a c.requires.at c.args.goal.now c.requires.own)

pub goal_at-requires-clause-can : goal.goal_at-requires-clause-can
goal_at-requires-clause-can c = can_begin _ c.args.program.now c.args.at.now _ c.in_ok-setting.ensures.says

pub returns-in_err-id-clause-lengthens : goal.returns-in_err-id-clause-lengthens
returns-in_err-id-clause-lengthens c = lengthens_trans _ _ _ c.in_ok-setting.ensures.lengthens (lengthened _ _ c.in_err-id.ensures.grows)

pub returns-clause-lengthens : goal.returns-clause-lengthens
returns-clause-lengthens c = lengthens_trans _ _ _ c.in_ok-setting.ensures.lengthens (lengthened _ _ c.in_ok-id.ensures.grows)

pub returns-clause-says : goal.returns-clause-says
returns-clause-says c =
    let p = c.args.program.now in
    let a = c.args.at.now in
    let o = c.args.outline.now in
    let g = c.args.goal.now in
    let m = c.set.new.terms in
    let n = c.goal_at.new.terms in
    let ss = sorts_of p g in
    formula_of n c.in_ok-id.id ss (failed p o g) (variables_kept m n ss c.in_ok-id.ensures.grows (subst (AreVariablesOf m) c.requires.sorts c.in_ok-setting.ensures.variables))
    (test_as n c.in_ok-id.id _ _
    (λ env. step_there p a c.requires.at env (length ss) (omega (arith, whole_long p a (own_sorts p a c.requires.at g c.requires.own))) o (fails_of p o g) ∙ own_failed p a c.requires.at o g c.requires.own _)
    (c.in_ok-id.ensures.tells (here_from p a) c.in_ok-setting.ensures.says))

pub returns-clause-weighs : goal.returns-clause-weighs
returns-clause-weighs c =
    let p = c.args.program.now in
    let a = c.args.at.now in
    let g = c.args.goal.now in
    omega (
      arith,
      c.in_ok-setting.ensures.weighs,
      c.in_ok-id.ensures.weighs,
      ap (λ held. lin p (linear_globals p + length held)) c.requires.held,
      own_weighs p a c.requires.at c.args.outline.now g c.requires.own,
      goal_weighs p c.args.outline.now g,
      ap bits_of_sorts (own_sorts p a c.requires.at g c.requires.own),
      three_bits p a [],
    )
