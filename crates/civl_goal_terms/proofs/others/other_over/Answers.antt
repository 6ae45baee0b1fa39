use Rattle.std.specs.Prelude.{◌≡◌, ◌+◌, ◌-◌, ◌<◌, ◌≤◌, ◌^◌, length, List}
use Rattle.std.proofs.Common.{◌∙◌, sym, ap, subst, arith}
use Rattle.civl_tree.specs.declared.expr.Sort.{Sort}
use Rattle.civl_meaning.specs.Config.{frame_sorts}
use Rattle.civl_terms.proofs.Growing.{lengthens_trans, lengthened}
use Rattle.civl_states.specs.formula_parts.Given.{given, bits_of_sorts, AreVariablesOf}
use Rattle.civl_states.proofs.formula_parts.Giving.{variables_kept}
use Rattle.civl_states.proofs.formula_parts.Saying.{test_as}
use Rattle.civl_states.proofs.Limits.{AreSorts}
use Rattle.civl_states.proofs.Formulas.{formula_of}
use Rattle.civl_goals.specs.declared.goal.Goal.TheVariants as named
use Rattle.civl_goals.specs.Failed.{failed}
use Rattle.civl_goal_terms.specs.Formulas.{sorts_of}
use Rattle.civl_goal_terms.specs.inner.Given.{behind_chosen, here_from}
use Rattle.civl_goal_terms.proofs.Assuming.{can_says, says_after}
use Rattle.civl_goal_terms.proofs.OthersVariables.{sorted_all, counted_all, other_sorted, other_said, bits_all, limited_all, small_all, other_is, other_weighs}
use Rattle.civl_goal_terms.proofs.others.other_over.Goals as goal
use Rattle.civl_goal_terms.proofs.Standing.{note_some}

pub set-requires-clause-stand : goal.set-requires-clause-stand
set-requires-clause-stand c = (frame_sorts c.args.other.now.proc.now, c.requires.sorts ∙ sorted_all c.args.program.now c.args.at.now c.args.other.now c.requires.at c.requires.other)

pub set-requires-clause-small : goal.set-requires-clause-small
set-requires-clause-small c =
    subst (λ (ss : List Sort). length ss < 2 ^ 32) (sym c.requires.sorts) (small_all c.args.program.now c.args.at.now c.args.other.now c.requires.at c.requires.other c.requires.layered.rules)

pub set-requires-clause-limits : goal.set-requires-clause-limits
set-requires-clause-limits c = subst AreSorts (sym c.requires.sorts) (limited_all c.args.program.now c.args.at.now c.args.other.now c.requires.at c.requires.other c.requires.layered.rules)

pub overflow_cast-all : goal.overflow_cast-all
overflow_cast-all c =
    omega (arith, ap length c.requires.sorts, small_all c.args.program.now c.args.at.now c.args.other.now c.requires.at c.requires.other c.requires.layered.rules)

pub overflow_sub-first : goal.overflow_sub-first
overflow_sub-first c =
    omega (arith, counted_all c.args.program.now c.args.at.now c.args.other.now c.requires.at c.requires.other, ap length c.requires.sorts, c.frame_count-count.ensures)

pub variables-requires-clause-within : goal.variables-requires-clause-within
variables-requires-clause-within c =
    omega (arith, counted_all c.args.program.now c.args.at.now c.args.other.now c.requires.at c.requires.other, ap length c.requires.sorts, c.frame_count-count.ensures)

pub variables-requires-clause-small : goal.variables-requires-clause-small
variables-requires-clause-small c =
    omega (
      arith,
      counted_all c.args.program.now c.args.at.now c.args.other.now c.requires.at c.requires.other,
      ap length c.requires.sorts,
      c.frame_count-count.ensures,
      small_all c.args.program.now c.args.at.now c.args.other.now c.requires.at c.requires.other c.requires.layered.rules,
    )

pub variables-requires-clause-limits : goal.variables-requires-clause-limits
variables-requires-clause-limits c = subst AreSorts (sym c.requires.sorts) (limited_all c.args.program.now c.args.at.now c.args.other.now c.requires.at c.requires.other c.requires.layered.rules)

pub goal_beside-requires-clause-can : goal.goal_beside-requires-clause-can
goal_beside-requires-clause-can c =
    let p = c.args.program.now in
    let at = c.args.at.now in
    can_says c.variables.new.terms p at c.in_ok-setting.setting (here_from p at) (says_after c.set.new.terms c.variables.new.terms p at c.in_ok-setting.setting (here_from p at) c.in_ok-locals.ensures.lengthens c.in_ok-setting.ensures.says)

pub goal_beside-requires-clause-locals : goal.goal_beside-requires-clause-locals
goal_beside-requires-clause-locals c =
    let p = c.args.program.now in
    let at = c.args.at.now in
    let other = c.args.other.now in
    let is = c.requires.at in
    let there = c.requires.other in
    let first = length c.args.sorts.now - c.frame_count-count.result in
    let from : first ≡ behind_chosen p at = omega (arith, counted_all p at other is there, ap length c.requires.sorts, c.frame_count-count.ensures) in
    (other_said p at other is there c.args.sorts.now first c.frame_count-count.result c.requires.sorts from c.frame_count-count.ensures c.variables.new.terms c.in_ok-locals.locals c.in_ok-locals.ensures.said).sorted

pub returns-in_err-locals-clause-lengthens : goal.returns-in_err-locals-clause-lengthens
returns-in_err-locals-clause-lengthens c = lengthens_trans _ _ _ c.in_ok-setting.ensures.lengthens c.in_err-locals.ensures.lengthens

pub returns-in_err-id-clause-lengthens : goal.returns-in_err-id-clause-lengthens
returns-in_err-id-clause-lengthens c =
    lengthens_trans _ _ _ c.in_ok-setting.ensures.lengthens (lengthens_trans _ _ _ c.in_ok-locals.ensures.lengthens (lengthened _ _ c.in_err-id.ensures.grows))

pub returns-clause-lengthens : goal.returns-clause-lengthens
returns-clause-lengthens c =
    lengthens_trans _ _ _ c.in_ok-setting.ensures.lengthens (lengthens_trans _ _ _ c.in_ok-locals.ensures.lengthens (lengthened _ _ c.in_ok-id.ensures.grows))

pub returns-clause-says : goal.returns-clause-says
returns-clause-says c =
    let p = c.args.program.now in
    let o = c.args.outline.now in
    let at = c.args.at.now in
    let other = c.args.other.now in
    let n1 = c.set.new.terms in
    let n2 = c.variables.new.terms in
    let n3 = c.goal_beside.new.terms in
    let is = c.requires.at in
    let there = c.requires.other in
    let whole = sorts_of p (named.Other at.root at.number other.root other.number) in
    let many = counted_all p at other is there in
    let first = length c.args.sorts.now - c.frame_count-count.result in
    let from : first ≡ behind_chosen p at = omega (arith, many, ap length c.requires.sorts, c.frame_count-count.ensures) in
    let said = other_said p at other is there c.args.sorts.now first c.frame_count-count.result c.requires.sorts from c.frame_count-count.ensures n2 c.in_ok-locals.locals c.in_ok-locals.ensures.said in
    let enough : behind_chosen p at + length (frame_sorts other.proc.now) ≤ length whole = omega (arith, many) in
    formula_of n3 c.in_ok-id.id whole (failed p o (named.Other at.root at.number other.root other.number))
    (variables_kept n2 n3 whole c.in_ok-id.ensures.grows (subst (AreVariablesOf n2) c.requires.sorts c.in_ok-locals.ensures.variables))
    (test_as n3 c.in_ok-id.id _ _ (λ env. other_is p at other is there o env (length whole) enough)
    (c.in_ok-id.ensures.tells (here_from p at) (λ env. given env (behind_chosen p at) (length (frame_sorts other.proc.now))) (says_after n1 n2 p at c.in_ok-setting.setting (here_from p at) c.in_ok-locals.ensures.lengthens c.in_ok-setting.ensures.says) said))

pub returns-clause-weighs : goal.returns-clause-weighs
returns-clause-weighs c =
    let p = c.args.program.now in
    let o = c.args.outline.now in
    let at = c.args.at.now in
    let other = c.args.other.now in
    let is = c.requires.at in
    let there = c.requires.other in
    let first = length c.args.sorts.now - c.frame_count-count.result in
    let from : first ≡ behind_chosen p at = omega (arith, counted_all p at other is there, ap length c.requires.sorts, c.frame_count-count.ensures) in
    let behind = other_sorted p at other is there c.args.sorts.now first c.frame_count-count.result c.requires.sorts from c.frame_count-count.ensures in
    omega (
      arith,
      c.in_ok-setting.ensures.weighs,
      c.in_ok-locals.ensures.weighs,
      ap bits_of_sorts behind,
      c.in_ok-id.ensures.weighs,
      bits_all p at other is there,
      other_weighs p at other is there o c.args.held.now c.args.other_held.now c.requires.held c.requires.other_held,
      note_some p o at.root at.number,
      note_some p o other.root other.number,
    )
