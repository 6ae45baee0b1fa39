use Rattle.std.proofs.Common.{subst}
use Rattle.civl_tree.specs.declared.program.Program.{Program}
use Rattle.civl_tree.specs.rules.Rules.{Keeps}
use Rattle.civl_tree.specs.rules.Typing.{typing_rules}
use Rattle.civl_states.proofs.formula_parts.Giving.{no_variables}
use Rattle.civl_prove.proofs.Limits.{goal_made}
use Rattle.civl_prove.proofs.making.make.Goals as goal

pub goal_violation-requires-clause-variables : goal.goal_violation-requires-clause-variables
goal_violation-requires-clause-variables c = no_variables c.new-terms.result _ c.new-terms.ensures

pub returns : goal.returns
returns c =
    goal_made c.args.src.now c.args.outline.now c.args.goal.now c.new-terms.result _ (subst (λ (p : Program). Keeps typing_rules p) c.program-program.ensures.same c.program-program.ensures.keeps.rules) c.new-terms.ensures c.in_ok-sorts.ensures
    c.in_ok-id.ensures.says c.in_ok-id.ensures.weighs
