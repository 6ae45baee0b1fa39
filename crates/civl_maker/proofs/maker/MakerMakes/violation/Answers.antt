use Rattle.std.proofs.Common.{subst}
use Rattle.civl_tree.specs.declared.program.Program.{Program}
use Rattle.civl_tree.specs.rules.Rules.{Keeps}
use Rattle.civl_tree.specs.rules.Typing.{typing_rules}
use Rattle.civl_states.proofs.formula_parts.Giving.{no_variables}
use Rattle.civl_maker.proofs.Making.{violation_made}
use Rattle.civl_maker.proofs.maker.MakerMakes.violation.Goals as goal

pub violation-requires-clause-variables : goal.violation-requires-clause-variables
violation-requires-clause-variables c = no_variables c.new-terms.result _ c.new-terms.ensures

pub returns : goal.returns
returns c =
    violation_made c.args.src.now c.args.condition.now c.new-terms.result _ (subst (λ (p : Program). Keeps typing_rules p) c.program-program.ensures.same c.program-program.ensures.keeps.rules) c.new-terms.ensures c.in_ok-sorts.ensures
    c.in_ok-id.ensures.says c.in_ok-id.ensures.weighs
