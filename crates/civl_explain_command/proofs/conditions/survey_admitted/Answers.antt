use Rattle.std.proofs.Common.{sym, subst}
use Rattle.civl_tree.specs.declared.program.Program.{Program}
use Rattle.civl_tree.specs.rules.Rules.{Keeps}
use Rattle.civl_linear.specs.LinearRules.{linear_rules}
use Rattle.civl_yields.specs.YieldRules.{yield_rules}
use Rattle.civl_yields.proofs.verify.Admitting.{keeps_first}
use Rattle.civl_explain_command.proofs.conditions.survey_admitted.Goals as goal

pub survey-requires-clause-linear : goal.survey-requires-clause-linear
survey-requires-clause-linear g c = subst (λ (p : Program). Keeps linear_rules p) (sym c.source.ensures.same) (keeps_first linear_rules yield_rules c.args.admitted.now c.source.ensures.keeps)
