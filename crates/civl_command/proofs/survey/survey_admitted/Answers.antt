use Rattle.std.proofs.Common.{sym, subst}
use Rattle.civl_tree.specs.declared.program.Program.{Program}
use Rattle.civl_tree.specs.rules.Rules.{Keeps}
use Rattle.civl_linear.specs.LinearRules.{linear_rules}
use Rattle.civl_yields.specs.YieldRules.{yield_rules}
use Rattle.civl_yields.proofs.verify.Admitting.{keeps_first}
use Rattle.civl_frontend.proofs.Telling.{of_one}
use Rattle.civl_command.specs.Outcome.{Heavy, Surveyed, Surveys, telling}
use Rattle.civl_command.proofs.Deciding.{surveyed_of, heavy_of}
use Rattle.civl_command.proofs.survey.survey_admitted.Goals as goal

pub survey-requires-clause-linear : goal.survey-requires-clause-linear
survey-requires-clause-linear g c = subst (λ (p : Program). Keeps linear_rules p) (sym c.source-src.ensures.same) (keeps_first linear_rules yield_rules c.args.admitted.now c.source-src.ensures.keeps)

pub returns-in-Ok : goal.returns-in-Ok
returns-in-Ok g c =
    of_one telling _ _ (Surveys c.args.budget c.args.admitted.now) (Surveyed c.source-src.result.now c.args.budget c.in-Ok.found)
    (surveyed_of c.args.admitted.now c.source-src.result.now c.args.budget c.source-src.ensures.same c.requires.rules c.in-Ok.found c.in-Ok.ensures.light c.in-Ok.ensures.survey) c.surveyed.ensures

pub returns-in-Err-Weight : goal.returns-in-Err-Weight
returns-in-Err-Weight g c =
    of_one telling _ _ (Surveys c.args.budget c.args.admitted.now) (Heavy c.source-src.result.now c.in-Err-Weight.formula)
    (heavy_of c.args.admitted.now c.source-src.result.now c.args.budget c.source-src.ensures.same c.requires.rules c.in-Err-Weight.formula (rw c.in-Err-Weight.field-0-is at c.in-Err-Weight.ensures.heavy)) c.too_heavy.ensures
