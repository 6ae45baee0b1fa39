use Rattle.std.proofs.Common.{refl, subst}
use Rattle.civl_verdicts.specs.Formulas.{violation_formula}
use Rattle.civl_verdicts.specs.decisions.Decided.{IsDecided}
use Rattle.civl_verdicts.proofs.judging.Verdicts.{violates}
use Rattle.civl_certify.proofs.certifying.left_open.Goals as goal

pub returns-in-At : goal.returns-in-At
returns-in-At g c = (refl, violates c.args.src.now c.args.budget c.args.condition.now _ (subst (IsDecided c.args.budget (violation_formula c.args.src.now c.args.condition.now)) c.in-At.is c.in_ok-values.ensures))

pub returns-in-Never : goal.returns-in-Never
returns-in-Never g c = (c.requires.spends, λ narrow. subst (IsDecided c.args.budget (violation_formula c.args.src.now c.args.condition.now)) c.in-Never.is c.in_ok-values.ensures)

pub returns-in-Spent : goal.returns-in-Spent
returns-in-Spent g c = (c.requires.spends, λ narrow. absurd (narrow (subst (IsDecided c.args.budget (violation_formula c.args.src.now c.args.condition.now)) c.in-Spent.is c.in_ok-values.ensures).0))
