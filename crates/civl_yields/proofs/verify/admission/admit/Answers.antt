use Rattle.civl_linear.specs.LinearRules.{linear_rules}
use Rattle.civl_yields.specs.YieldRules.{yield_rules}
use Rattle.civl_yields.proofs.verify.Admitting.{cause_of_first, cause_of_second, first_cause}
use Rattle.civl_yields.proofs.verify.admission.admit.Goals as goal

pub returns-in-Err-clause-refused : goal.returns-in-Err-clause-refused
returns-in-Err-clause-refused c = cause_of_first linear_rules yield_rules c.args.src c.in-Err.refused c.in-Err.ensures.refused

pub returns-in-Err-clause-first : goal.returns-in-Err-clause-first
returns-in-Err-clause-first c = first_cause c.args.src c.in-Err.refused (cause_of_first linear_rules yield_rules c.args.src c.in-Err.refused c.in-Err.ensures.refused)

pub returns-in-Err-phases-clause-refused : goal.returns-in-Err-phases-clause-refused
returns-in-Err-phases-clause-refused c = cause_of_second linear_rules yield_rules c.args.src c.in-Err-phases.refused c.in-Ok.ensures.passed c.in-Err-phases.ensures.refused

pub returns-in-Err-phases-clause-first : goal.returns-in-Err-phases-clause-first
returns-in-Err-phases-clause-first c = first_cause c.args.src c.in-Err-phases.refused (cause_of_second linear_rules yield_rules c.args.src c.in-Err-phases.refused c.in-Ok.ensures.passed c.in-Err-phases.ensures.refused)
