use Rattle.civl_soundness.proofs.Progress.{answers_have_causes, causes_are_answered}
use Rattle.civl_soundness.proofs.laws.answers_have_causes.Goals as goal

pub returns-clause-cause : goal.returns-clause-cause
returns-clause-cause c = answers_have_causes

pub returns-clause-answered : goal.returns-clause-answered
returns-clause-answered c = causes_are_answered
