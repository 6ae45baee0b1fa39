use Rattle.std.proofs.Common.{◌∙◌}
use Rattle.civl_explain_command.proofs.run.judge_script.Goals as goal

pub judge_lawful-requires-clause-source : goal.judge_lawful-requires-clause-source
judge_lawful-requires-clause-source c = c.source.ensures.same ∙ c.in-Ok.ensures.same
