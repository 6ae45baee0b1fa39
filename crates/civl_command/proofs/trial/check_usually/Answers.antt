use Rattle.std.proofs.Common.{rules}
use Rattle.civl_words.specs.Words.{usual_budget}
use Rattle.civl_command.specs.declared.task.Task.TheVariants.{Check}
use Rattle.civl_command.proofs.Judging.{called_in, long_in}
use Rattle.civl_command.proofs.trial.check_usually.Goals as goal

pub returns-then-bytes-gt-LIMIT : goal.returns-then-bytes-gt-LIMIT
returns-then-bytes-gt-LIMIT g c = long_in (Check usual_budget) c.args.bytes.now c.too_long.result (search rules) c.too_long.ensures

pub returns : goal.returns
returns g c = called_in (Check usual_budget) c.args.bytes.now c.check_text.result c.check_text.ensures
