use Rattle.std.proofs.Common.{arith}
use Rattle.civl_explain_command.proofs.Sizes.{parts_within}
use Rattle.civl_explain_command.proofs.run.at_move.Goals as goal

pub overflow_add-len : goal.overflow_add-len
overflow_add-len c = omega (arith, parts_within c.args.script.now, c.len.ensures, c.requires.short, c.requires.there)
