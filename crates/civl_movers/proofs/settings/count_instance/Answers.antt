use Rattle.std.proofs.Common.{arith}
use Rattle.civl_states.proofs.Limits.{action_few}
use Rattle.civl_movers.proofs.settings.count_instance.Goals as goal

pub overflow_add-result : goal.overflow_add-result
overflow_add-result c = omega (arith, c.len.ensures, c.len-2.ensures, action_few c.args.program.now c.requires.rules c.args.action c.get-found.result.now c.get-found.ensures)

pub overflow_cast-result : goal.overflow_cast-result
overflow_cast-result c = omega (arith, c.len.ensures, c.len-2.ensures, action_few c.args.program.now c.requires.rules c.args.action c.get-found.result.now c.get-found.ensures)
