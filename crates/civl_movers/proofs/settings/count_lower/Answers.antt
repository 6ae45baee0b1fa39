use Rattle.std.proofs.Common.{arith}
use Rattle.civl_states.proofs.Variables.{existing_few}
use Rattle.civl_movers.proofs.settings.count_lower.Goals as goal

pub overflow_cast-result : goal.overflow_cast-result
overflow_cast-result c = omega (arith, c.existing_count.ensures, existing_few c.args.program.now c.requires c.lower.result)
