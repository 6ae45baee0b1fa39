use Rattle.std.proofs.Common.{arith}
use Rattle.civl_conditions.specs.paths.Seen.{exists_near}
use Rattle.civl_states.proofs.Laying.{few_pass}
use Rattle.civl_states.proofs.beginning_places.near_count.Goals as goal

pub overflow_cast-result : goal.overflow_cast-result
overflow_cast-result c = omega (arith, c.existing_count.ensures, few_pass (exists_near c.args.step) c.args.program.now.globals, c.requires)

pub returns-clause-most : goal.returns-clause-most
returns-clause-most c = omega (arith, c.existing_count.ensures, few_pass (exists_near c.args.step) c.args.program.now.globals, c.requires)
