use Rattle.std.proofs.Common.{arith}
use Rattle.civl_meaning.proofs.Bindings.{frame_length}
use Rattle.civl_states.proofs.Limits.{proc_few}
use Rattle.civl_goal_terms.proofs.statements.frame_count.Goals as goal

pub overflow_add-result : goal.overflow_add-result
overflow_add-result c = omega (arith, c.len.ensures, c.len-2.ensures, proc_few c.args.program.now c.requires.rules c.args.number c.args.proc.now c.requires.proc)

pub overflow_add-result-2 : goal.overflow_add-result-2
overflow_add-result-2 c = omega (arith, c.len.ensures, c.len-2.ensures, c.len-3.ensures, proc_few c.args.program.now c.requires.rules c.args.number c.args.proc.now c.requires.proc)

pub overflow_cast-result : goal.overflow_cast-result
overflow_cast-result c = omega (arith, c.len.ensures, c.len-2.ensures, c.len-3.ensures, proc_few c.args.program.now c.requires.rules c.args.number c.args.proc.now c.requires.proc)

pub returns : goal.returns
returns c = omega (arith, c.len.ensures, c.len-2.ensures, c.len-3.ensures, frame_length c.args.proc.now)
