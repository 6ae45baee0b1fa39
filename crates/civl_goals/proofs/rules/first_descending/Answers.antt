use Rattle.civl_goals.proofs.Descending.{root_first, thread_first}
use Rattle.civl_goals.proofs.rules.first_descending.Goals as goal

pub returns-in-Some : goal.returns-in-Some
returns-in-Some c = root_first c.program-program.result.now c.args.src.now c.program-program.ensures.same c.in-Some.place c.in-Some.ensures

pub returns-in-None : goal.returns-in-None
returns-in-None c = thread_first c.program-program.result.now c.args.src.now c.program-program.ensures.same c.first_of_threads.result c.in-None.ensures c.first_of_threads.ensures
