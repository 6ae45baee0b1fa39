use Rattle.civl_goals.proofs.Misplacing.{hold_first, note_first}
use Rattle.civl_goals.proofs.rules.first_unfit.Goals as goal

pub returns-in-Some : goal.returns-in-Some
returns-in-Some c = hold_first c.program-program.result.now c.args.src.now c.program-program.ensures.same c.args.outline.now c.in-Some.number c.in-Some.ensures

pub returns-in_ok-found-in-None : goal.returns-in_ok-found-in-None
returns-in_ok-found-in-None c = note_first c.program-program.result.now c.args.src.now c.program-program.ensures.same c.args.outline.now c.in_ok-found-in-None.found c.in-None.ensures c.in_ok-found-in-None.ensures
