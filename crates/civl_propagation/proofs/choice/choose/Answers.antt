use Rattle.civl_propagation.proofs.Choosing.{free_best, single_none, single_one}
use Rattle.civl_propagation.proofs.choice.choose.Goals as goal

pub returns-in-Some : goal.returns-in-Some
returns-in-Some c = free_best c.args.trail.now c.requires.standing.0 c.args.clause.now c.in-Some.pair c.requires.standing.1 c.in-Some.ensures

pub returns-in-One : goal.returns-in-One
returns-in-One c = single_one c.args.trail.now c.args.clause.now c.in-One.field-0 c.in-One.ensures

pub returns-in-Nothing : goal.returns-in-Nothing
returns-in-Nothing c = single_none c.args.trail.now c.args.clause.now c.in-Nothing.ensures
