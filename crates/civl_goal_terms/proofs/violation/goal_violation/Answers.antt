use Rattle.std.proofs.Common.{sym, subst}
use Rattle.civl_tree.specs.declared.program.Program.{Program}
use Rattle.civl_goals.specs.declared.goal.Goal.TheVariants as kind
use Rattle.civl_goal_terms.specs.inner.There.{IsThere}
use Rattle.civl_goal_terms.proofs.Listing.{listed_there}
use Rattle.civl_goal_terms.proofs.Outlining.{outlined_there, outlined_here}
use Rattle.civl_goal_terms.proofs.violation.goal_violation.Goals as goal

pub invariant_fails-requires-clause-outlined : goal.invariant_fails-requires-clause-outlined
invariant_fails-requires-clause-outlined c = outlined_here c.program-program.result.now c.args.src.now c.program-program.ensures.same c.program-program.ensures.keeps c.args.outline.now c.requires.fits

pub thread_begins_astray-requires-clause-outlined : goal.thread_begins_astray-requires-clause-outlined
thread_begins_astray-requires-clause-outlined c = outlined_here c.program-program.result.now c.args.src.now c.program-program.ensures.same c.program-program.ensures.keeps c.args.outline.now c.requires.fits

pub thread_begins_astray-requires-clause-number : goal.thread_begins_astray-requires-clause-number
thread_begins_astray-requires-clause-number c = subst (λ (p : Program). IsThere p (kind.Thread c.in-Thread.number)) (sym c.program-program.ensures.same) (subst (IsThere c.args.src.now) c.in-Thread.is (listed_there c.args.src.now c.args.outline.now c.args.goal.now c.requires.listed))

pub linear_fails-requires-clause-there : goal.linear_fails-requires-clause-there
linear_fails-requires-clause-there c = subst (IsThere c.args.src.now) c.in-Linear.is (listed_there c.args.src.now c.args.outline.now c.args.goal.now c.requires.listed)

pub statement_fails-requires-clause-outlined : goal.statement_fails-requires-clause-outlined
statement_fails-requires-clause-outlined c = outlined_there c.program-program.result.now c.args.src.now c.program-program.ensures.same c.program-program.ensures.keeps c.args.outline.now c.requires.fits

pub statement_fails-requires-clause-there : goal.statement_fails-requires-clause-there
statement_fails-requires-clause-there c = listed_there c.args.src.now c.args.outline.now c.args.goal.now c.requires.listed

pub statement_fails-requires-in-Keep-clause-outlined : goal.statement_fails-requires-in-Keep-clause-outlined
statement_fails-requires-in-Keep-clause-outlined c = outlined_there c.program-program.result.now c.args.src.now c.program-program.ensures.same c.program-program.ensures.keeps c.args.outline.now c.requires.fits

pub statement_fails-requires-in-Keep-clause-there : goal.statement_fails-requires-in-Keep-clause-there
statement_fails-requires-in-Keep-clause-there c = listed_there c.args.src.now c.args.outline.now c.args.goal.now c.requires.listed

pub statement_fails-requires-in-Spawn-clause-outlined : goal.statement_fails-requires-in-Spawn-clause-outlined
statement_fails-requires-in-Spawn-clause-outlined c = outlined_there c.program-program.result.now c.args.src.now c.program-program.ensures.same c.program-program.ensures.keeps c.args.outline.now c.requires.fits

pub statement_fails-requires-in-Spawn-clause-there : goal.statement_fails-requires-in-Spawn-clause-there
statement_fails-requires-in-Spawn-clause-there c = listed_there c.args.src.now c.args.outline.now c.args.goal.now c.requires.listed

pub statement_fails-requires-in-Next-clause-outlined : goal.statement_fails-requires-in-Next-clause-outlined
statement_fails-requires-in-Next-clause-outlined c = outlined_there c.program-program.result.now c.args.src.now c.program-program.ensures.same c.program-program.ensures.keeps c.args.outline.now c.requires.fits

pub statement_fails-requires-in-Next-clause-there : goal.statement_fails-requires-in-Next-clause-there
statement_fails-requires-in-Next-clause-there c = listed_there c.args.src.now c.args.outline.now c.args.goal.now c.requires.listed

pub other_fails-requires-clause-outlined : goal.other_fails-requires-clause-outlined
other_fails-requires-clause-outlined c = outlined_there c.program-program.result.now c.args.src.now c.program-program.ensures.same c.program-program.ensures.keeps c.args.outline.now c.requires.fits

pub other_fails-requires-clause-there : goal.other_fails-requires-clause-there
other_fails-requires-clause-there c = subst (IsThere c.args.src.now) c.in-Other.is (listed_there c.args.src.now c.args.outline.now c.args.goal.now c.requires.listed)
