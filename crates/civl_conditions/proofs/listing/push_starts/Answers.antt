use Rattle.std.proofs.Common.{◌++◌, arith}
use Rattle.civl_conditions.specs.declared.condition.Condition.TheVariants.{Start}
use Rattle.civl_conditions.specs.Steps.{step_invariants}
use Rattle.civl_conditions.specs.Listed.{starts}
use Rattle.civl_conditions.proofs.Pushing.{one_pushed}
use Rattle.civl_conditions.proofs.listing.push_starts.Goals as goal

pub loop-at-preserved : goal.loop-at-preserved
loop-at-preserved c =
    one_pushed (Start c.args.step) (step_invariants c.args.program.now c.args.step) c.loop-at.at (omega arith) c.loop-at.list c.push.new.self (c.args.list.now ++ starts c.args.program.now c.args.step)
    c.in_ok-push.ensures.ok c.loop-at.invariant
