use Rattle.std.proofs.Common.{◌++◌, [], ◌∷◌, arith}
use Rattle.civl_conditions.specs.declared.condition.Target.TheVariants.{Invariant}
use Rattle.civl_conditions.specs.Steps.{each_at, step_invariants}
use Rattle.civl_conditions.proofs.Pushing.{one_pushed}
use Rattle.civl_conditions.proofs.listing.push_invariants.Goals as goal

pub loop-at-preserved : goal.loop-at-preserved
loop-at-preserved c =
    let own = step_invariants c.args.program.now c.args.step in
    one_pushed Invariant own c.loop-at.at (omega arith) c.loop-at.list c.push.new.self (c.args.list.now ++ each_at (λ i e. Invariant i ∷ []) 0 own) c.in_ok-push.ensures.ok c.loop-at.invariant
