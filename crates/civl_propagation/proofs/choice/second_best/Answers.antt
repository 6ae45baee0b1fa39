use Rattle.std.proofs.lemmas.Bool.{both_ways}
use Rattle.civl_propagation.proofs.Choosing.{same_best, second_by}
use Rattle.civl_propagation.proofs.choice.second_best.Goals as goal

pub returns-then-is_same : goal.returns-then-is_same
returns-then-is_same c t seen ranked says = same_best t seen c.args.first c.args.next (c.is_same.ensures.0 c.if-is_same.true) says

pub returns-else-is_same : goal.returns-else-is_same
returns-else-is_same c t seen ranked says =
    second_by t seen c.args.first c.args.next c.ordered.result ranked (λ e. both_ways c.is_same.result c.if-is_same.false (c.is_same.ensures.1 e)) c.ordered.ensures says
