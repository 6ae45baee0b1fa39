use Rattle.std.proofs.Common.{arith, inl, inr}
use Rattle.std.proofs.lemmas.Bool.{both_ways}
use Rattle.civl_propagation.proofs.Choosing.{two_stay, better_by}
use Rattle.civl_propagation.proofs.choice.better.Goals as goal

pub returns-then-next-second : goal.returns-then-next-second
returns-then-next-second c t seen ranked says = two_stay t seen c.args.first c.args.second c.args.next (inr (omega (arith, c.if-next-second.true))) ranked says

pub returns-then-is_same : goal.returns-then-is_same
returns-then-is_same c t seen ranked says = two_stay t seen c.args.first c.args.second c.args.next (inl (c.is_same.ensures.0 c.if-is_same.true)) ranked says

pub returns : goal.returns
returns c t seen ranked says =
    better_by t seen c.args.first c.args.second c.args.next c.ordered.result ranked (λ e. both_ways c.is_same.result c.if-is_same.false (c.is_same.ensures.1 e)) (omega (arith, c.if-next-second.false)) c.ordered.ensures says
