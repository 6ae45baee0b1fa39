use Rattle.std.proofs.Common.{ap}
use Rattle.std.specs.Prelude.{◌||◌}
use Rattle.civl_states.proofs.formula_parts.Saying.{test_as}
use Rattle.civl_conditions.specs.paths.Ends.{is_rank_loop}
use Rattle.civl_refine.proofs.Assuming.{gate_yield}
use Rattle.civl_refine.proofs.gates.gate_or_done.Goals as goal

pub returns-in_ok-id-in-Yield-clause-test : goal.returns-in_ok-id-in-Yield-clause-test
returns-in_ok-id-in-Yield-clause-test c = λ o d g p q r e n.
    test_as _ _ (λ env. o env || g env) _ (λ env. gate_yield (o env) (d env) (g env) (n env (ap is_rank_loop c.in-Yield.is))) (c.in_ok-id-in-Yield.ensures.test o g p r)

pub returns-in_ok-id-in-YieldLoop-clause-test : goal.returns-in_ok-id-in-YieldLoop-clause-test
returns-in_ok-id-in-YieldLoop-clause-test c = λ o d g p q r e n.
    test_as _ _ (λ env. o env || g env) _ (λ env. gate_yield (o env) (d env) (g env) (n env (ap is_rank_loop c.in-YieldLoop.is))) (c.in_ok-id-in-YieldLoop.ensures.test o g p r)

pub returns-in_ok-id-in-RankLoop-clause-test : goal.returns-in_ok-id-in-RankLoop-clause-test
returns-in_ok-id-in-RankLoop-clause-test c = λ o d g p q r e n. c.in_ok-id-in-RankLoop.ensures.test o d g p q r
