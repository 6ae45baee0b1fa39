use Rattle.std.proofs.Common.{◌≡◌, drop}
use Rattle.civl_tree.specs.rules.Uses.{param_sorts}
use Rattle.civl_tree.specs.rules.Sorted.{results_missorted}
use Rattle.civl_types.proofs.arity.results_missorted.Given as goal

abbrev pub invariant-loop-at : goal.invariant-loop-at
invariant-loop-at l =
    results_missorted l.proc (drop l.at l.results) (param_sorts (drop l.at l.outs))
    ≡ results_missorted l.fn.proc l.fn.results (param_sorts l.fn.outs)
