use Rattle.std.proofs.Common.{◌≡◌, drop}
use Rattle.civl_tree.specs.rules.Uses.{param_sorts}
use Rattle.civl_subjects.specs.Places.{results_sort}
use Rattle.civl_subjects.proofs.statements.results_sort.Given as goal

abbrev pub invariant-loop-at : goal.invariant-loop-at
invariant-loop-at l =
    results_sort l.proc (drop l.at l.results) (param_sorts (drop l.at l.outs)) ≡ results_sort l.fn.proc l.fn.results (param_sorts l.fn.outs)
