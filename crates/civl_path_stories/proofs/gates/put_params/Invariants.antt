use Rattle.std.proofs.Common.{◌≡◌, ◌++◌, drop}
use Rattle.civl_verdicts.specs.reports.Values.{beside}
use Rattle.civl_path_stories.specs.Paths.{given_value}
use Rattle.civl_path_stories.proofs.gates.put_params.Given as goal

abbrev pub invariant-loop-at : goal.invariant-loop-at
invariant-loop-at l =
    l.out.items ++ beside (λ p. given_value p.name) (drop l.at l.params) (drop l.at l.values)
    ≡ l.initial.out.items ++ beside (λ p. given_value p.name) l.params l.values
