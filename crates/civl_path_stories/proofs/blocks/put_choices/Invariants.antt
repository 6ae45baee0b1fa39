use Rattle.std.proofs.Common.{◌≡◌, ◌++◌, drop}
use Rattle.civl_verdicts.specs.reports.Values.{beside}
use Rattle.civl_path_stories.specs.Paths.{given_value}
use Rattle.civl_path_stories.proofs.blocks.put_choices.Given as goal

abbrev pub invariant-loop-at : goal.invariant-loop-at
invariant-loop-at l =
    l.out.items ++ beside (λ c. given_value c.name) (drop l.at l.choices) (drop l.at l.values)
    ≡ l.initial.out.items ++ beside (λ c. given_value c.name) l.choices l.values
