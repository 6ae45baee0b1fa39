use Rattle.std.proofs.Common.{◌≡◌, ◌++◌, List, ℕ, drop, map, flat_map}
use Rattle.std.specs.Prelude.{codes}
use Rattle.civl_verdicts.specs.models.Text.{value_text, listed}
use Rattle.civl_lift_command.proofs.report.put_choices.Given as goal

abbrev pub invariant-loop-at : goal.invariant-loop-at
invariant-loop-at l = l.out.items ++ flat_map (λ (text : List ℕ). codes ", " ++ text) (map value_text (drop l.at l.values)) ≡ l.fn.out.items ++ listed (map value_text l.values)
