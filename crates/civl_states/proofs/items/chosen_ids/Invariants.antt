use Rattle.std.specs.Prelude.{◌≡◌, ◌++◌, drop}
use Rattle.civl_states.specs.Items.{picked, is_which}
use Rattle.civl_states.proofs.items.chosen_ids.Given as goal

abbrev pub invariant-loop-at : goal.invariant-loop-at
invariant-loop-at l = l.kept.items ++ picked (λ p. is_which l.which p.mode) (drop l.at l.params) (drop l.at l.ids) ≡ picked (λ p. is_which l.which p.mode) l.params l.ids
