use Rattle.std.specs.Prelude.{◌≡◌, ◌++◌, drop}
use Rattle.civl_states.specs.Items.{picked}
use Rattle.civl_states.proofs.items.linear_ids.Given as goal

abbrev pub invariant-loop-at : goal.invariant-loop-at
invariant-loop-at l = l.kept.items ++ picked (λ g. g.linear) (drop l.at l.globals) (drop l.at l.ids) ≡ picked (λ g. g.linear) l.globals l.ids
