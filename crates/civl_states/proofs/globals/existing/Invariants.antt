use Rattle.std.specs.Prelude.{◌≡◌, ◌++◌, drop}
use Rattle.civl_conditions.specs.footprints.Agreement.{exists_at}
use Rattle.civl_states.specs.Items.{picked}
use Rattle.civl_states.proofs.globals.existing.Given as goal

abbrev pub invariant-loop-at : goal.invariant-loop-at
invariant-loop-at l =
    l.kept.items ++ picked (exists_at l.fn.layer) (drop l.at l.globals) (drop l.at l.ids) ≡ picked (exists_at l.fn.layer) l.globals l.ids
