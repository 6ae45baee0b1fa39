use Rattle.std.proofs.Common.{drop}
use Rattle.civl_conditions.specs.footprints.Agreement.{AgreeOn, exists_at}
use Rattle.civl_followed.proofs.agreeing.agree.Given as goal

abbrev pub invariant-loop-at : goal.invariant-loop-at
invariant-loop-at l =
    (AgreeOn (exists_at l.layer) (drop l.at l.globals) (drop l.at l.before) (drop l.at l.after) → AgreeOn (exists_at l.layer) l.globals l.before l.after)
    × (AgreeOn (exists_at l.layer) l.globals l.before l.after → AgreeOn (exists_at l.layer) (drop l.at l.globals) (drop l.at l.before) (drop l.at l.after))
