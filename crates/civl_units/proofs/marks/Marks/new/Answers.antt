use Rattle.std.proofs.Common.{◌≡◌, replicate, rules}
use Rattle.std.specs.Prelude.{None}
use Rattle.civl_units.proofs.Trails.{trail_new}
use Rattle.civl_units.proofs.marks.Marks.new.Goals as goal

pub invariant_of-result : goal.invariant_of-result
invariant_of-result c =
    let is : c.in_ok-values.values.items ≡ replicate c.args.variables None = search rules in
    rw (is, c.new.ensures.items) (trail_new c.args.variables)
