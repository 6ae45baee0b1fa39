use Rattle.std.proofs.Common.{◌≡◌, ◌∙◌, [], ap, length, rules}
use Rattle.std.proofs.Math.ListN.{length-set}
use Rattle.civl_units.specs.Trail.{Marking}
use Rattle.civl_units.proofs.Trails.{trail_pop, trail_covers, covers_none}
use Rattle.civl_units.proofs.marks.Marks.clear.Goals as goal

pub loop-variable-init : goal.loop-variable-init
loop-variable-init c = record { size = ap (λ (m : Marking). length m.values) c.self.view_is; trail = trail_covers _ _ c.self.invariant }

pub loop-variable-preserved : goal.loop-variable-preserved
loop-variable-preserved c = record {
  size = length-set _ _ _ ∙ c.loop-variable.invariant.size;
  trail = trail_pop _ _ _ _ c.loop-variable.invariant.trail c.in-Some.ensures.items;
}

pub invariant_of-self : goal.invariant_of-self
invariant_of-self c =
    let none : c.pop.new.self.items ≡ [] = search rules in
    covers_none _ _ _ c.loop-variable.invariant.trail c.in_default.ensures.items none
