use Rattle.std.proofs.Common.{◌≡◌, ◌<◌, length, subst, sym, ap, List, Bool, get_or}
use Rattle.std.specs.Prelude.{Option, None}
use Rattle.civl_units.specs.Trail.{Marking}
use Rattle.civl_units.proofs.Trails.{trail_set}
use Rattle.civl_units.proofs.marks.Marks.set.Goals as goal

pub invariant_of-self-2 : goal.invariant_of-self-2
invariant_of-self-2 c =
    let is = ap (λ (m : Marking). m.values) c.self.view_is in
    let low = subst (λ (values : List (Option Bool)). c.args.lit.variable < length values) (sym is) c.requires.below in
    let free = subst (λ (values : List (Option Bool)). get_or values c.args.lit.variable None ≡ None) (sym is) c.requires.free in
    rw (c.in_ok-push.ensures.items, c.variable-2.ensures.is, c.variable.ensures.is) (trail_set _ _ c.args.lit.variable c.positive.result c.self.invariant low free)
