use Rattle.std.proofs.Common.{◌≡◌, List, length, refl, subst, arith, Some}
use Rattle.std.specs.Prelude.{slice_get}
use Rattle.std.proofs.lemmas.Option.{slice_get_read}
use Rattle.civl_tree.specs.declared.expr.Expr.{Expr}
use Rattle.civl_goal_stories.proofs.Fitting.{hold_fits}
use Rattle.civl_goal_stories.proofs.places.hold_at.Goals as goal

pub overflow_add-result : goal.overflow_add-result
overflow_add-result c =
    let xs = c.as_slice.result.now in
    let hold = c.in-Some.hold.now in
    let found : slice_get c.args.outline.now.holds c.args.number ≡ Some hold =
    subst (λ (ys : List Expr). slice_get ys c.args.number ≡ Some hold) c.as_slice.ensures
    (slice_get_read xs (length xs) c.args.number hold refl c.in-Some.ensures.lookup.3.0 c.in-Some.ensures.lookup.1) in
    omega (arith, hold_fits c.args.outline.now c.args.number hold found, c.requires)
