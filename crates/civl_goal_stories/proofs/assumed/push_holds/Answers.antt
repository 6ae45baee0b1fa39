use Rattle.std.proofs.Common.{◌++◌, ◌+◌, ◌∷◌, ℕ, [], ap, ◌∙◌, arith}
use Rattle.std.specs.Prelude.{codes}
use Rattle.civl_lines.specs.declared.line.Shown.TheVariants.{Head}
use Rattle.civl_path_stories.specs.Paths.{info}
use Rattle.civl_goal_stories.specs.Assumed.{hold_line}
use Rattle.civl_goal_stories.proofs.Fitting.{hold_fits, hold_there, next_hold}
use Rattle.civl_goal_stories.proofs.Chained.{each_here, step}
use Rattle.civl_goal_stories.proofs.assumed.push_holds.Goals as goal

pub hold_count-at-requires : goal.hold_count-at-requires
hold_count-at-requires c =
    let i = c.loop-hold.hold-index in
    let hold = c.hold-item.result in
    let there = hold_there c.args.outline.now _ i hold c.as_slice-hold-items.ensures c.loop-hold-test.true c.hold-item.is in
    omega (arith, hold_fits c.args.outline.now i hold there, c.requires)

pub overflow_add-at : goal.overflow_add-at
overflow_add-at c =
    let i = c.loop-hold.hold-index in
    let hold = c.hold-item.result in
    let there = hold_there c.args.outline.now _ i hold c.as_slice-hold-items.ensures c.loop-hold-test.true c.hold-item.is in
    omega (arith, hold_fits c.args.outline.now i hold there, c.loop-hold.invariant.1, c.hold_count-at.ensures, c.requires)

pub loop-hold-preserved : goal.loop-hold-preserved
loop-hold-preserved c =
    let o = c.args.outline.now in
    let items = c.as_slice-hold-items.result.now in
    let i = c.loop-hold.hold-index in
    let hold = c.hold-item.result in
    let there = hold_there o items i hold c.as_slice-hold-items.ensures c.loop-hold-test.true c.hold-item.is in
    let said = c.in_ok-push_info.ensures
    ∙ ap (λ (n : ℕ). c.loop-hold.lines.items ++ info n Head (codes "is assumed") ∷ []) c.loop-hold.invariant.1 in
    let next = each_here (hold_line o) items i hold c.loop-hold-test.true c.hold-item.is in (
      step c.loop-hold.lines.items (hold_line o i hold) _ _ _ _ said next c.loop-hold.invariant.0,
      omega (arith, next_hold o i hold there, c.loop-hold.invariant.1, c.hold_count-at.ensures),
    )
