use Rattle.std.proofs.Common.{◌++◌, ◌+◌, ℕ, [], ◌∷◌, length-append, ap, ap₂, ◌∙◌, arith}
use Rattle.civl_tree.specs.Spelling.{semicolon, spell_expr}
use Rattle.civl_firing.specs.declared.scope.Scope.{Scope}
use Rattle.civl_firing.specs.Scope.{global_values}
use Rattle.civl_places.specs.Formulas.{placed}
use Rattle.civl_lines.specs.Pieces.{part_lines}
use Rattle.civl_goal_stories.specs.GoalStories.{hold_parts}
use Rattle.civl_goal_stories.proofs.Fitting.{hold_fits, hold_there, next_hold}
use Rattle.civl_goal_stories.proofs.Chained.{each_here, step}
use Rattle.civl_goal_stories.proofs.holds.push_invariant.Goals as goal

pub overflow_add-part : goal.overflow_add-part
overflow_add-part c =
    let i = c.loop-hold.hold-index in
    let hold = c.hold-item.result in
    let there = hold_there c.args.outline.now _ i hold c.as_slice-hold-items.ensures c.loop-hold-test.true c.hold-item.is in
    omega (arith, hold_fits c.args.outline.now i hold there, c.loop-hold.invariant.1, c.requires)

pub push_parts-requires : goal.push_parts-requires
push_parts-requires c =
    let i = c.loop-hold.hold-index in
    let hold = c.hold-item.result in
    let there = hold_there c.args.outline.now _ i hold c.as_slice-hold-items.ensures c.loop-hold-test.true c.hold-item.is in
    omega (
      arith,
      hold_fits c.args.outline.now i hold there,
      c.loop-hold.invariant.1,
      c.requires,
      length-append (spell_expr hold) (semicolon ∷ []),
    )

pub hold_count-at-requires : goal.hold_count-at-requires
hold_count-at-requires c =
    let i = c.loop-hold.hold-index in
    let hold = c.hold-item.result in
    let there = hold_there c.args.outline.now _ i hold c.as_slice-hold-items.ensures c.loop-hold-test.true c.hold-item.is in
    omega (arith, hold_fits c.args.outline.now i hold there, c.requires)

pub overflow_add-at : goal.overflow_add-at
overflow_add-at c =
    let i = c.loop-hold.hold-index in
    let hold = c.hold-item.result in
    let there = hold_there c.args.outline.now _ i hold c.as_slice-hold-items.ensures c.loop-hold-test.true c.hold-item.is in
    omega (arith, hold_fits c.args.outline.now i hold there, c.loop-hold.invariant.1, c.hold_count-at.ensures, c.requires)

pub loop-hold-preserved : goal.loop-hold-preserved
loop-hold-preserved c =
    let o = c.args.outline.now in
    let g = c.args.store.now in
    let items = c.as_slice-hold-items.result.now in
    let i = c.loop-hold.hold-index in
    let hold = c.hold-item.result in
    let there = hold_there o items i hold c.as_slice-hold-items.ensures c.loop-hold-test.true c.hold-item.is in
    let names = c.at_start-names.ensures ∙ ap (λ gs. global_values gs g) c.as_slice.ensures in
    let said = c.in_ok-push_parts.ensures
    ∙ ap₂ (λ (s : Scope) (n : ℕ). c.loop-hold.lines.items ++ part_lines s (placed (n + 1) hold)) names c.loop-hold.invariant.1 in
    let next = each_here (hold_parts o g) items i hold c.loop-hold-test.true c.hold-item.is in (
      step c.loop-hold.lines.items (hold_parts o g i hold) _ _ _ _ said next c.loop-hold.invariant.0,
      omega (arith, next_hold o i hold there, c.loop-hold.invariant.1, c.hold_count-at.ensures),
    )
