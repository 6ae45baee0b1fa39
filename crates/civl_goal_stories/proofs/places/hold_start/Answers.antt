use Rattle.std.proofs.Common.{List, length, map, take, ap, arith}
use Rattle.civl_tree.specs.declared.expr.Expr.{Expr}
use Rattle.civl_tree.specs.Spelling.{joined}
use Rattle.civl_outlines.specs.SpellingOutline.{spell_hold}
use Rattle.civl_goal_stories.proofs.Fitting.{holds_fit}
use Rattle.civl_goal_stories.proofs.places.hold_start.Goals as goal

pub holds_count-requires : goal.holds_count-requires
holds_count-requires c =
    omega (
      arith,
      holds_fit c.args.outline.now c.args.number,
      ap (λ (xs : List Expr). length (joined (map spell_hold (take c.args.number xs)))) c.as_slice.ensures,
      c.requires.short,
    )

pub overflow_add-result : goal.overflow_add-result
overflow_add-result c =
    omega (
      arith,
      holds_fit c.args.outline.now c.args.number,
      ap (λ (xs : List Expr). length (joined (map spell_hold (take c.args.number xs)))) c.as_slice.ensures,
      c.requires.short,
    )
