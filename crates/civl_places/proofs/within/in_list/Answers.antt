use Rattle.std.proofs.Common.{List, length, ap, arith}
use Rattle.civl_tree.specs.declared.expr.Expr.{Expr}
use Rattle.civl_tree.specs.Spelling.{enclosed, spell_expr}
use Rattle.civl_places.proofs.Listing.{before_fits}
use Rattle.civl_places.proofs.Expressions.{past_none}
use Rattle.civl_places.proofs.within.in_list.Goals as goal

pub overflow_add-result : goal.overflow_add-result
overflow_add-result c =
    omega (
      arith,
      before_fits spell_expr c.as_slice.result.now c.args.number (omega (arith, ap length c.as_slice.ensures)),
      ap (λ (l : List Expr). length (enclosed spell_expr l)) c.as_slice.ensures,
    )

pub returns-else-number-len : goal.returns-else-number-len
returns-else-number-len c = past_none _ c.args.exprs.now c.args.number (omega arith)
