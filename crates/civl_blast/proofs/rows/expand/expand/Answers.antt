use Rattle.std.proofs.Common.{arith}
use Rattle.civl_blast.proofs.rows.Expansions.{is_free, expand_none, expand_more}
use Rattle.civl_blast.proofs.rows.expand.expand.Goals as goal

pub loop-cell-init : goal.loop-cell-init
loop-cell-init c = rw c.new-ids.ensures.items (expand_none _ _ _ _ _)

pub variable-requires-clause-free : goal.variable-requires-clause-free
variable-requires-clause-free c = is_free _ _ _ (omega (arith, c.loop-cell.invariant.numbers, c.requires.first))

pub loop-cell-preserved : goal.loop-cell-preserved
loop-cell-preserved c =
    expand_more c.args.variable c.args.index c.args.width c.loop-cell.cell _ _ c.loop-cell.invariant (omega arith) (omega (arith, c.requires.first))
    c.variable.ensures.grows c.in_ok-id.ensures.node c.in_ok-id.ensures.built c.in_ok-push.ensures.items c.in_ok-push-2.ensures.items
