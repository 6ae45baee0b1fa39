use Rattle.std.proofs.Common.{refl, ap, arith, ℕ, Some}
use Rattle.civl_bits.specs.declared.value.Value.TheVariants as value
use Rattle.civl_tree.specs.declared.expr.Sort.TheVariants as sort
use Rattle.civl_blast.proofs.rows.Made.{makes_more}
use Rattle.civl_blast.proofs.rows.cells.constant_cells.Goals as goal

pub loop-at-preserved : goal.loop-at-preserved
loop-at-preserved c =
    makes_more _ _ _ refl c.loop-at.invariant c.in_ok-id.ensures.made (ap (λ (w : ℕ × ℕ). Some (sort.Word w.0)) c.cell.ensures) (λ u v y k. tt) (λ env. ap (λ (w : ℕ × ℕ). value.Word w) c.cell.ensures) (omega arith) c.in_ok-push.ensures.items
