use Rattle.std.specs.Prelude.{◌≡◌, ◌^◌, length, set}
use Rattle.std.proofs.Common.{◌∙◌, ℕ, ap, arith}
use Rattle.std.proofs.Math.ListN.{length-set}
use Rattle.civl_bits.specs.Row.{Cells}
use Rattle.civl_verdicts.proofs.decisions.Numbers.{cells_stay}
use Rattle.civl_verdicts.proofs.decisions.numbering.row_numbered.Goals as goal

pub loop-at-preserved : goal.loop-at-preserved
loop-at-preserved c =
    let row = c.loop-at.row in
    let at = c.word-in-loop-at.result.1 in
    let value = c.word-in-loop-at-2.result.1 in
    let here : at ≡ c.loop-at.at = ap (λ (p : ℕ × ℕ). p.1) c.word-in-loop-at.ensures in
    let is = ap (λ (p : ℕ × ℕ). p.1) c.word-in-loop-at-2.ensures ∙ c.low_bits.ensures in
    let i = c.loop-at.invariant in
    let cells = ap (λ (r : Cells). r.cells) c.set-row.ensures ∙ ap (λ (n : ℕ). set row.cells n value) here in (
      ap (λ (r : Cells). r.index) c.set-row.ensures ∙ i.0,
      ap (λ (r : Cells). r.width) c.set-row.ensures ∙ i.1,
      ap length cells ∙ length-set row.cells c.loop-at.at value ∙ i.2,
      cells_stay (2 ^ c.args.index) c.loop-at.at c.args.width c.loop-at.rest c.shifted-rest.result value row.cells c.set-row.result.cells _ (omega arith) i.2 cells is c.shifted-rest.ensures i.3,
    )
