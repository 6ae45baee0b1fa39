use Rattle.std.proofs.Common.{ℕ, ◌^◌, sym, ap, ◌∙◌}
use Rattle.civl_script.proofs.Rows.{cell_is, one_word, some_cells, whole}
use Rattle.civl_script.proofs.written.row_at.Goals as goal

pub returns-in_err-first-clause-none : goal.returns-in_err-first-clause-none
returns-in_err-first-clause-none c e row h = c.word_of.ensures.none (search c.in_err-first) _ (cell_is c.args.cells.now row 0 _ h (some_cells c.args.cells.now c.args.index c.requires.low c.requires.high c.requires.size))

pub returns-in_err-cell-clause-none : goal.returns-in_err-cell-clause-none
returns-in_err-cell-clause-none c e row h =
    c.word_of-in-loop-at.ensures.none (search c.in_err-cell) _ (cell_is c.args.cells.now row c.loop-at.at _ h search)

pub returns-then-width-clause-none : goal.returns-then-width-clause-none
returns-then-width-clause-none c e row h =
    let zeroth = one_word _ _ _ c.in_ok-first.ensures.some (cell_is c.args.cells.now row 0 _ h (some_cells c.args.cells.now c.args.index c.requires.low c.requires.high c.requires.size)) in
    let this = one_word _ _ _ c.in_ok-cell.ensures.some (cell_is c.args.cells.now row c.loop-at.at _ h search) in
    c.if-width.true (c.width.ensures.is ∙ (ap (λ (p : ℕ × ℕ). p.0) this ∙ sym (ap (λ (p : ℕ × ℕ). p.0) zeroth)) ∙ sym c.width-in-loop-at.ensures.is)

pub returns-clause-some : goal.returns-clause-some
returns-clause-some c =
    let so = c.loop-at.invariant in
    whole c.args.cells.now c.loop-at.row c.loop-at.at c.in_ok-first.first.0 c.loop-at-test.false (c.requires.size ∙ ap (λ n. 2 ^ n) (sym so.index)) so.is so.width so.cells
