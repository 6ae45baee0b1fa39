use Rattle.std.proofs.Common.{refl, sym, ap, ◌∙◌, arith, ◌≡◌, ◌^◌, ℕ, Some}
use Rattle.civl_tree.specs.declared.expr.Sort.TheVariants as sort
use Rattle.civl_terms.specs.Graphs.{sort_at}
use Rattle.civl_blast.specs.reach.Reaching.{is_plain}
use Rattle.civl_blast.proofs.rows.Made.{sort_stays}
use Rattle.civl_blast.proofs.rows.Writes.{write_step}
use Rattle.civl_blast.proofs.rows.write.write_cells.Goals as goal

pub write_cell-requires-clause-at : goal.write_cell-requires-clause-at
write_cell-requires-clause-at c =
    sort_stays c.args.at _ c.loop-i.invariant.calm.grows c.requires.at refl ∙ ap (λ (w : ℕ × ℕ). Some (sort.Word w.0)) (sym c.of-number.ensures)

pub write_cell-requires-clause-plain : goal.write_cell-requires-clause-plain
write_cell-requires-clause-plain c = ap is_plain (sort_stays c.args.cell _ c.loop-i.invariant.calm.grows refl c.requires.plain) ∙ c.requires.plain

pub write_cell-requires-clause-same : goal.write_cell-requires-clause-same
write_cell-requires-clause-same c =
    let g = c.loop-i.invariant.calm.grows in
    let s = sort_at c.args.terms.now c.args.cell in
    sort_stays _ s g (c.requires.row c.loop-i.i (omega arith)) c.requires.plain ∙ sym (sort_stays c.args.cell s g refl c.requires.plain)

pub loop-i-preserved : goal.loop-i-preserved
loop-i-preserved c =
    write_step c.args.row.now c.args.index c.args.at c.args.cell c.loop-i.i _ _ _ c.requires.at refl (c.requires.row c.loop-i.i (omega arith)) c.requires.plain (omega arith)
    c.loop-i.invariant (rw c.of-number.ensures at c.in_ok-id.ensures.made) c.in_ok-push.ensures.items

pub returns-clause-made : goal.returns-clause-made
returns-clause-made c =
    let e : c.loop-i.i ≡ 2 ^ c.args.index = omega arith in
    rw (c.from_vec.ensures, ← e) c.loop-i.invariant
