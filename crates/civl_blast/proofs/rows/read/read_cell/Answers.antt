use Rattle.std.proofs.Common.{refl, ap, subst, arith, get_or, length, ◌≡◌, ◌-◌, ℕ}
use Rattle.civl_terms.specs.Graphs.{sort_at}
use Rattle.civl_blast.specs.reach.Reaching.{is_plain}
use Rattle.civl_blast.proofs.rows.Made.{sort_stays}
use Rattle.civl_blast.proofs.rows.Choices.{Chosen, chosen_none, chosen_more, chosen_all, is_sliceable, two_cells}
use Rattle.civl_blast.proofs.rows.read.read_cell.Goals as goal

pub loop-bit-init : goal.loop-bit-init
loop-bit-init c = chosen_none c.args.at c.args.index c.args.cells.now _ _ c.requires.index c.requires.size refl c.in_ok-left.ensures.made

pub choose-requires-clause-some : goal.choose-requires-clause-some
choose-requires-clause-some c = omega (arith, c.requires.size, two_cells c.args.index c.requires.index)

pub choose-requires-in-loop-bit-clause-at : goal.choose-requires-in-loop-bit-clause-at
choose-requires-in-loop-bit-clause-at c =
    is_sliceable _ c.args.index _ (sort_stays c.args.at _ c.loop-bit.invariant.makes.calm.grows c.requires.at refl) (omega arith)

pub choose-requires-in-loop-bit-clause-some : goal.choose-requires-in-loop-bit-clause-some
choose-requires-in-loop-bit-clause-some c =
    omega (arith, c.loop-bit.invariant.makes.size, ap length c.as_slice.ensures.value, two_cells (c.args.index - c.loop-bit.bit) (omega arith))

pub loop-bit-preserved : goal.loop-bit-preserved
loop-bit-preserved c =
    chosen_more c.args.at c.args.index c.loop-bit.bit c.args.cells.now _ (omega arith) c.requires.plain (ap is_plain c.requires.at) c.loop-bit.invariant
    (rw c.as_slice.ensures.value at c.in_ok-left-2.ensures.made)

pub returns-clause-made : goal.returns-clause-made
returns-clause-made c =
    let e : c.loop-bit.bit ≡ c.args.index = omega arith in
    let P : ℕ → Type 0 = λ k. Chosen c.args.terms.now c.loop-bit.terms c.args.cells.now c.args.at c.args.index k c.loop-bit.left.items (sort_at c.args.terms.now (get_or c.args.cells.now 0 0)) in
    chosen_all c.args.at c.args.index c.index.result.now c.args.cells.now _ c.index.ensures (subst P e c.loop-bit.invariant)
