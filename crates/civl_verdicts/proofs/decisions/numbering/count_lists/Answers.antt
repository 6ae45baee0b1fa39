use Rattle.std.specs.Prelude.{◌^◌, ◌*◌, drop}
use Rattle.std.proofs.Common.{◌+◌, ◌∙◌, ℕ, sym, ap, arith}
use Rattle.civl_tree.specs.declared.expr.Sort.TheVariants.{Bool as Truth}
use Rattle.civl_verdicts.specs.decisions.Numbered.{bits_together}
use Rattle.civl_verdicts.proofs.decisions.Numbers.{product_behind, over_stays}
use Rattle.civl_verdicts.proofs.decisions.numbering.count_lists.Goals as goal

pub returns-in_err-count-2-clause-none : goal.returns-in_err-count-2-clause-none
returns-in_err-count-2-clause-none c =
    let ss = c.args.sorts.now in
    let i = c.loop-sort.sort-index in
    let n = c.loop-sort.count in
    let product = ap (λ (b : ℕ). (n * 2 ^ b) * 2 ^ bits_together (drop (i + 1) ss)) c.bits_of.ensures ∙ sym (product_behind ss i Truth n (omega arith)) ∙ c.loop-sort.invariant.0 in
    rw (c.from_residual-in_err-count-2.ensures) (omega (arith, product, over_stays c.args.most (n * 2 ^ c.bits_of.result) (bits_together (drop (i + 1) ss)) c.in_err-count-2.ensures.none))

pub loop-sort-preserved : goal.loop-sort-preserved
loop-sort-preserved c =
    let ss = c.args.sorts.now in
    let i = c.loop-sort.sort-index in
    let n = c.loop-sort.count in
    let product = ap (λ (b : ℕ). (n * 2 ^ b) * 2 ^ bits_together (drop (i + 1) ss)) c.bits_of.ensures ∙ sym (product_behind ss i Truth n (omega arith)) ∙ c.loop-sort.invariant.0 in
    let some = c.in_ok-count-2.ensures.some in
    (ap (λ (m : ℕ). m * 2 ^ bits_together (drop (i + 1) ss)) some.0 ∙ product, some.1, some.2)
