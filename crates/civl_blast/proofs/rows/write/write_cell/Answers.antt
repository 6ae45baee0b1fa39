use Rattle.std.proofs.Common.{refl, ap, ◌∙◌, arith, Some}
use Rattle.civl_tree.specs.declared.expr.Sort.TheVariants as sort
use Rattle.civl_blast.specs.reach.Reaching.{is_plain}
use Rattle.civl_blast.proofs.rows.Made.{within_some, within_sorted, within_plain, eq_sort_is, pick_sort_is, sort_stays}
use Rattle.civl_blast.proofs.rows.Writes.{written_made}
use Rattle.civl_blast.proofs.rows.Growth.{grows_trans}
use Rattle.civl_terms.specs.Graphs.{sort_at}
use Rattle.civl_blast.proofs.rows.write.write_cell.Goals as goal

pub two-requires-clause-a : goal.two-requires-clause-a
two-requires-clause-a c = within_some _ _ _ c.in_ok-index.ensures.made.sorted

pub two-requires-clause-b : goal.two-requires-clause-b
two-requires-clause-b c = omega (arith, within_some _ _ _ c.requires.at, c.constant.ensures.grows.longer)

pub two-requires-clause-plain : goal.two-requires-clause-plain
two-requires-clause-plain c =
    ap is_plain (eq_sort_is _ _ (Some (sort.Word c.args.number.0)) c.in_ok-index.ensures.made.sorted (sort_stays _ _ c.constant.ensures.grows c.requires.at refl) refl)

pub pick-requires-clause-c : goal.pick-requires-clause-c
pick-requires-clause-c c =
    within_some _ _ _ (c.in_ok-same.ensures.made.sorted ∙ eq_sort_is _ _ (Some (sort.Word c.args.number.0)) c.in_ok-index.ensures.made.sorted (sort_stays _ _ c.constant.ensures.grows c.requires.at refl) refl)

pub pick-requires-clause-a : goal.pick-requires-clause-a
pick-requires-clause-a c = omega (arith, within_plain _ _ c.requires.plain, c.constant.ensures.grows.longer, c.two.ensures.grows.longer)

pub pick-requires-clause-b : goal.pick-requires-clause-b
pick-requires-clause-b c = omega (arith, within_sorted _ _ _ c.requires.same c.requires.plain, c.constant.ensures.grows.longer, c.two.ensures.grows.longer)

pub pick-requires-clause-plain : goal.pick-requires-clause-plain
pick-requires-clause-plain c =
    let g = grows_trans c.constant.ensures.grows c.two.ensures.grows in
    let e = c.in_ok-same.ensures.made.sorted ∙ eq_sort_is _ _ (Some (sort.Word c.args.number.0)) c.in_ok-index.ensures.made.sorted (sort_stays _ _ c.constant.ensures.grows c.requires.at refl) refl in
    ap is_plain (pick_sort_is _ _ _ (sort_at c.args.terms.now c.args.cell) e (sort_stays c.args.cell _ g refl c.requires.plain) (sort_stays c.args.old _ g c.requires.same c.requires.plain)) ∙ c.requires.plain

pub returns-clause-made : goal.returns-clause-made
returns-clause-made c =
    written_made _ _ _ _ _ _ _ _ _ c.requires.at refl c.requires.same c.requires.plain c.in_ok-index.ensures.made c.in_ok-same.ensures.made c.in_ok-id.ensures.made
