use Rattle.std.proofs.Common.{refl, ap, arith, Some}
use Rattle.civl_tree.specs.declared.expr.Sort.TheVariants as sort
use Rattle.civl_blast.specs.reach.Reaching.{is_plain}
use Rattle.civl_blast.proofs.rows.Made.{within_some, within_plain, eq_sort_is, sort_stays}
use Rattle.civl_blast.proofs.rows.Choices.{bit_sort, bit_made, sliceable}
use Rattle.civl_blast.proofs.rows.read.bit_of.Goals as goal

pub slice-requires-clause-a : goal.slice-requires-clause-a
slice-requires-clause-a c = within_plain _ _ (sliceable _ _ c.requires)

pub two-requires-clause-a : goal.two-requires-clause-a
two-requires-clause-a c = omega (arith, within_some _ _ _ (bit_sort _ c.args.at c.args.bit _ c.in_ok-part.ensures.made.sorted c.requires), c.constant.ensures.grows.longer)

pub two-requires-clause-b : goal.two-requires-clause-b
two-requires-clause-b c = within_some _ _ _ c.in_ok-one.ensures.made.sorted

pub two-requires-clause-plain : goal.two-requires-clause-plain
two-requires-clause-plain c =
    let one = rw c.of.ensures at c.in_ok-one.ensures.made.sorted in
    ap is_plain (eq_sort_is _ _ (Some (sort.Word 1)) (sort_stays _ _ c.constant.ensures.grows (bit_sort _ c.args.at c.args.bit _ c.in_ok-part.ensures.made.sorted c.requires) refl) one refl)

pub returns-clause-made : goal.returns-clause-made
returns-clause-made c = bit_made c.args.at c.args.bit _ _ _ c.requires c.in_ok-part.ensures.made (rw c.of.ensures at c.in_ok-one.ensures.made) c.in_ok-id.ensures.made
