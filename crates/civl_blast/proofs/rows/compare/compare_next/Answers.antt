use Rattle.std.proofs.Common.{refl, ap, ◌∙◌, arith, Some}
use Rattle.civl_tree.specs.declared.expr.Sort.TheVariants as sort
use Rattle.civl_terms.specs.Graphs.{sort_at}
use Rattle.civl_blast.specs.reach.Reaching.{is_plain}
use Rattle.civl_blast.proofs.rows.Made.{within_some, within_sorted, within_plain, sort_stays}
use Rattle.civl_blast.proofs.rows.Comparisons.{comparison_sort, join_sort_is, next_made}
use Rattle.civl_blast.proofs.rows.compare.compare_next.Goals as goal

pub two-requires-clause-a : goal.two-requires-clause-a
two-requires-clause-a c = within_plain _ _ c.requires.plain

pub two-requires-clause-b : goal.two-requires-clause-b
two-requires-clause-b c = within_sorted _ _ _ c.requires.same c.requires.plain

pub two-requires-clause-plain : goal.two-requires-clause-plain
two-requires-clause-plain c = ap is_plain (comparison_sort c.args.op _ _ (sort_at c.args.terms.now c.args.a) c.requires.op refl c.requires.same c.requires.plain)

pub two-requires-2-clause-a : goal.two-requires-2-clause-a
two-requires-2-clause-a c = omega (arith, within_some _ _ _ c.requires.all, c.two.ensures.grows.longer)

pub two-requires-2-clause-b : goal.two-requires-2-clause-b
two-requires-2-clause-b c =
    within_some _ _ _ (c.in_ok-next.ensures.made.sorted ∙ comparison_sort c.args.op _ _ (sort_at c.args.terms.now c.args.a) c.requires.op refl c.requires.same c.requires.plain)

pub two-requires-2-clause-plain : goal.two-requires-2-clause-plain
two-requires-2-clause-plain c =
    ap is_plain (join_sort_is c.args.join _ _ c.requires.join (sort_stays c.args.all (Some sort.Bool) c.two.ensures.grows c.requires.all refl)
    (c.in_ok-next.ensures.made.sorted ∙ comparison_sort c.args.op _ _ (sort_at c.args.terms.now c.args.a) c.requires.op refl c.requires.same c.requires.plain))

pub returns-clause-made : goal.returns-clause-made
returns-clause-made c =
    next_made c.args.op c.args.join c.args.all c.args.a c.args.b _ _ _ c.requires.op c.requires.join c.requires.all refl c.requires.same c.requires.plain c.in_ok-next.ensures.made c.in_ok-id.ensures.made
