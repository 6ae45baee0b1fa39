use Rattle.std.proofs.Common.{refl, sym, ap, ◌∙◌, arith, get_or, ◌+◌}
use Rattle.civl_terms.specs.Graphs.{sort_at}
use Rattle.civl_blast.specs.reach.Reaching.{is_plain}
use Rattle.civl_blast.proofs.rows.Made.{within_sorted, within_plain, sort_stays}
use Rattle.civl_blast.proofs.rows.Comparisons.{comparison_sort, first_pair, more_pairs}
use Rattle.civl_blast.proofs.rows.compare.compare.Goals as goal

pub two-requires-clause-a : goal.two-requires-clause-a
two-requires-clause-a c = within_plain _ _ c.requires.plain

pub two-requires-clause-b : goal.two-requires-clause-b
two-requires-clause-b c = within_sorted _ _ _ (c.requires.b 0 (omega arith)) c.requires.plain

pub two-requires-clause-plain : goal.two-requires-clause-plain
two-requires-clause-plain c = ap is_plain (comparison_sort c.args.op _ _ (sort_at c.args.terms.now (get_or c.args.a.now 0 0)) c.requires.op refl (c.requires.b 0 (omega arith)) c.requires.plain)

pub loop-i-init : goal.loop-i-init
loop-i-init c =
    first_pair c.args.op c.args.join c.args.a.now c.args.b.now _ _ c.requires.op c.requires.a c.requires.b c.requires.plain c.requires.some c.requires.size c.in_ok-all.ensures.made

pub compare_next-requires-clause-all : goal.compare_next-requires-clause-all
compare_next-requires-clause-all c = c.loop-i.invariant.sorted

pub compare_next-requires-clause-plain : goal.compare_next-requires-clause-plain
compare_next-requires-clause-plain c = ap is_plain (sort_stays _ _ c.loop-i.invariant.calm.grows (c.requires.a (c.loop-i.i + 1) (omega arith)) c.requires.plain) ∙ c.requires.plain

pub compare_next-requires-clause-same : goal.compare_next-requires-clause-same
compare_next-requires-clause-same c =
    let g = c.loop-i.invariant.calm.grows in
    sort_stays _ _ g (c.requires.b (c.loop-i.i + 1) (omega arith)) c.requires.plain ∙ sym (sort_stays _ _ g (c.requires.a (c.loop-i.i + 1) (omega arith)) c.requires.plain)

pub loop-i-preserved : goal.loop-i-preserved
loop-i-preserved c =
    more_pairs c.args.op c.args.join c.args.a.now c.args.b.now c.loop-i.i _ _ _ c.requires.a c.requires.b c.requires.plain (omega arith) c.requires.size c.loop-i.invariant c.in_ok-all-2.ensures.made
