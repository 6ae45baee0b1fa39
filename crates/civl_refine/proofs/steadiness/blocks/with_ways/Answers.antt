use Rattle.std.specs.Prelude.{◌&&◌}
use Rattle.std.proofs.Common.{◌∙◌, sym, subst, arith}
use Rattle.std.proofs.lemmas.List.Elements.{All-get_or}
use Rattle.civl_tree.specs.declared.expr.Sort.TheVariants.{Bool as Truth}
use Rattle.civl_terms.proofs.Growing.{grows_trans}
use Rattle.civl_states.proofs.formula_parts.Saying.{sort_stays, test_stays, test_as}
use Rattle.civl_body.specs.Walks.{IsWay, CanTake}
use Rattle.civl_refine.proofs.Taking.{take_stays, way_stays, ways_next, ways_weigh, ways_end}
use Rattle.civl_refine.specs.inner.steadiness.Kept.{kept_before, kept_weight}
use Rattle.civl_refine.specs.inner.steadiness.Losing.{end_weight, kept_at_end}
use Rattle.civl_refine.proofs.steadiness.Aiming.{frame_stays, other_stays}
use Rattle.civl_refine.proofs.steadiness.blocks.with_ways.Goals as goal

pub with_way-requires-clause-kept : goal.with_way-requires-clause-kept
with_way-requires-clause-kept c = frame_stays _ _ c.args.start.now.program.now c.args.kept.now c.loop-way.invariant.0 c.requires.kept

pub with_way-requires-clause-before : goal.with_way-requires-clause-before
with_way-requires-clause-before c = sort_stays _ _ _ Truth c.loop-way.invariant.0 c.requires.before

pub with_way-requires-clause-way : goal.with_way-requires-clause-way
with_way-requires-clause-way c =
    let s = c.args.start.now in
    let can = subst (CanTake c.args.terms.now s.program.now s.proc.now) (sym c.way-item.is) (All-get_or (CanTake c.args.terms.now s.program.now s.proc.now) c.args.ways.now c.loop-way.way-index c.way-item.result (omega arith) c.requires.ways) in
    take_stays _ _ _ _ _ c.loop-way.invariant.0 can

pub returns-in_err-id-clause-grows : goal.returns-in_err-id-clause-grows
returns-in_err-id-clause-grows c = grows_trans _ _ _ c.loop-way.invariant.0 c.in_err-id.ensures.grows

pub loop-way-preserved : goal.loop-way-preserved
loop-way-preserved c =
    let s = c.args.start.now in
    let p = s.program.now in
    let k = c.args.kept.now in
    let ws = c.args.ways.now in
    let i = c.loop-way.way-index in
    let way = c.way-item.result in
    let inv = c.loop-way.invariant in (
      grows_trans _ _ _ inv.0 c.in_ok-id.ensures.grows,
      c.in_ok-id.ensures.sorted,
      omega (arith, inv.2, c.in_ok-id.ensures.weighs, ways_weigh ws i way (omega arith) c.way-item.is (end_weight s (kept_weight p s.step k))),
      λ f b o out t first says all.
          let h = inv.3 f b o out t first says all in
          let here = subst (IsWay c.args.terms.now p s.proc.now out) (sym c.way-item.is) (All-get_or (IsWay c.args.terms.now p s.proc.now out) ws i way (omega arith) all) in (
            λ env. h.0 env && kept_at_end s k (b env) (o env) (out env) way.end,
            c.in_ok-id.ensures.test h.0 b o out h.1 (test_stays _ _ _ (λ env. kept_before p k (o env) (b env).old) inv.0 first) (other_stays _ _ k o inv.0 says) (way_stays _ _ _ _ out way inv.0 here),
            λ env. ways_next ws i way (omega arith) c.way-item.is (kept_at_end s k (b env) (o env) (out env)) (h.0 env) ∙ h.2 env,
          ),
    )

pub returns-clause-test : goal.returns-clause-test
returns-clause-test c = λ f b o out t first says all.
    let s = c.args.start.now in
    let k = c.args.kept.now in
    let h = c.loop-way.invariant.3 f b o out t first says all in
    test_as _ _ h.0 _ (λ env. sym (ways_end c.args.ways.now c.loop-way.way-index (omega arith) (kept_at_end s k (b env) (o env) (out env)) (h.0 env)) ∙ h.2 env) h.1

pub with_way-requires-clause-test : goal.with_way-requires-clause-test
with_way-requires-clause-test c = c.loop-way.invariant.1
