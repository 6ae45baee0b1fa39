use Rattle.std.specs.Prelude.{◌&&◌}
use Rattle.std.proofs.Common.{◌∙◌, sym, subst, arith}
use Rattle.std.proofs.lemmas.List.Elements.{All-get_or}
use Rattle.civl_terms.proofs.Growing.{grows_trans}
use Rattle.civl_states.proofs.formula_parts.Saying.{test_as}
use Rattle.civl_conditions.specs.Weights.{part_weight}
use Rattle.civl_body.specs.Walks.{IsWay, CanTake}
use Rattle.civl_refine.specs.Ways.{kept_by}
use Rattle.civl_refine.proofs.Assuming.{begin_stays, begun_stays}
use Rattle.civl_refine.proofs.Taking.{take_stays, way_stays, ways_next, ways_weigh, ways_end}
use Rattle.civl_refine.proofs.ways.with_ways.Goals as goal

pub with_way-requires-clause-begins : goal.with_way-requires-clause-begins
with_way-requires-clause-begins c = begin_stays _ _ _ _ _ _ _ c.loop-way.invariant.0 c.requires.begins

pub with_way-requires-clause-way : goal.with_way-requires-clause-way
with_way-requires-clause-way c =
    let s = c.args.start.now in
    let can = subst (CanTake c.args.terms.now s.program.now s.proc.now) (sym c.way-item.is) (All-get_or (CanTake c.args.terms.now s.program.now s.proc.now) c.args.ways.now c.loop-way.way-index c.way-item.result (omega arith) c.requires.ways) in
    take_stays _ _ _ _ _ c.loop-way.invariant.0 can

pub returns-in_err-id-clause-grows : goal.returns-in_err-id-clause-grows
returns-in_err-id-clause-grows c = grows_trans _ _ _ c.loop-way.invariant.0 c.in_err-id.ensures.grows

pub loop-way-preserved : goal.loop-way-preserved
loop-way-preserved c =
    let s = c.args.start.now in
    let ws = c.args.ways.now in
    let i = c.loop-way.way-index in
    let way = c.way-item.result in
    let inv = c.loop-way.invariant in (
      grows_trans _ _ _ inv.0 c.in_ok-id.ensures.grows,
      c.in_ok-id.ensures.sorted,
      omega (arith, inv.2, c.in_ok-id.ensures.weighs, ways_weigh ws i way (omega arith) c.way-item.is (part_weight s.program.now s.step s.proc.now s.cut c.args.part)),
      λ f b o t begun all.
          let h = inv.3 f b o t begun all in
          let here = subst (IsWay c.args.terms.now s.program.now s.proc.now o) (sym c.way-item.is) (All-get_or (IsWay c.args.terms.now s.program.now s.proc.now o) ws i way (omega arith) all) in (
            λ env. h.0 env && kept_by s c.args.part (b env) (o env) way.end,
            c.in_ok-id.ensures.test h.0 b o h.1 (begun_stays _ _ _ _ _ _ _ b inv.0 begun) (way_stays _ _ _ _ o way inv.0 here),
            λ env. ways_next ws i way (omega arith) c.way-item.is (kept_by s c.args.part (b env) (o env)) (h.0 env) ∙ h.2 env,
          ),
    )

pub returns-clause-test : goal.returns-clause-test
returns-clause-test c = λ f b o t begun all.
    let s = c.args.start.now in
    let h = c.loop-way.invariant.3 f b o t begun all in
    test_as _ _ h.0 _ (λ env. sym (ways_end c.args.ways.now c.loop-way.way-index (omega arith) (kept_by s c.args.part (b env) (o env)) (h.0 env)) ∙ h.2 env) h.1
