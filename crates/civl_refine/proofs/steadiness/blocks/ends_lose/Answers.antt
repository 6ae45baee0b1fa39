use Rattle.std.specs.Prelude.{◌&&◌, true, All, map}
use Rattle.std.specs.List.{list_all}
use Rattle.std.proofs.Common.{List, Bool, sym, ap, subst, arith}
use Rattle.civl_tree.specs.declared.expr.Sort.TheVariants.{Bool as Truth}
use Rattle.civl_terms.proofs.Growing.{grows_trans}
use Rattle.civl_conditions.specs.Weights.{summed}
use Rattle.civl_states.specs.formula_parts.Said.{Env}
use Rattle.civl_states.proofs.formula_parts.Saying.{sort_stays, test_stays, test_as, constant_test}
use Rattle.civl_body.specs.declared.way.Way.{Way}
use Rattle.civl_body.specs.Walks.{IsWay, CanTake}
use Rattle.civl_refine.specs.Failing.{ArrivesAmong}
use Rattle.civl_refine.specs.Walked.{outcome_from}
use Rattle.civl_refine.proofs.Breaking.{takes_stay, ways_stay}
use Rattle.civl_refine.specs.inner.steadiness.Kept.{kept_before, kept_weight}
use Rattle.civl_refine.specs.inner.steadiness.Losing.{end_weight, kept_at_end}
use Rattle.civl_refine.proofs.steadiness.Aiming.{frame_stays, other_stays}
use Rattle.civl_refine.proofs.steadiness.Ending.{lost_as}
use Rattle.civl_refine.proofs.steadiness.blocks.ends_lose.Goals as goal

pub with_ways-requires-clause-kept : goal.with_ways-requires-clause-kept
with_ways-requires-clause-kept c = frame_stays _ _ c.args.start.now.program.now c.args.kept.now (grows_trans _ _ _ c.in_ok-before.ensures.grows c.in_ok-yes.ensures.grows) c.requires.kept

pub with_ways-requires-clause-before : goal.with_ways-requires-clause-before
with_ways-requires-clause-before c = sort_stays _ _ _ Truth c.in_ok-yes.ensures.grows c.in_ok-before.ensures.sorted

pub with_ways-requires-clause-ways : goal.with_ways-requires-clause-ways
with_ways-requires-clause-ways c =
    let s = c.args.start.now in
    subst (λ (ws : List Way). All (CanTake c.constant.new.self s.program.now s.proc.now) ws) (sym c.as_slice.ensures) (takes_stay _ _ _ _ _ (grows_trans _ _ _ c.in_ok-before.ensures.grows c.in_ok-yes.ensures.grows) c.requires.walked.ways)

pub returns-in_err-yes-clause-grows : goal.returns-in_err-yes-clause-grows
returns-in_err-yes-clause-grows c = grows_trans _ _ _ c.in_ok-before.ensures.grows c.in_err-yes.ensures.grows

pub returns-in_err-stays-clause-grows : goal.returns-in_err-stays-clause-grows
returns-in_err-stays-clause-grows c = grows_trans _ _ _ c.in_ok-before.ensures.grows (grows_trans _ _ _ c.in_ok-yes.ensures.grows c.in_err-stays.ensures.grows)

pub returns-in_err-id-clause-grows : goal.returns-in_err-id-clause-grows
returns-in_err-id-clause-grows c = grows_trans _ _ _ c.in_ok-before.ensures.grows (grows_trans _ _ _ c.in_ok-yes.ensures.grows (grows_trans _ _ _ c.in_ok-stays.ensures.grows c.in_err-id.ensures.grows))

pub returns-clause-grows : goal.returns-clause-grows
returns-clause-grows c = grows_trans _ _ _ c.in_ok-before.ensures.grows (grows_trans _ _ _ c.in_ok-yes.ensures.grows (grows_trans _ _ _ c.in_ok-stays.ensures.grows c.in_ok-id.ensures.grows))

pub returns-clause-test : goal.returns-clause-test
returns-clause-test c = λ b o walked says among.
    let s = c.args.start.now in
    let p = s.program.now in
    let k = c.args.kept.now in
    let ws = c.as_slice.result.now in
    let one = c.in_ok-before.ensures.grows in
    let two = grows_trans _ _ _ one c.in_ok-yes.ensures.grows in
    let before : Env → Bool = λ env. kept_before p k (o env) (b env).old in
    let there = subst (λ (xs : List Way). All (IsWay c.constant.new.self p s.proc.now (λ env. outcome_from s (b env))) xs) (sym c.as_slice.ensures) (ways_stay _ _ _ _ (λ env. outcome_from s (b env)) _ two walked.ways) in
    let in_one = λ (env : Env). subst (λ (xs : List Way). ArrivesAmong s.proc.now (map (λ w. w.end) xs) (outcome_from s (b env))) (sym c.as_slice.ensures) (among env) in
    let first = test_stays _ _ _ before c.in_ok-yes.ensures.grows (c.in_ok-before.ensures.tells o (λ env. (b env).old) says walked.begun.old_globals) in
    let yes = constant_test c.kept_before.new.terms c.constant.new.self c.in_ok-yes.yes true c.in_ok-yes.ensures.built in
    let all : Env → Bool = λ env. true && list_all (kept_at_end s k (b env) (o env) (outcome_from s (b env))) (map (λ w. w.end) ws) in
    let stays = c.in_ok-stays.ensures.test (λ env. true) b o (λ env. outcome_from s (b env)) yes first (other_stays _ _ k o two says) there in
    test_as _ _ _ _ (λ env. lost_as s k (b env) (o env) (map (λ w. w.end) ws) (in_one env)) (c.in_ok-id.ensures.test all stays)

pub returns-clause-weighs : goal.returns-clause-weighs
returns-clause-weighs c =
    let s = c.args.start.now in
    let w = end_weight s (kept_weight s.program.now s.step c.args.kept.now) in
    let ends = ap (λ (ws : List Way). summed (map w (map (λ y. y.end) ws))) c.as_slice.ensures in
    omega (arith, c.in_ok-before.ensures.weighs s.step, c.in_ok-yes.ensures.built.weighs, c.in_ok-stays.ensures.weighs, ends, c.in_ok-id.ensures.weighs)
