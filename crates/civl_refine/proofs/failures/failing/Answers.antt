use Rattle.std.specs.Prelude.{Bool, not, ◌+◌, ◌*◌, ◌≤◌, ◌&&◌, All, List, map}
use Rattle.std.specs.List.{list_all}
use Rattle.std.proofs.Common.{sym, ap, subst}
use Rattle.civl_tree.specs.declared.expr.Sort.TheVariants.{Bool as Truth}
use Rattle.civl_terms.proofs.Growing.{grows_trans}
use Rattle.civl_terms.specs.Weights.{graph_weight}
use Rattle.civl_conditions.specs.paths.Ends.{is_rank_loop}
use Rattle.civl_conditions.specs.Assumed.{assumed}
use Rattle.civl_conditions.specs.Weights.{part_weight, summed}
use Rattle.civl_states.specs.formula_parts.Said.{Env}
use Rattle.civl_states.proofs.formula_parts.Saying.{sort_stays, test_stays, test_as}
use Rattle.civl_body.specs.declared.way.Way.{Way}
use Rattle.civl_body.specs.Walks.{IsWay, CanTake}
use Rattle.civl_refine.specs.Judging.{fails_before}
use Rattle.civl_refine.specs.Ways.{kept_by}
use Rattle.civl_refine.specs.Failing.{ArrivesAmong}
use Rattle.civl_refine.proofs.Assuming.{begin_stays, begun_stays}
use Rattle.civl_refine.proofs.Breaking.{fails_as, takes_stay, ways_stay, weighs_all}
use Rattle.civl_refine.proofs.failures.failing.Goals as goal

pub with_ways-requires-clause-begins : goal.with_ways-requires-clause-begins
with_ways-requires-clause-begins c = begin_stays _ _ _ _ _ _ _ c.in_ok-first.ensures.grows c.requires.begins

pub with_ways-requires-clause-ways : goal.with_ways-requires-clause-ways
with_ways-requires-clause-ways c =
    let s = c.args.start.now in
    subst (λ (ws : List Way). All (CanTake c.kept_before.new.terms s.program.now s.proc.now) ws) (sym c.as_slice.ensures) (takes_stay _ _ _ _ _ c.in_ok-first.ensures.grows c.requires.ways)

pub returns-in_err-kept-clause-grows : goal.returns-in_err-kept-clause-grows
returns-in_err-kept-clause-grows c = grows_trans _ _ _ c.in_ok-first.ensures.grows c.in_err-kept.ensures.grows

pub returns-in_err-fails-clause-grows : goal.returns-in_err-fails-clause-grows
returns-in_err-fails-clause-grows c = grows_trans _ _ _ c.in_ok-first.ensures.grows (grows_trans _ _ _ c.in_ok-kept.ensures.grows c.in_err-fails.ensures.grows)

pub assumed-requires-clause-begins : goal.assumed-requires-clause-begins
assumed-requires-clause-begins c = begin_stays _ _ _ _ _ _ _ (grows_trans _ _ _ c.in_ok-first.ensures.grows (grows_trans _ _ _ c.in_ok-kept.ensures.grows c.in_ok-fails.ensures.grows)) c.requires.begins

pub returns-in_err-given-clause-grows : goal.returns-in_err-given-clause-grows
returns-in_err-given-clause-grows c =
    grows_trans _ _ _ c.in_ok-first.ensures.grows (grows_trans _ _ _ c.in_ok-kept.ensures.grows (grows_trans _ _ _ c.in_ok-fails.ensures.grows c.in_err-given.ensures.grows))

pub both-requires-clause-b : goal.both-requires-clause-b
both-requires-clause-b c = sort_stays _ _ _ Truth c.in_ok-given.ensures.grows c.in_ok-fails.ensures.sorted

pub returns-in_err-id-clause-grows : goal.returns-in_err-id-clause-grows
returns-in_err-id-clause-grows c =
    grows_trans _ _ _ c.in_ok-first.ensures.grows (grows_trans _ _ _ c.in_ok-kept.ensures.grows (grows_trans _ _ _ c.in_ok-fails.ensures.grows (grows_trans _ _ _ c.in_ok-given.ensures.grows c.in_err-id.ensures.grows)))

pub returns-clause-grows : goal.returns-clause-grows
returns-clause-grows c =
    grows_trans _ _ _ c.in_ok-first.ensures.grows (grows_trans _ _ _ c.in_ok-kept.ensures.grows (grows_trans _ _ _ c.in_ok-fails.ensures.grows (grows_trans _ _ _ c.in_ok-given.ensures.grows c.in_ok-id.ensures.grows)))

pub returns-clause-test : goal.returns-clause-test
returns-clause-test c = λ b o at begun before ways among.
    let s = c.args.start.now in
    let part = c.args.part in
    let ws = c.as_slice.result.now in
    let there = subst (λ (xs : List Way). All (IsWay c.kept_before.new.terms s.program.now s.proc.now o) xs) (sym c.as_slice.ensures) (ways_stay _ _ _ _ o _ c.in_ok-first.ensures.grows ways) in
    let in_one = λ (env : Env). subst (λ (xs : List Way). ArrivesAmong s.proc.now (map (λ w. w.end) xs) (o env)) (sym c.as_slice.ensures) (among env) in
    let one = c.in_ok-first.ensures.grows in
    let three = grows_trans _ _ _ one (grows_trans _ _ _ c.in_ok-kept.ensures.grows c.in_ok-fails.ensures.grows) in
    let first : Env → Bool = λ env. not (fails_before (o env) part) in
    let kept : Env → Bool = λ env. first env && list_all (kept_by s part (b env) (o env)) (map (λ w. w.end) ws) in
    let given : Env → Bool = λ env. assumed s.program.now s.step s.proc.now s.number s.cut (b env) in
    let said_kept = c.in_ok-kept.ensures.test first b o (c.in_ok-first.ensures.test o before) (begun_stays _ _ _ _ _ _ _ b one begun) there in
    let said_fails = c.in_ok-fails.ensures.test kept said_kept in
    let said_given = c.in_ok-given.ensures.test b at (begun_stays _ _ _ _ _ _ _ b three begun) in
    test_as _ _ _ _ (λ env. ap (λ (x : Bool). given env && x) (fails_as s part (b env) (o env) (map (λ w. w.end) ws) (in_one env)))
    (c.in_ok-id.ensures.test given (λ env. not (kept env)) said_given (test_stays _ _ _ _ c.in_ok-given.ensures.grows said_fails))

pub returns-clause-weighs : goal.returns-clause-weighs
returns-clause-weighs c =
    let s = c.args.start.now in
    let all = subst (λ (ws : List Way). graph_weight c.with_ways.new.terms ≤ graph_weight c.kept_before.new.terms + 4 * summed (map (part_weight s.program.now s.step s.proc.now s.cut c.args.part) (map (λ w. w.end) ws))) c.as_slice.ensures c.in_ok-kept.ensures.weighs in
    weighs_all (is_rank_loop s.cut.kind) _ _ _ _ _ _ _ _ c.in_ok-first.ensures.weighs all c.in_ok-fails.ensures.weighs c.in_ok-given.ensures.weighs c.in_ok-id.ensures.weighs
