use Rattle.std.specs.Prelude.{map}
use Rattle.std.proofs.Common.{Bool, ℕ, List, ap}
use Rattle.civl_tree.specs.declared.expr.Sort.TheVariants.{Bool as Truth}
use Rattle.civl_terms.proofs.Growing.{grows_trans}
use Rattle.civl_conditions.specs.paths.Ends.{is_rank_loop}
use Rattle.civl_conditions.specs.Assumed.{assumed}
use Rattle.civl_conditions.specs.Weights.{summed}
use Rattle.civl_states.specs.formula_parts.Said.{Env}
use Rattle.civl_states.proofs.formula_parts.Saying.{sort_stays, test_stays, test_as}
use Rattle.civl_refine.proofs.Assuming.{begin_stays, begun_stays}
use Rattle.civl_refine.specs.inner.steadiness.Kept.{kept_weight}
use Rattle.civl_refine.specs.inner.steadiness.Losing.{apart_too, block_lost, end_weight}
use Rattle.civl_refine.proofs.steadiness.Aiming.{frame_stays, other_stays}
use Rattle.civl_refine.proofs.steadiness.Ending.{apart_is, weighs_block}
use Rattle.civl_refine.proofs.steadiness.blocks.block_loses.Goals as goal

pub with_apart-requires-clause-begins : goal.with_apart-requires-clause-begins
with_apart-requires-clause-begins c = begin_stays _ _ _ _ _ _ _ c.in_ok-lost.ensures.grows c.requires.walked.begins

pub with_apart-requires-clause-kept : goal.with_apart-requires-clause-kept
with_apart-requires-clause-kept c = frame_stays _ _ c.args.start.now.program.now c.args.kept.now c.in_ok-lost.ensures.grows c.requires.kept

pub assumed-requires-clause-begins : goal.assumed-requires-clause-begins
assumed-requires-clause-begins c = begin_stays _ _ _ _ _ _ _ (grows_trans _ _ _ c.in_ok-lost.ensures.grows c.in_ok-apart.ensures.grows) c.requires.walked.begins

pub both-requires-clause-b : goal.both-requires-clause-b
both-requires-clause-b c = sort_stays _ _ _ Truth c.in_ok-given.ensures.grows c.in_ok-apart.ensures.sorted

pub returns-in_err-apart-clause-grows : goal.returns-in_err-apart-clause-grows
returns-in_err-apart-clause-grows c = grows_trans _ _ _ c.in_ok-lost.ensures.grows c.in_err-apart.ensures.grows

pub returns-in_err-given-clause-grows : goal.returns-in_err-given-clause-grows
returns-in_err-given-clause-grows c = grows_trans _ _ _ c.in_ok-lost.ensures.grows (grows_trans _ _ _ c.in_ok-apart.ensures.grows c.in_err-given.ensures.grows)

pub returns-in_err-id-clause-grows : goal.returns-in_err-id-clause-grows
returns-in_err-id-clause-grows c = grows_trans _ _ _ c.in_ok-lost.ensures.grows (grows_trans _ _ _ c.in_ok-apart.ensures.grows (grows_trans _ _ _ c.in_ok-given.ensures.grows c.in_err-id.ensures.grows))

pub returns-clause-grows : goal.returns-clause-grows
returns-clause-grows c = grows_trans _ _ _ c.in_ok-lost.ensures.grows (grows_trans _ _ _ c.in_ok-apart.ensures.grows (grows_trans _ _ _ c.in_ok-given.ensures.grows c.in_ok-id.ensures.grows))

pub returns-clause-test : goal.returns-clause-test
returns-clause-test c = λ b o at walked says among.
    let s = c.args.start.now in
    let k = c.args.kept.now in
    let one = c.in_ok-lost.ensures.grows in
    let two = grows_trans _ _ _ one c.in_ok-apart.ensures.grows in
    let lost : Env → Bool = λ env. block_lost s k (b env) (o env) in
    let apart : Env → Bool = λ env. apart_too s k (b env) (o env) (lost env) in
    let given : Env → Bool = λ env. assumed s.program.now s.step s.proc.now s.number s.cut (b env) in
    let said_lost = c.in_ok-lost.ensures.test b o walked says among in
    let said_apart = c.in_ok-apart.ensures.test lost b o said_lost (begun_stays _ _ _ _ _ _ _ b one walked.begun) (other_stays _ _ k o one says) in
    let said_given = c.in_ok-given.ensures.test b at (begun_stays _ _ _ _ _ _ _ b two walked.begun) in
    test_as _ _ _ _ (λ env. apart_is s k (b env) (o env)) (c.in_ok-id.ensures.test given apart said_given (test_stays _ _ _ apart c.in_ok-given.ensures.grows said_apart))

pub returns-clause-weighs : goal.returns-clause-weighs
returns-clause-weighs c =
    let s = c.args.start.now in
    let ends = ap (λ (es : List ℕ). summed (map (end_weight s (kept_weight s.program.now s.step c.args.kept.now)) es)) c.requires.walked.ends in
    weighs_block (is_rank_loop s.cut.kind) _ _ _ _ _ _ _ _ _ _ c.in_ok-lost.ensures.weighs ends c.in_ok-apart.ensures.weighs c.in_ok-given.ensures.weighs c.in_ok-id.ensures.weighs
