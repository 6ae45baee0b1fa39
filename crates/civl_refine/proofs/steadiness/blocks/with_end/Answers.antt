use Rattle.std.specs.Prelude.{Bool, not, ◌||◌, ◌&&◌}
use Rattle.std.proofs.Common.{ap}
use Rattle.civl_tree.specs.declared.expr.Sort.TheVariants.{Bool as Truth}
use Rattle.civl_terms.proofs.Growing.{grows_trans}
use Rattle.civl_conditions.specs.paths.Paths.{Progress, progress_of}
use Rattle.civl_states.specs.formula_parts.Said.{Env}
use Rattle.civl_states.proofs.formula_parts.Saying.{sort_stays, test_stays, test_where}
use Rattle.civl_body.specs.Walks.{ends_at}
use Rattle.civl_refine.proofs.Taking.{said_state, is_at, state_is}
use Rattle.civl_refine.specs.inner.steadiness.Kept.{kept_before, kept_after}
use Rattle.civl_refine.proofs.steadiness.Ending.{kept_same}
use Rattle.civl_refine.proofs.steadiness.blocks.with_end.Goals as goal

pub implied-requires-clause-a : goal.implied-requires-clause-a
implied-requires-clause-a c = sort_stays _ _ _ Truth c.in_ok-after.ensures.grows c.requires.before

pub implied-requires-2-clause-a : goal.implied-requires-2-clause-a
implied-requires-2-clause-a c = sort_stays _ _ _ Truth (grows_trans _ _ _ c.in_ok-after.ensures.grows c.in_ok-stays.ensures.grows) c.requires.way.taken

pub both-requires-clause-a : goal.both-requires-clause-a
both-requires-clause-a c = sort_stays _ _ _ Truth (grows_trans _ _ _ c.in_ok-after.ensures.grows (grows_trans _ _ _ c.in_ok-stays.ensures.grows c.in_ok-taken.ensures.grows)) c.requires.test

pub returns-in_err-stays-clause-grows : goal.returns-in_err-stays-clause-grows
returns-in_err-stays-clause-grows c = grows_trans _ _ _ c.in_ok-after.ensures.grows c.in_err-stays.ensures.grows

pub returns-in_err-taken-clause-grows : goal.returns-in_err-taken-clause-grows
returns-in_err-taken-clause-grows c = grows_trans _ _ _ c.in_ok-after.ensures.grows (grows_trans _ _ _ c.in_ok-stays.ensures.grows c.in_err-taken.ensures.grows)

pub returns-in_err-id-clause-grows : goal.returns-in_err-id-clause-grows
returns-in_err-id-clause-grows c = grows_trans _ _ _ c.in_ok-after.ensures.grows (grows_trans _ _ _ c.in_ok-stays.ensures.grows (grows_trans _ _ _ c.in_ok-taken.ensures.grows c.in_err-id.ensures.grows))

pub returns-clause-grows : goal.returns-clause-grows
returns-clause-grows c = grows_trans _ _ _ c.in_ok-after.ensures.grows (grows_trans _ _ _ c.in_ok-stays.ensures.grows (grows_trans _ _ _ c.in_ok-taken.ensures.grows c.in_ok-id.ensures.grows))

pub returns-clause-test : goal.returns-clause-test
returns-clause-test c = λ f b o out t first says way.
    let s = c.args.start.now in
    let p = s.program.now in
    let q = s.proc.now in
    let k = c.args.kept.now in
    let w = c.args.way.now in
    let old = c.args.terms.now in
    let one = c.in_ok-after.ensures.grows in
    let two = grows_trans _ _ _ one c.in_ok-stays.ensures.grows in
    let three = grows_trans _ _ _ two c.in_ok-taken.ensures.grows in
    let four = grows_trans _ _ _ three c.in_ok-id.ensures.grows in
    let state : Env → Progress = said_state old w out in
    let g : Env → Bool = λ env. ends_at q (out env) w.end in
    let before : Env → Bool = λ env. kept_before p k (o env) (b env).old in
    let after : Env → Bool = λ env. kept_after p s.step k (o env) (state env).store in
    let at = is_at old c.len-count.ensures.graph p q out w way in
    let said = c.in_ok-after.ensures.tells o (λ env. (state env).store) says at.globals in
    let stays = c.in_ok-stays.ensures.test before after (test_stays _ _ _ before one first) said in
    let taken = c.in_ok-taken.ensures.test g (λ env. not (before env) || after env) (test_stays _ _ _ g two way.taken) stays in
    test_where _ _ (λ env. f env && (not (g env) || (not (before env) || after env))) _
    (λ env fits. ap (λ (x : Bool). f env && x) (kept_same (g env) (before env) (after env) (kept_after p s.step k (o env) (progress_of (out env)).store)
    (λ e. ap (λ (r : Progress). kept_after p s.step k (o env) r.store) (state_is old c.len-count.ensures.graph p q out w way env (four.fits env fits) e))))
    (c.in_ok-id.ensures.test f (λ env. not (g env) || (not (before env) || after env)) (test_stays _ _ _ f three t) taken)
