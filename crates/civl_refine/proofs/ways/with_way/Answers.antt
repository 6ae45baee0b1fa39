use Rattle.std.specs.Prelude.{Bool, not, ◌||◌, ◌&&◌}
use Rattle.std.proofs.Common.{ap}
use Rattle.civl_tree.specs.declared.expr.Sort.TheVariants.{Bool as Truth}
use Rattle.civl_terms.proofs.Growing.{grows_trans}
use Rattle.civl_conditions.specs.paths.Paths.{Progress, progress_of}
use Rattle.civl_states.specs.formula_parts.Said.{Env}
use Rattle.civl_states.proofs.formula_parts.Saying.{sort_stays, test_stays, test_where}
use Rattle.civl_body.specs.Walks.{ends_at}
use Rattle.civl_refine.specs.Judging.{fails_at}
use Rattle.civl_refine.proofs.Taking.{said_state, is_at, state_is, taken_same}
use Rattle.civl_refine.proofs.ways.with_way.Goals as goal

pub with_asked-requires-clause-taken : goal.with_asked-requires-clause-taken
with_asked-requires-clause-taken c = sort_stays _ _ _ Truth c.in_ok-asked.ensures.grows c.requires.way.taken

pub with_asked-requires-clause-test : goal.with_asked-requires-clause-test
with_asked-requires-clause-test c = sort_stays _ _ _ Truth c.in_ok-asked.ensures.grows c.requires.test

pub returns-in_err-id-clause-grows : goal.returns-in_err-id-clause-grows
returns-in_err-id-clause-grows c = grows_trans _ _ _ c.in_ok-asked.ensures.grows c.in_err-id.ensures.grows

pub returns-clause-test : goal.returns-clause-test
returns-clause-test c = λ f b o s begun way.
    let t = c.args.start.now in
    let p = t.program.now in
    let q = t.proc.now in
    let w = c.args.way.now in
    let old = c.args.terms.now in
    let one = c.in_ok-asked.ensures.grows in
    let state : Env → Progress = said_state old w o in
    let g : Env → Bool = λ env. ends_at q (o env) w.end in
    let bad : Env → Progress → Bool = λ env r. fails_at p t.step q t.number t.cut (b env) c.args.part w.end r in
    let at = is_at old c.len-count.ensures.graph p q o w way in
    let keeps = c.in_ok-asked.ensures.keeps b state begun at in
    test_where _ _ (λ env. f env && (not (g env) || not (bad env (state env)))) _
    (λ env fits. ap (λ (x : Bool). f env && x) (taken_same (g env) (bad env (state env)) (bad env (progress_of (o env)))
    (λ e. ap (bad env) (state_is old c.len-count.ensures.graph p q o w way env (one.fits env (c.in_ok-id.ensures.grows.fits env fits)) e))))
    (c.in_ok-id.ensures.test f g (λ env. not (bad env (state env))) (test_stays _ _ _ f one s) (test_stays _ _ _ g one way.taken) keeps)

pub returns-clause-grows : goal.returns-clause-grows
returns-clause-grows c = grows_trans _ _ _ c.in_ok-asked.ensures.grows c.in_ok-id.ensures.grows
