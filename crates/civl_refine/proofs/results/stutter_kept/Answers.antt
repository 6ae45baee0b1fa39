use Rattle.std.specs.Prelude.{Bool, not, ◌||◌, ◌&&◌}
use Rattle.civl_tree.specs.declared.expr.Sort.TheVariants.{Bool as Truth}
use Rattle.civl_meaning.specs.Change.{outs_in}
use Rattle.civl_terms.proofs.Growing.{grows_trans}
use Rattle.civl_conditions.specs.footprints.Agreement.{exists_at}
use Rattle.civl_conditions.specs.Values.{same_bool, same_values, same_stores}
use Rattle.civl_states.specs.formula_parts.Said.{Env}
use Rattle.civl_states.proofs.formula_parts.Saying.{sort_stays, test_stays, test_as}
use Rattle.civl_refine.proofs.Assuming.{begin_stays, begun_stays}
use Rattle.civl_refine.proofs.Judging.{end_stays, at_stays, stutter_is}
use Rattle.civl_refine.proofs.results.stutter_kept.Goals as goal

pub results_kept-requires-clause-begins : goal.results_kept-requires-clause-begins
results_kept-requires-clause-begins c = begin_stays _ _ _ _ _ _ _ c.in_ok-stays.ensures.grows c.requires.begins

pub results_kept-requires-clause-ends : goal.results_kept-requires-clause-ends
results_kept-requires-clause-ends c = end_stays _ _ _ _ _ c.in_ok-stays.ensures.grows c.requires.ends

pub returns-in_err-kept-clause-grows : goal.returns-in_err-kept-clause-grows
returns-in_err-kept-clause-grows c = grows_trans _ _ _ c.in_ok-stays.ensures.grows c.in_err-kept.ensures.grows

pub implied-requires-clause-a : goal.implied-requires-clause-a
implied-requires-clause-a c = sort_stays _ _ _ Truth c.in_ok-kept.ensures.grows c.in_ok-stays.ensures.sorted

pub returns-in_err-id-clause-grows : goal.returns-in_err-id-clause-grows
returns-in_err-id-clause-grows c = grows_trans _ _ _ c.in_ok-stays.ensures.grows (grows_trans _ _ _ c.in_ok-kept.ensures.grows c.in_err-id.ensures.grows)

pub returns-clause-test : goal.returns-clause-test
returns-clause-test c = λ b p begun at.
    let s = c.args.start.now in
    let one = c.in_ok-stays.ensures.grows in
    let f : Env → Bool = λ env. same_bool (p env).done (b env).old_done in
    let g : Env → Bool = λ env. same_stores (exists_at s.step) s.program.now (p env).store (b env).old && (not (b env).old_done || same_values (outs_in s.proc.now (p env).locals) (b env).old_outs) in
    test_as _ _ (λ env. not (f env) || g env) _ (λ env. stutter_is (f env) _ (b env).old_done _)
    (c.in_ok-id.ensures.test f g (test_stays _ _ _ f c.in_ok-kept.ensures.grows (c.in_ok-stays.ensures.test (λ env. (p env).done) (λ env. (b env).old_done) at.done begun.old_done))
    (c.in_ok-kept.ensures.test b p (begun_stays _ _ _ _ _ _ _ b one begun) (at_stays _ _ _ _ _ p one at)))

pub returns-clause-grows : goal.returns-clause-grows
returns-clause-grows c = grows_trans _ _ _ c.in_ok-stays.ensures.grows (grows_trans _ _ _ c.in_ok-kept.ensures.grows c.in_ok-id.ensures.grows)
