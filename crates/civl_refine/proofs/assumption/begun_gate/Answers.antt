use Rattle.std.specs.Prelude.{Bool}
use Rattle.civl_tree.specs.declared.expr.Sort.TheVariants.{Bool as Truth}
use Rattle.std.proofs.Common.{arith}
use Rattle.civl_terms.proofs.Growing.{grows_trans}
use Rattle.civl_states.specs.formula_parts.Said.{Env}
use Rattle.civl_states.proofs.formula_parts.Saying.{sort_stays, test_stays, test_as}
use Rattle.civl_conditions.specs.Assumed.{refined_gate}
use Rattle.civl_refine.proofs.Assuming.{refined_is, refined_holds}
use Rattle.civl_refine.proofs.assumption.begun_gate.Goals as goal

pub gate_or_done-requires-clause-old_done : goal.gate_or_done-requires-clause-old_done
gate_or_done-requires-clause-old_done c = sort_stays _ _ _ Truth c.in_ok-gate.ensures.grows c.requires.begins.old_done

pub gate_or_done-requires-clause-done : goal.gate_or_done-requires-clause-done
gate_or_done-requires-clause-done c = sort_stays _ _ _ Truth c.in_ok-gate.ensures.grows c.requires.begins.done

pub returns-in_err-id-clause-grows : goal.returns-in_err-id-clause-grows
returns-in_err-id-clause-grows c = grows_trans _ _ _ c.in_ok-gate.ensures.grows c.in_err-id.ensures.grows

pub returns-clause-test : goal.returns-clause-test
returns-clause-test c = λ b at begun.
    let s = c.args.start.now in
    let p = s.program.now in
    let q = s.proc.now in
    let r = c.requires.start.refined in
    let g = c.in_ok-gate.ensures.grows in
    let f : Env → Bool = λ env. refined_gate p q (b env) in
    let gate = test_as _ _ _ f (λ env. refined_holds p q s.refined r (b env)) (c.in_ok-gate.ensures.test r.action (λ env. (b env).old) (λ env. (b env).locals) r.is begun.old_globals begun.locals) in
    c.in_ok-id.ensures.test (λ env. (b env).old_done) (λ env. (b env).done) f (test_stays _ _ _ _ g begun.old_done) (test_stays _ _ _ _ g begun.done) gate (λ env. (at env).entry) (λ env. (at env).present)

pub returns-clause-grows : goal.returns-clause-grows
returns-clause-grows c = grows_trans _ _ _ c.in_ok-gate.ensures.grows c.in_ok-id.ensures.grows

pub returns-clause-weighs : goal.returns-clause-weighs
returns-clause-weighs c =
    let r = c.requires.start.refined in
    refined_is c.args.start.now.program.now c.args.start.now.proc.now c.args.start.now.refined r _ (omega (arith, c.in_ok-gate.ensures.weighs r.action r.is, c.in_ok-id.ensures.weighs))
