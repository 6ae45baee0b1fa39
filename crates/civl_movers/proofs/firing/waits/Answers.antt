use Rattle.std.proofs.Common.{Bool, not, arith}
use Rattle.civl_tree.specs.declared.expr.Sort.TheVariants.{Bool as Truth}
use Rattle.civl_firing.specs.Fired.{gate_holds}
use Rattle.civl_terms.proofs.Growing.{grows_trans}
use Rattle.civl_states.specs.formula_parts.Said.{Env}
use Rattle.civl_states.proofs.formula_parts.Saying.{sort_stays, test_stays}
use Rattle.civl_states.proofs.formula_parts.Listing.{sorts_stay, said_stay}
use Rattle.civl_movers.specs.Runs.{guard_offered}
use Rattle.civl_states.proofs.Runs.{inputs_stay}
use Rattle.civl_movers.proofs.firing.waits.Goals as goal

pub offered_guard-requires-clause-globals : goal.offered_guard-requires-clause-globals
offered_guard-requires-clause-globals c = sorts_stay _ _ _ _ c.in_ok-gate.ensures.grows c.requires.globals

pub offered_guard-requires-clause-inputs : goal.offered_guard-requires-clause-inputs
offered_guard-requires-clause-inputs c = inputs_stay _ _ _ _ _ c.in_ok-gate.ensures.grows c.requires.inputs

pub both-requires-clause-a : goal.both-requires-clause-a
both-requires-clause-a c = sort_stays _ _ _ Truth (grows_trans _ _ _ c.in_ok-guarded.ensures.grows c.in_ok-waiting.ensures.grows) c.in_ok-gate.ensures.sorted

pub returns-clause-tells : goal.returns-clause-tells
returns-clause-tells c = λ b g j sg e h.
    let p = c.args.program.now in
    let v = c.in_ok-gate.ensures.grows in
    let w = grows_trans _ _ _ c.in_ok-guarded.ensures.grows c.in_ok-waiting.ensures.grows in
    let f0 : Env → Bool = λ env. gate_holds p.globals (g env) b (j env) in
    let f1 : Env → Bool = λ env. guard_offered p (g env) b (j env) in
    c.in_ok-id.ensures.test f0 (λ env. not (f1 env)) (test_stays _ _ _ f0 w (c.in_ok-gate.ensures.gate b g j sg e h))
    (c.in_ok-waiting.ensures.test f1 (c.in_ok-guarded.ensures.guard b g j (said_stay _ _ _ _ _ v sg) e (said_stay _ _ _ _ _ v h)))

pub returns-clause-weighs : goal.returns-clause-weighs
returns-clause-weighs c = λ a e. omega (arith, c.in_ok-gate.ensures.weighs a e, c.in_ok-guarded.ensures.weighs a e, c.in_ok-waiting.ensures.weighs, c.in_ok-id.ensures.weighs)

pub returns-clause-grows : goal.returns-clause-grows
returns-clause-grows c = grows_trans _ _ _ c.in_ok-gate.ensures.grows (grows_trans _ _ _ c.in_ok-guarded.ensures.grows (grows_trans _ _ _ c.in_ok-waiting.ensures.grows c.in_ok-id.ensures.grows))

pub returns-in_err-guarded-clause-grows : goal.returns-in_err-guarded-clause-grows
returns-in_err-guarded-clause-grows c = grows_trans _ _ _ c.in_ok-gate.ensures.grows c.in_err-guarded.ensures.grows

pub returns-in_err-waiting-clause-grows : goal.returns-in_err-waiting-clause-grows
returns-in_err-waiting-clause-grows c = grows_trans _ _ _ c.in_ok-gate.ensures.grows (grows_trans _ _ _ c.in_ok-guarded.ensures.grows c.in_err-waiting.ensures.grows)

pub returns-in_err-id-clause-grows : goal.returns-in_err-id-clause-grows
returns-in_err-id-clause-grows c = grows_trans _ _ _ c.in_ok-gate.ensures.grows (grows_trans _ _ _ c.in_ok-guarded.ensures.grows (grows_trans _ _ _ c.in_ok-waiting.ensures.grows c.in_err-id.ensures.grows))
