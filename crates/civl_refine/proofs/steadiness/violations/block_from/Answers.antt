use Rattle.std.specs.Prelude.{length, map}
use Rattle.std.proofs.Common.{◌∙◌, arith}
use Rattle.civl_terms.proofs.Growing.{lengthens_trans, lengthened}
use Rattle.civl_conditions.specs.Values.{Begun, begun}
use Rattle.civl_states.specs.formula_parts.Said.{Env}
use Rattle.civl_states.specs.formula_parts.Given.{given}
use Rattle.civl_states.proofs.formula_parts.Giving.{variables_kept}
use Rattle.civl_states.proofs.Given.{stand_within}
use Rattle.civl_refine.specs.Walked.{sorts_from}
use Rattle.civl_refine.proofs.Begun.{begins_at}
use Rattle.civl_refine.proofs.Cutting.{refines_some, some_is}
use Rattle.civl_refine.proofs.Placing.{paths_long}
use Rattle.civl_refine.proofs.Violating.{arrives_among}
use Rattle.civl_refine.proofs.steadiness.Aiming.{frame_after, other_after}
use Rattle.civl_refine.proofs.steadiness.violations.block_from.Goals as goal

pub block_loses-requires-clause-kept : goal.block_loses-requires-clause-kept
block_loses-requires-clause-kept c = frame_after _ _ c.args.start.now.program.now c.args.kept.now c.in_ok-walked.ensures.lengthens c.requires.kept

pub block_loses-requires-clause-cuts : goal.block_loses-requires-clause-cuts
block_loses-requires-clause-cuts c = c.as_slice-cuts.ensures ∙ c.requires.body.cuts

pub returns-in_err-id-clause-lengthens : goal.returns-in_err-id-clause-lengthens
returns-in_err-id-clause-lengthens c = lengthens_trans _ _ _ c.in_ok-walked.ensures.lengthens (lengthened _ _ c.in_err-id.ensures.grows)

pub returns-clause-lengthens : goal.returns-clause-lengthens
returns-clause-lengthens c = lengthens_trans _ _ _ c.in_ok-walked.ensures.lengthens (lengthened _ _ c.in_ok-id.ensures.grows)

pub returns-clause-variables : goal.returns-clause-variables
returns-clause-variables c = variables_kept _ _ c.args.sorts.now c.in_ok-id.ensures.grows c.in_ok-walked.ensures.variables

pub returns-clause-test : goal.returns-clause-test
returns-clause-test c = λ o says.
    let s = c.args.start.now in
    let n = length c.args.sorts.now in
    let b : Env → Begun = λ env. begun s.program.now s.step s.proc.now s.cut (given env 0 n) in
    let w = c.in_ok-walked.ensures.walked n (omega (arith, paths_long s.program.now s.step s.proc.now s.cut, stand_within c.args.sorts.now 0 (sorts_from s) c.requires.stand)) in
    let of = some_is s.proc.now.refines (refines_some s.program.now s.proc.now s.refined c.requires.start.refined) in
    c.in_ok-id.ensures.test b o (λ env. begins_at s.program.now s.step s.proc.now s.cut (given env 0 n)) w (other_after _ _ c.args.kept.now o c.in_ok-walked.ensures.lengthens says)
    (λ env. arrives_among s (b env) of.0 of.1 (map (λ y. y.end) c.in_ok-walked.walked.walk.ways) c.in_ok-walked.ensures.can.ends)
