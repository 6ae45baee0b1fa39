use Rattle.std.proofs.Common.{false, ap, arith}
use Rattle.civl_firing.specs.declared.scope.Scope.{Scope}
use Rattle.civl_firing.specs.Eval.{value_of}
use Rattle.civl_terms.proofs.Growing.{grows_trans}
use Rattle.civl_states.proofs.formula_parts.Saying.{constant_test}
use Rattle.civl_states.proofs.formula_parts.Listing.{sorts_stay, said_stay}
use Rattle.civl_refine.proofs.Judging.{plain_is, said_where}
use Rattle.civl_refine.proofs.steady.plain_note.Goals as goal

pub steady_note-requires-clause-globals : goal.steady_note-requires-clause-globals
steady_note-requires-clause-globals c = sorts_stay _ _ _ _ c.in_ok-no.ensures.grows c.requires.globals

pub steady_note-requires-clause-locals : goal.steady_note-requires-clause-locals
steady_note-requires-clause-locals c = sorts_stay _ _ _ _ c.in_ok-no.ensures.grows c.requires.locals

pub returns-clause-note : goal.returns-clause-note
returns-clause-note c = λ sort g v e s t.
    let one = c.in_ok-no.ensures.grows in
    said_where _ _ sort _ _ (λ env. ap (λ (x : Scope). value_of x c.args.expr.now) (plain_is c.args.program.now.globals c.args.proc.now (g env) (v env)))
    (c.in_ok-id.ensures.note.said sort g v (λ env. false) e (said_stay _ _ _ _ _ one s) (said_stay _ _ _ _ _ one t) (constant_test c.args.terms.now c.constant.new.self c.in_ok-no.no false c.in_ok-no.ensures.built))

pub returns-clause-weighs : goal.returns-clause-weighs
returns-clause-weighs c = omega (arith, c.in_ok-no.ensures.built.weighs, c.in_ok-id.ensures.weighs)

pub returns-clause-grows : goal.returns-clause-grows
returns-clause-grows c = grows_trans _ _ _ c.in_ok-no.ensures.grows c.in_ok-id.ensures.grows

pub returns-in_err-id-clause-grows : goal.returns-in_err-id-clause-grows
returns-in_err-id-clause-grows c = grows_trans _ _ _ c.in_ok-no.ensures.grows c.in_err-id.ensures.grows
