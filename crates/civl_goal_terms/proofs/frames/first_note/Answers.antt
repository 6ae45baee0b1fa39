use Rattle.std.proofs.Common.{◌++◌, arith}
use Rattle.civl_firing.specs.Scope.{zeros_of_params, zeros_of_locals}
use Rattle.civl_meaning.specs.Change.{new_frame}
use Rattle.civl_terms.proofs.Growing.{grows_trans}
use Rattle.civl_states.proofs.formula_parts.Listing.{sorts_stay, said_stay}
use Rattle.civl_goals.specs.Outlines.{note_holds}
use Rattle.civl_goal_terms.proofs.frames.first_note.Goals as goal

pub first_frame-requires-clause-rules : goal.first_frame-requires-clause-rules
first_frame-requires-clause-rules c = c.requires.layered.rules

pub note_at-requires-clause-globals : goal.note_at-requires-clause-globals
note_at-requires-clause-globals c = sorts_stay _ _ _ _ c.in_ok-locals.ensures.grows c.requires.globals

pub returns-in_err-note-clause-grows : goal.returns-in_err-note-clause-grows
returns-in_err-note-clause-grows c = grows_trans _ _ _ c.in_ok-locals.ensures.grows c.in_err-note.ensures.grows

pub returns-in_err-id-clause-grows : goal.returns-in_err-id-clause-grows
returns-in_err-id-clause-grows c = grows_trans _ _ _ c.in_ok-locals.ensures.grows (grows_trans _ _ _ c.in_ok-note.ensures.grows c.in_err-id.ensures.grows)

pub returns-clause-grows : goal.returns-clause-grows
returns-clause-grows c = grows_trans _ _ _ c.in_ok-locals.ensures.grows (grows_trans _ _ _ c.in_ok-note.ensures.grows c.in_ok-id.ensures.grows)

pub returns-clause-weighs : goal.returns-clause-weighs
returns-clause-weighs c = omega (arith, c.in_ok-locals.ensures.weighs, c.in_ok-note.ensures.weighs, c.in_ok-id.ensures.weighs)

pub returns-clause-tells : goal.returns-clause-tells
returns-clause-tells c = λ g v st sa.
    let p = c.args.program.now in
    let q = c.args.proc.now in
    c.in_ok-id.ensures.test (λ env. note_holds p c.args.outline.now (g env) (new_frame c.args.number q (v env)))
    (c.in_ok-note.ensures.tells g (λ env. v env ++ (zeros_of_params q.outs ++ zeros_of_locals q.locals)) (said_stay _ _ _ _ _ c.in_ok-locals.ensures.grows st) (c.in_ok-locals.ensures.said v sa))
