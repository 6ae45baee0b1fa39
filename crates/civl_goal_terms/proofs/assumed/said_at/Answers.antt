use Rattle.std.proofs.Common.{arith}
use Rattle.civl_tree.specs.declared.expr.Sort.TheVariants.{Bool as Truth}
use Rattle.civl_terms.proofs.Growing.{grows_trans}
use Rattle.civl_states.proofs.formula_parts.Saying.{sort_stays, test_stays}
use Rattle.civl_states.proofs.formula_parts.Listing.{sorts_stay, said_stay}
use Rattle.civl_goals.specs.Outlines.{invariant_holds, note_holds}
use Rattle.civl_goal_terms.specs.inner.Settings.{frame_at}
use Rattle.civl_goal_terms.proofs.assumed.said_at.Goals as goal

pub holds_at-requires-clause-globals : goal.holds_at-requires-clause-globals
holds_at-requires-clause-globals c = c.requires.can.globals

pub note_at-requires-clause-proc : goal.note_at-requires-clause-proc
note_at-requires-clause-proc c = c.requires.at.proc

pub note_at-requires-clause-globals : goal.note_at-requires-clause-globals
note_at-requires-clause-globals c = sorts_stay _ _ _ _ c.in_ok-holds.ensures.grows c.requires.can.globals

pub note_at-requires-clause-locals : goal.note_at-requires-clause-locals
note_at-requires-clause-locals c = sorts_stay _ _ _ _ c.in_ok-holds.ensures.grows c.requires.can.locals

pub both-requires-clause-a : goal.both-requires-clause-a
both-requires-clause-a c = sort_stays _ _ _ Truth c.in_ok-note.ensures.grows c.in_ok-holds.ensures.sorted

pub returns-clause-tells : goal.returns-clause-tells
returns-clause-tells c = λ h says.
    let p = c.args.program.now in
    let o = c.args.outline.now in
    let u = c.in_ok-holds.ensures.grows in
    c.in_ok-id.ensures.test (λ env. invariant_holds p o (h env).store) (λ env. note_holds p o (h env).store (frame_at c.args.at.now (h env)))
    (test_stays _ _ _ (λ env. invariant_holds p o (h env).store) c.in_ok-note.ensures.grows (c.in_ok-holds.ensures.tells (λ env. (h env).store) says.globals))
    (c.in_ok-note.ensures.tells (λ env. (h env).store) (λ env. (h env).locals) (said_stay _ _ _ _ _ u says.globals) (said_stay _ _ _ _ _ u says.locals))

pub returns-clause-weighs : goal.returns-clause-weighs
returns-clause-weighs c = omega (arith, c.in_ok-holds.ensures.weighs, c.in_ok-note.ensures.weighs, c.in_ok-id.ensures.weighs)

pub returns-clause-grows : goal.returns-clause-grows
returns-clause-grows c = grows_trans _ _ _ c.in_ok-holds.ensures.grows (grows_trans _ _ _ c.in_ok-note.ensures.grows c.in_ok-id.ensures.grows)

pub returns-in_err-note-clause-grows : goal.returns-in_err-note-clause-grows
returns-in_err-note-clause-grows c = grows_trans _ _ _ c.in_ok-holds.ensures.grows c.in_err-note.ensures.grows

pub returns-in_err-id-clause-grows : goal.returns-in_err-id-clause-grows
returns-in_err-id-clause-grows c = grows_trans _ _ _ c.in_ok-holds.ensures.grows (grows_trans _ _ _ c.in_ok-note.ensures.grows c.in_err-id.ensures.grows)
