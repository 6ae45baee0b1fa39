use Rattle.std.proofs.Common.{arith}
use Rattle.civl_tree.specs.declared.expr.Sort.TheVariants.{Bool as Truth}
use Rattle.civl_terms.proofs.Growing.{grows_trans}
use Rattle.civl_states.proofs.formula_parts.Saying.{sort_stays, test_as, test_stays}
use Rattle.civl_goals.specs.Outlines.{note_holds}
use Rattle.civl_goal_terms.specs.inner.Told.{frame}
use Rattle.civl_goal_terms.specs.inner.Steps.{swept_by}
use Rattle.civl_goal_terms.proofs.Leading.{leads_is}
use Rattle.civl_goal_terms.proofs.failing.passes_astray.Goals as goal

pub note_at-requires-clause-proc : goal.note_at-requires-clause-proc
note_at-requires-clause-proc c = c.requires.at.proc

pub note_at-requires-clause-globals : goal.note_at-requires-clause-globals
note_at-requires-clause-globals c = c.in_ok-sweep.ensures.can.globals

pub note_at-requires-clause-locals : goal.note_at-requires-clause-locals
note_at-requires-clause-locals c = c.in_ok-sweep.ensures.can.locals

pub without-requires-clause-a : goal.without-requires-clause-a
without-requires-clause-a c = sort_stays _ _ _ Truth c.in_ok-note.ensures.grows c.in_ok-sweep.ensures.can.live.sorted

pub returns-in_err-note-clause-grows : goal.returns-in_err-note-clause-grows
returns-in_err-note-clause-grows c = grows_trans _ _ _ c.in_ok-sweep.ensures.grows c.in_err-note.ensures.grows

pub returns-in_err-id-clause-grows : goal.returns-in_err-id-clause-grows
returns-in_err-id-clause-grows c = grows_trans _ _ _ c.in_ok-sweep.ensures.grows (grows_trans _ _ _ c.in_ok-note.ensures.grows c.in_err-id.ensures.grows)

pub returns-clause-grows : goal.returns-clause-grows
returns-clause-grows c = grows_trans _ _ _ c.in_ok-sweep.ensures.grows (grows_trans _ _ _ c.in_ok-note.ensures.grows c.in_ok-id.ensures.grows)

pub returns-clause-weighs : goal.returns-clause-weighs
returns-clause-weighs c = omega (arith, c.in_ok-sweep.ensures.weighs, c.in_ok-note.ensures.weighs, c.in_ok-id.ensures.weighs)

pub returns-clause-tells : goal.returns-clause-tells
returns-clause-tells c = λ h s.
    let p = c.args.program.now in
    let a = c.args.at.now in
    let o = c.args.outline.now in
    let says = c.in_ok-sweep.ensures.says h s in
    test_as _ _ _ _ (λ env. leads_is p a c.requires.at (h env) o c.requires.plain)
    (c.in_ok-id.ensures.test (λ env. (swept_by p a (h env)).live) (λ env. note_holds p o (swept_by p a (h env)).store (frame a.root a.next (swept_by p a (h env)).locals))
    (test_stays _ _ _ _ c.in_ok-note.ensures.grows says.live) (c.in_ok-note.ensures.tells (λ env. (swept_by p a (h env)).store) (λ env. (swept_by p a (h env)).locals) says.globals says.locals))
