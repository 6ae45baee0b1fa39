use Rattle.std.specs.Prelude.{◌&&◌, not}
use Rattle.std.proofs.Common.{sym, arith}
use Rattle.civl_tree.specs.declared.expr.Sort.TheVariants.{Bool as Truth}
use Rattle.civl_terms.proofs.Growing.{grows_trans}
use Rattle.civl_moves.specs.sweeps.Sweeps.{Swept}
use Rattle.civl_states.specs.formula_parts.Said.{Env}
use Rattle.civl_states.proofs.formula_parts.Saying.{sort_stays, test_stays, test_as}
use Rattle.civl_states.proofs.formula_parts.Listing.{sorts_stay, said_stay}
use Rattle.civl_goals.specs.Outlines.{note_holds}
use Rattle.civl_goal_terms.specs.inner.Others.{other_frame}
use Rattle.civl_goal_terms.specs.inner.Steps.{swept_by}
use Rattle.civl_goal_terms.proofs.OthersFiring.{call_fires}
use Rattle.civl_goal_terms.proofs.others.loses_note.Goals as goal

pub note_at-requires-clause-proc : goal.note_at-requires-clause-proc
note_at-requires-clause-proc c = c.requires.other

pub note_at-requires-clause-globals : goal.note_at-requires-clause-globals
note_at-requires-clause-globals c = c.in_ok-sweep.ensures.can.globals

pub note_at-requires-clause-locals : goal.note_at-requires-clause-locals
note_at-requires-clause-locals c = sorts_stay _ _ _ _ c.in_ok-sweep.ensures.grows c.requires.locals

pub without-requires-clause-a : goal.without-requires-clause-a
without-requires-clause-a c = sort_stays _ _ _ Truth c.in_ok-note.ensures.grows c.in_ok-sweep.ensures.can.live.sorted

pub returns-clause-tells : goal.returns-clause-tells
returns-clause-tells c = λ h l says said.
    let p = c.args.program.now in
    let o = c.args.outline.now in
    let at = c.args.at.now in
    let other = c.args.other.now in
    let d : Env → Swept = λ env. swept_by p at (h env) in
    let s = c.in_ok-sweep.ensures.says h says in
    test_as _ c.in_ok-id.id (λ env. (d env).live && not (note_holds p o (d env).store (other_frame other (l env)))) _
    (λ env. sym (call_fires p at (h env) (λ after. not (note_holds p o after (other_frame other (l env)))) c.requires.at c.requires.call))
    (c.in_ok-id.ensures.test (λ env. (d env).live) (λ env. note_holds p o (d env).store (other_frame other (l env)))
    (test_stays _ _ _ (λ env. (d env).live) c.in_ok-note.ensures.grows s.live)
    (c.in_ok-note.ensures.tells (λ env. (d env).store) l s.globals (said_stay _ _ _ _ _ c.in_ok-sweep.ensures.grows said)))

pub returns-clause-weighs : goal.returns-clause-weighs
returns-clause-weighs c = omega (arith, c.in_ok-sweep.ensures.weighs, c.in_ok-note.ensures.weighs, c.in_ok-id.ensures.weighs)

pub returns-clause-grows : goal.returns-clause-grows
returns-clause-grows c = grows_trans _ _ _ c.in_ok-sweep.ensures.grows (grows_trans _ _ _ c.in_ok-note.ensures.grows c.in_ok-id.ensures.grows)

pub returns-in_err-note-clause-grows : goal.returns-in_err-note-clause-grows
returns-in_err-note-clause-grows c = grows_trans _ _ _ c.in_ok-sweep.ensures.grows c.in_err-note.ensures.grows

pub returns-in_err-id-clause-grows : goal.returns-in_err-id-clause-grows
returns-in_err-id-clause-grows c = grows_trans _ _ _ c.in_ok-sweep.ensures.grows (grows_trans _ _ _ c.in_ok-note.ensures.grows c.in_err-id.ensures.grows)
