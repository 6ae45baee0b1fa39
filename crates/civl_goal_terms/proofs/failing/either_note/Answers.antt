use Rattle.civl_tree.specs.declared.expr.Sort.TheVariants.{Bool as Truth}
use Rattle.civl_terms.proofs.Growing.{grows_trans}
use Rattle.civl_states.proofs.formula_parts.Listing.{sorts_stay, said_stay}
use Rattle.civl_states.proofs.formula_parts.Saying.{sort_stays, test_as, test_stays}
use Rattle.civl_goals.specs.Outlines.{note_holds}
use Rattle.civl_goal_terms.specs.inner.Told.{frame}
use Rattle.civl_goal_terms.proofs.Branching.{same_place, either_place}
use Rattle.civl_goal_terms.proofs.failing.either_note.Goals as goal

pub returns-then-yes-no-clause-tells : goal.returns-then-yes-no-clause-tells
returns-then-yes-no-clause-tells c = λ t h test s.
    let p = c.args.program.now in
    let r = c.args.at.now.root in
    test_as _ _ _ _ (λ env. same_place (λ k. note_holds p c.args.outline.now (h env).store (frame r k (h env).locals)) (t env) c.args.yes c.args.no c.if-yes-no.true)
    (c.in_ok-first.ensures.tells (λ env. (h env).store) (λ env. (h env).locals) s.globals s.locals)

pub note_at-requires-2-clause-globals : goal.note_at-requires-2-clause-globals
note_at-requires-2-clause-globals c = sorts_stay _ _ _ _ c.in_ok-first.ensures.grows c.requires.can.globals

pub note_at-requires-2-clause-locals : goal.note_at-requires-2-clause-locals
note_at-requires-2-clause-locals c = sorts_stay _ _ _ _ c.in_ok-first.ensures.grows c.requires.can.locals

pub returns-in_err-second-clause-grows : goal.returns-in_err-second-clause-grows
returns-in_err-second-clause-grows c = grows_trans _ _ _ c.in_ok-first.ensures.grows c.in_err-second.ensures.grows

pub chosen-requires-clause-test : goal.chosen-requires-clause-test
chosen-requires-clause-test c = sort_stays _ _ _ Truth (grows_trans _ _ _ c.in_ok-first.ensures.grows c.in_ok-second.ensures.grows) c.requires.test

pub chosen-requires-clause-a : goal.chosen-requires-clause-a
chosen-requires-clause-a c = sort_stays _ _ _ Truth c.in_ok-second.ensures.grows c.in_ok-first.ensures.sorted

pub returns-in_err-id-clause-grows : goal.returns-in_err-id-clause-grows
returns-in_err-id-clause-grows c = grows_trans _ _ _ c.in_ok-first.ensures.grows (grows_trans _ _ _ c.in_ok-second.ensures.grows c.in_err-id.ensures.grows)

pub returns-clause-grows : goal.returns-clause-grows
returns-clause-grows c = grows_trans _ _ _ c.in_ok-first.ensures.grows (grows_trans _ _ _ c.in_ok-second.ensures.grows c.in_ok-id.ensures.grows)

pub returns-clause-tells : goal.returns-clause-tells
returns-clause-tells c = λ t h test s.
    let p = c.args.program.now in
    let r = c.args.at.now.root in
    let o = c.args.outline.now in
    let w = c.in_ok-first.ensures.grows in
    let v = c.in_ok-second.ensures.grows in
    test_as _ _ _ _ (λ env. either_place (λ k. note_holds p o (h env).store (frame r k (h env).locals)) (t env) c.args.yes c.args.no)
    (c.in_ok-id.ensures.test t (λ env. note_holds p o (h env).store (frame r c.args.yes (h env).locals)) (λ env. note_holds p o (h env).store (frame r c.args.no (h env).locals))
    (test_stays _ _ _ _ (grows_trans _ _ _ w v) test)
    (test_stays _ _ _ _ v (c.in_ok-first.ensures.tells (λ env. (h env).store) (λ env. (h env).locals) s.globals s.locals))
    (c.in_ok-second.ensures.tells (λ env. (h env).store) (λ env. (h env).locals) (said_stay _ _ _ _ _ w s.globals) (said_stay _ _ _ _ _ w s.locals)))
