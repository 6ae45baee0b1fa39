use Rattle.std.proofs.Common.{◌∙◌, Bool, List, ℕ, ap, sym, subst, arith, refl}
use Rattle.std.specs.Prelude.{if◌then◌else◌}
use Rattle.civl_tree.specs.declared.expr.Sort.TheVariants.{Bool as Truth}
use Rattle.civl_firing.specs.values.Values.{is_true}
use Rattle.civl_firing.specs.Eval.{value_of}
use Rattle.civl_firing.specs.Scope.{frame_values}
use Rattle.civl_actions.specs.Scopes.{AreOf}
use Rattle.civl_meaning.specs.Config.{frame_sorts}
use Rattle.civl_terms.proofs.Growing.{grows_trans}
use Rattle.civl_states.specs.formula_parts.Said.{Env}
use Rattle.civl_states.proofs.formula_parts.Saying.{test_as}
use Rattle.civl_moves.specs.Expressions.{IsBodyTerm}
use Rattle.civl_goals.specs.Outlines.{note_holds}
use Rattle.civl_goals.specs.Weights.{note_before_weight, summed_at}
use Rattle.civl_goal_terms.specs.inner.Told.{frame}
use Rattle.civl_goal_terms.proofs.Branching.{fork_suits, fork_weighs, fork_tells}
use Rattle.civl_goal_terms.proofs.Leading.{forks_is}
use Rattle.civl_goal_terms.proofs.Stepping.{can_stay, says_stay}
use Rattle.civl_goal_terms.proofs.failing.forks_astray.Goals as goal

pub body_term-requires-clause-rules : goal.body_term-requires-clause-rules
body_term-requires-clause-rules c = c.requires.layered.rules

pub body_term-requires-clause-proc : goal.body_term-requires-clause-proc
body_term-requires-clause-proc c = (c.args.at.now.root, c.requires.at.proc)

pub body_term-requires-clause-typed : goal.body_term-requires-clause-typed
body_term-requires-clause-typed c = (fork_suits c.args.program.now c.requires.layered c.args.at.now c.requires.at _ _ _ c.requires.fork).typed

pub body_term-requires-clause-locals : goal.body_term-requires-clause-locals
body_term-requires-clause-locals c = subst (λ (ids : List ℕ). AreOf c.args.terms.now ids (frame_sorts c.args.at.now.proc.now)) (sym c.as_slice-locals.ensures) c.requires.can.locals

pub either_note-requires-clause-can : goal.either_note-requires-clause-can
either_note-requires-clause-can c = can_stay c.args.terms.now c.body_term.new.terms c.args.program.now c.args.at.now c.args.setting.now c.in_ok-test.ensures.grows c.requires.can

pub either_note-requires-clause-test : goal.either_note-requires-clause-test
either_note-requires-clause-test c = c.in_ok-test.ensures.term.sorted ∙ (fork_suits c.args.program.now c.requires.layered c.args.at.now c.requires.at _ _ _ c.requires.fork).sorted Truth refl

pub returns-in_err-note-clause-grows : goal.returns-in_err-note-clause-grows
returns-in_err-note-clause-grows c = grows_trans _ _ _ c.in_ok-test.ensures.grows c.in_err-note.ensures.grows

pub returns-in_err-id-clause-grows : goal.returns-in_err-id-clause-grows
returns-in_err-id-clause-grows c = grows_trans _ _ _ c.in_ok-test.ensures.grows (grows_trans _ _ _ c.in_ok-note.ensures.grows c.in_err-id.ensures.grows)

pub returns-clause-grows : goal.returns-clause-grows
returns-clause-grows c = grows_trans _ _ _ c.in_ok-test.ensures.grows (grows_trans _ _ _ c.in_ok-note.ensures.grows c.in_ok-id.ensures.grows)

pub returns-clause-weighs : goal.returns-clause-weighs
returns-clause-weighs c =
    let p = c.args.program.now in
    let w = fork_weighs p c.requires.layered c.args.at.now c.requires.at _ _ _ c.requires.fork in
    omega (arith, c.in_ok-test.ensures.weighs, c.in_ok-note.ensures.weighs, c.in_ok-id.ensures.weighs, w.0, ap (summed_at (note_before_weight p c.args.outline.now c.args.at.now.root)) w.1)

pub returns-clause-tells : goal.returns-clause-tells
returns-clause-tells c = λ h s.
    let p = c.args.program.now in
    let a = c.args.at.now in
    let o = c.args.terms.now in
    let m = c.body_term.new.terms in
    let e = c.args.fork.condition.now in
    let w = c.in_ok-test.ensures.grows in
    let term = subst (λ (ids : List ℕ). IsBodyTerm o m p a.proc.now ids e c.in_ok-test.test) c.as_slice-locals.ensures c.in_ok-test.ensures.term in
    let tells : Env → Bool = λ env. is_true (value_of (frame_values p.globals a.proc.now (h env).locals) e) in
    test_as _ _ _ _ (λ env. forks_is p a c.requires.at (h env) c.args.outline.now e c.args.fork.yes c.args.fork.no c.requires.fork)
    (c.in_ok-id.ensures.test (λ env. note_holds p c.args.outline.now (h env).store (frame a.root (if tells env then c.args.fork.yes else c.args.fork.no) (h env).locals))
    (c.in_ok-note.ensures.tells tells h (fork_tells p c.requires.layered a c.requires.at e _ _ c.requires.fork o m c.args.setting.now c.in_ok-test.test h w term s) (says_stay o m p a c.args.setting.now w h s)))
