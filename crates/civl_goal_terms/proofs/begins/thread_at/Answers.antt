use Rattle.std.specs.Prelude.{◌&&◌}
use Rattle.std.proofs.Common.{ap, subst, arith}
use Rattle.civl_tree.specs.declared.expr.Sort.TheVariants.{Bool as Truth}
use Rattle.civl_tree.specs.declared.program.Thread.{Thread as Declared}
use Rattle.civl_tree.specs.rules.Scopes.{global_scope}
use Rattle.civl_meaning.specs.Meaning.{proc_number}
use Rattle.civl_terms.proofs.Growing.{grows_trans}
use Rattle.civl_conditions.specs.Invariants.{meets_init}
use Rattle.civl_states.specs.formula_parts.Said.{IsTest}
use Rattle.civl_states.proofs.formula_parts.Saying.{sort_stays, test_stays}
use Rattle.civl_states.proofs.formula_parts.Listing.{sorts_stay, said_stay}
use Rattle.civl_states.proofs.Picking.{same_some}
use Rattle.civl_states.proofs.Weighing.{weighs_some}
use Rattle.civl_goals.specs.Failed.{thread_fails}
use Rattle.civl_goals.specs.Weights.{first_note_weight}
use Rattle.civl_goal_terms.proofs.Beginning.{thread_lighter}
use Rattle.civl_goal_terms.proofs.begins.thread_at.Goals as goal

pub thread_astray-requires-clause-thread : goal.thread_astray-requires-clause-thread
thread_astray-requires-clause-thread c = (c.args.number, c.get-thread.ensures)

pub initial_at-requires-clause-rules : goal.initial_at-requires-clause-rules
initial_at-requires-clause-rules c = c.requires.layered.rules

pub thread_astray-requires-clause-globals : goal.thread_astray-requires-clause-globals
thread_astray-requires-clause-globals c = sorts_stay _ _ _ _ c.in_ok-initial.ensures.grows c.requires.globals

pub both-requires-clause-a : goal.both-requires-clause-a
both-requires-clause-a c = sort_stays _ _ _ Truth c.in_ok-astray.ensures.grows c.in_ok-initial.ensures.sorted

pub returns-clause-tells : goal.returns-clause-tells
returns-clause-tells c = λ t e g s.
    let p = c.args.program.now in
    let o = c.args.outline.now in
    let same = same_some _ c.get-thread.result.now t c.get-thread.ensures e in
    subst (λ (d : Declared). IsTest c.both.new.terms c.in_ok-id.id (λ env. meets_init p (g env) && thread_fails p o (g env) d)) same
    (c.in_ok-id.ensures.test (λ env. meets_init p (g env)) (λ env. thread_fails p o (g env) c.get-thread.result.now)
    (test_stays _ _ _ (λ env. meets_init p (g env)) c.in_ok-astray.ensures.grows (c.in_ok-initial.ensures.tells g s))
    (c.in_ok-astray.ensures.tells g (said_stay _ _ _ _ _ c.in_ok-initial.ensures.grows s)))

pub returns-clause-weighs : goal.returns-clause-weighs
returns-clause-weighs c = λ t e.
    let p = c.args.program.now in
    let same = same_some _ c.get-thread.result.now t c.get-thread.ensures e in
    let first = ap (λ (d : Declared). first_note_weight p c.args.outline.now (proc_number p d.callee)) same in
    omega (
      arith,
      c.in_ok-initial.ensures.weighs,
      c.in_ok-astray.ensures.weighs,
      c.in_ok-id.ensures.weighs,
      first,
      thread_lighter p c.args.number c.get-thread.result.now c.get-thread.ensures,
      weighs_some (global_scope p) p.init,
    )

pub returns-clause-grows : goal.returns-clause-grows
returns-clause-grows c = grows_trans _ _ _ c.in_ok-initial.ensures.grows (grows_trans _ _ _ c.in_ok-astray.ensures.grows c.in_ok-id.ensures.grows)

pub returns-in_err-astray-clause-grows : goal.returns-in_err-astray-clause-grows
returns-in_err-astray-clause-grows c = grows_trans _ _ _ c.in_ok-initial.ensures.grows c.in_err-astray.ensures.grows

pub returns-in_err-id-clause-grows : goal.returns-in_err-id-clause-grows
returns-in_err-id-clause-grows c = grows_trans _ _ _ c.in_ok-initial.ensures.grows (grows_trans _ _ _ c.in_ok-astray.ensures.grows c.in_err-id.ensures.grows)
