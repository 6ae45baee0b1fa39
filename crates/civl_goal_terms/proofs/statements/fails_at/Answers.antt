use Rattle.std.proofs.Common.{sym, ap}
use Rattle.civl_goals.specs.Failed.{loses_invariant, begins_badly, leads_astray}
use Rattle.civl_goal_terms.specs.inner.Fails.{is_unsafe, fails_of}
use Rattle.civl_goal_terms.proofs.Concluding.{fails_safe, tells_as}
use Rattle.civl_goal_terms.proofs.statements.fails_at.Goals as goal

pub returns-in_ok-id-in-Safe-clause-tells : goal.returns-in_ok-id-in-Safe-clause-tells
returns-in_ok-id-in-Safe-clause-tells c =
    let p = c.args.program.now in
    let a = c.args.at.now in
    tells_as p c.args.outline.now a c.args.goal.now c.requires.own c.args.terms.now c.unsafe_at.new.terms c.args.setting.now c.in_ok-id-in-Safe.id (is_unsafe p a.root) (fails_safe p c.args.outline.now a c.args.goal.now c.requires.own _ _ c.in-Safe.is) c.in_ok-id-in-Safe.ensures.tells

pub returns-in_ok-id-in-Keep-clause-tells : goal.returns-in_ok-id-in-Keep-clause-tells
returns-in_ok-id-in-Keep-clause-tells c =
    let p = c.args.program.now in
    let o = c.args.outline.now in
    tells_as p o c.args.at.now c.args.goal.now c.requires.own c.args.terms.now c.loses_at.new.terms c.args.setting.now c.in_ok-id-in-Keep.id (loses_invariant p o) (sym (ap (fails_of p o) c.in-Keep.is)) c.in_ok-id-in-Keep.ensures.tells

pub returns-in_ok-id-in-Spawn-clause-tells : goal.returns-in_ok-id-in-Spawn-clause-tells
returns-in_ok-id-in-Spawn-clause-tells c =
    let p = c.args.program.now in
    let o = c.args.outline.now in
    tells_as p o c.args.at.now c.args.goal.now c.requires.own c.args.terms.now c.begins_at.new.terms c.args.setting.now c.in_ok-id-in-Spawn.id (begins_badly p o) (sym (ap (fails_of p o) c.in-Spawn.is)) c.in_ok-id-in-Spawn.ensures.tells

pub returns-in_ok-id-in-Next-clause-tells : goal.returns-in_ok-id-in-Next-clause-tells
returns-in_ok-id-in-Next-clause-tells c =
    let p = c.args.program.now in
    let o = c.args.outline.now in
    tells_as p o c.args.at.now c.args.goal.now c.requires.own c.args.terms.now c.leads_at.new.terms c.args.setting.now c.in_ok-id-in-Next.id (leads_astray p o) (sym (ap (fails_of p o) c.in-Next.is)) c.in_ok-id-in-Next.ensures.tells
