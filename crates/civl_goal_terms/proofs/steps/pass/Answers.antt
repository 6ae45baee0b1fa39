use Rattle.std.proofs.Common.{ap, subst, arith, map}
use Rattle.civl_tree.specs.declared.stmt.Stmt.TheOpen.{Stmt-F}
use Rattle.civl_meaning.specs.Layers.{topmost}
use Rattle.civl_actions.specs.Scopes.{AreOf}
use Rattle.civl_conditions.specs.Variables.{layer_choices}
use Rattle.civl_states.specs.formula_parts.Lists.{AreSaid}
use Rattle.civl_body.proofs.Forms.{is_assign, is_assert, is_if, is_while, is_yield_loop, is_rank_loop, is_call, is_yield, is_commit, is_intro, is_spawn}
use Rattle.civl_body.proofs.Typed.{assign_suits, assert_suits}
use Rattle.civl_goals.specs.Weights.{form_weight}
use Rattle.civl_goal_terms.proofs.Stepping.{form_moves, still}
use Rattle.civl_goal_terms.proofs.steps.pass.Goals as goal

pub pass_assign-requires-clause-rules : goal.pass_assign-requires-clause-rules
pass_assign-requires-clause-rules c = c.requires.layered.rules

pub pass_assign-requires-clause-proc : goal.pass_assign-requires-clause-proc
pass_assign-requires-clause-proc c = (c.args.at.now.root, c.requires.at.proc)

pub pass_assign-requires-clause-suits : goal.pass_assign-requires-clause-suits
pass_assign-requires-clause-suits c =
    let a = c.args.at.now in
    assign_suits c.args.program.now c.requires.layered.rules a.proc.now (a.root, c.requires.at.proc) a.number a.stmt.now c.in-Assign.target c.in-Assign.expr c.requires.at.stmt (is_assign a.stmt.now _ _ c.in-Assign.is)

pub pass_assert-requires-clause-rules : goal.pass_assert-requires-clause-rules
pass_assert-requires-clause-rules c = c.requires.layered.rules

pub pass_assert-requires-clause-proc : goal.pass_assert-requires-clause-proc
pass_assert-requires-clause-proc c = (c.args.at.now.root, c.requires.at.proc)

pub pass_assert-requires-clause-suits : goal.pass_assert-requires-clause-suits
pass_assert-requires-clause-suits c =
    let a = c.args.at.now in
    assert_suits c.args.program.now c.requires.layered.rules a.proc.now (a.root, c.requires.at.proc) a.number a.stmt.now c.in-Assert.fact c.requires.at.stmt (is_assert a.stmt.now _ c.in-Assert.is)

pub pass_call-requires-clause-stands : goal.pass_call-requires-clause-stands
pass_call-requires-clause-stands c = let a = c.args.at.now in (a.stmt.now, c.requires.at.stmt, is_call a.stmt.now _ _ _ c.in-Call.is)

pub pass_call-requires-clause-choices : goal.pass_call-requires-clause-choices
pass_call-requires-clause-choices c =
    subst (λ (d : Stmt-F _). AreOf c.args.terms.now c.args.choices.now (map (λ k. k.sort) (layer_choices (topmost c.args.program.now) d))) (is_call c.args.at.now.stmt.now _ _ _ c.in-Call.is) c.requires.choices

pub returns-in_ok-pass_assign-in-Assign-clause-moves : goal.returns-in_ok-pass_assign-in-Assign-clause-moves
returns-in_ok-pass_assign-in-Assign-clause-moves c = λ v said.
    form_moves c.args.program.now c.args.at.now c.args.terms.now c.pass_assign.new.terms c.args.sweep.now c.pass_assign.new.sweep v _ (is_assign c.args.at.now.stmt.now _ _ c.in-Assign.is) c.in_ok-pass_assign-in-Assign.ensures.moves

pub returns-in_ok-pass_assert-in-Assert-clause-moves : goal.returns-in_ok-pass_assert-in-Assert-clause-moves
returns-in_ok-pass_assert-in-Assert-clause-moves c = λ v said.
    form_moves c.args.program.now c.args.at.now c.args.terms.now c.pass_assert.new.terms c.args.sweep.now c.pass_assert.new.sweep v _ (is_assert c.args.at.now.stmt.now _ c.in-Assert.is) c.in_ok-pass_assert-in-Assert.ensures.moves

pub returns-in_ok-pass_call-in-Call-clause-moves : goal.returns-in_ok-pass_call-in-Call-clause-moves
returns-in_ok-pass_call-in-Call-clause-moves c = λ v said.
    let e = is_call c.args.at.now.stmt.now _ _ _ c.in-Call.is in
    form_moves c.args.program.now c.args.at.now c.args.terms.now c.pass_call.new.terms c.args.sweep.now c.pass_call.new.sweep v _ e
    (c.in_ok-pass_call-in-Call.ensures.moves v (subst (λ (d : Stmt-F _). AreSaid c.args.terms.now c.args.choices.now (map (λ k. k.sort) (layer_choices (topmost c.args.program.now) d)) v) e said))

pub returns-in_ok-pass_assign-in-Assign-clause-weighs : goal.returns-in_ok-pass_assign-in-Assign-clause-weighs
returns-in_ok-pass_assign-in-Assign-clause-weighs c = omega (arith, c.in_ok-pass_assign-in-Assign.ensures.weighs, ap (form_weight c.args.program.now c.args.at.now.proc.now) (is_assign c.args.at.now.stmt.now _ _ c.in-Assign.is))

pub returns-in_ok-pass_assert-in-Assert-clause-weighs : goal.returns-in_ok-pass_assert-in-Assert-clause-weighs
returns-in_ok-pass_assert-in-Assert-clause-weighs c = omega (arith, c.in_ok-pass_assert-in-Assert.ensures.weighs, ap (form_weight c.args.program.now c.args.at.now.proc.now) (is_assert c.args.at.now.stmt.now _ c.in-Assert.is))

pub returns-in_ok-pass_call-in-Call-clause-weighs : goal.returns-in_ok-pass_call-in-Call-clause-weighs
returns-in_ok-pass_call-in-Call-clause-weighs c = omega (arith, c.in_ok-pass_call-in-Call.ensures.weighs, ap (form_weight c.args.program.now c.args.at.now.proc.now) (is_call c.args.at.now.stmt.now _ _ _ c.in-Call.is))

pub returns-in-If-clause-moves : goal.returns-in-If-clause-moves
returns-in-If-clause-moves c = λ v said.
    form_moves c.args.program.now c.args.at.now c.args.terms.now c.args.terms.now c.args.sweep.now c.args.sweep.now v _ (is_if c.args.at.now.stmt.now _ _ _ c.in-If.is) (still _ _ _ _ c.requires.can)

pub returns-in-While-clause-moves : goal.returns-in-While-clause-moves
returns-in-While-clause-moves c = λ v said.
    form_moves c.args.program.now c.args.at.now c.args.terms.now c.args.terms.now c.args.sweep.now c.args.sweep.now v _ (is_while c.args.at.now.stmt.now _ _ c.in-While.is) (still _ _ _ _ c.requires.can)

pub returns-in-YieldLoop-clause-moves : goal.returns-in-YieldLoop-clause-moves
returns-in-YieldLoop-clause-moves c = λ v said.
    form_moves c.args.program.now c.args.at.now c.args.terms.now c.args.terms.now c.args.sweep.now c.args.sweep.now v _ (is_yield_loop c.args.at.now.stmt.now _ _ _ c.in-YieldLoop.is) (still _ _ _ _ c.requires.can)

pub returns-in-RankLoop-clause-moves : goal.returns-in-RankLoop-clause-moves
returns-in-RankLoop-clause-moves c = λ v said.
    form_moves c.args.program.now c.args.at.now c.args.terms.now c.args.terms.now c.args.sweep.now c.args.sweep.now v _ (is_rank_loop c.args.at.now.stmt.now _ _ _ _ c.in-RankLoop.is) (still _ _ _ _ c.requires.can)

pub returns-in-Yield-clause-moves : goal.returns-in-Yield-clause-moves
returns-in-Yield-clause-moves c = λ v said.
    form_moves c.args.program.now c.args.at.now c.args.terms.now c.args.terms.now c.args.sweep.now c.args.sweep.now v _ (is_yield c.args.at.now.stmt.now _ c.in-Yield.is) (still _ _ _ _ c.requires.can)

pub returns-in-Commit-clause-moves : goal.returns-in-Commit-clause-moves
returns-in-Commit-clause-moves c = λ v said.
    form_moves c.args.program.now c.args.at.now c.args.terms.now c.args.terms.now c.args.sweep.now c.args.sweep.now v _ (is_commit c.args.at.now.stmt.now c.in-Commit.is) (still _ _ _ _ c.requires.can)

pub returns-in-Intro-clause-moves : goal.returns-in-Intro-clause-moves
returns-in-Intro-clause-moves c = λ v said.
    form_moves c.args.program.now c.args.at.now c.args.terms.now c.args.terms.now c.args.sweep.now c.args.sweep.now v _ (is_intro c.args.at.now.stmt.now _ _ c.in-Intro.is) (still _ _ _ _ c.requires.can)

pub returns-in-Spawn-clause-moves : goal.returns-in-Spawn-clause-moves
returns-in-Spawn-clause-moves c = λ v said.
    form_moves c.args.program.now c.args.at.now c.args.terms.now c.args.terms.now c.args.sweep.now c.args.sweep.now v _ (is_spawn c.args.at.now.stmt.now _ _ c.in-Spawn.is) (still _ _ _ _ c.requires.can)
