use Rattle.std.proofs.Common.{◌∙◌, ◌+◌, ◌*◌, ◌<◌, ℕ, sym, ap, refl, subst, arith, rules}
use Rattle.civl_tree.specs.Numbering.{size_of, sizes_of}
use Rattle.std.specs.Prelude.{◌^◌}
use Rattle.civl_meaning.specs.Layers.{program_at}
use Rattle.civl_conditions.specs.paths.Choices.{layer_action}
use Rattle.civl_body.specs.Passing.{Under}
use Rattle.civl_terms.proofs.Growing.{grows_trans, grows_same}
use Rattle.civl_conditions.proofs.paths.Walked.{sizes_behind}
use Rattle.civl_body.proofs.Typed.{assign_suits, assert_suits, if_suits, intro_suits}
use Rattle.civl_body.proofs.Forms.{is_assign, is_assert, is_if, is_while, is_yield_loop, is_rank_loop, is_call, is_yield, is_commit, is_intro, is_spawn, if_size, call_passed, item_size}
use Rattle.civl_body.proofs.Passing.{passed_by, goes_on, under_begins, under_first, under_step, under_ends}
use Rattle.civl_moves.specs.Branches.{with_front}
use Rattle.civl_body.proofs.Joining.{first_ready, second_ready, can4, can_end, can_test, global_alike, local_alike, if_passes}
use Rattle.std.specs.Option.{option_map_or}
use Rattle.civl_tree.specs.Numbering.{numbered}
use Rattle.civl_meaning.specs.Meaning.{called}
use Rattle.civl_firing.specs.values.ActionWeights.{action_weight}
use Rattle.civl_terms.specs.Weights.{graph_weight}
use Rattle.civl_actions.proofs.Listing.{item_at}
use Rattle.civl_conditions.specs.paths.Flows.{flow_all}
use Rattle.civl_conditions.specs.paths.Choices.{action_meant}
use Rattle.civl_conditions.specs.Weights.{body_weight, note_weight, weights_of}
use Rattle.civl_moves.specs.declared.sweep.Sweep.{Sweep}
use Rattle.civl_moves.specs.Branches.{differing}
use Rattle.civl_body.specs.Weights.{passed_weights, spent}
use Rattle.civl_body.proofs.Keeping.{leaves_same, leaves_then, leaves_more, item_written}
use Rattle.civl_body.proofs.Writing.{assign_leaves, intro_leaves, call_leaves, if_leaves, globals_differ, locals_differ}
use Rattle.civl_body.proofs.Weighing.{item_spent, one_weighs, if_weighs}
use Rattle.civl_body.proofs.statements.+pass.Goals as goal

pub pass-pass_assign-requires-clause-suits : goal.pass-pass_assign-requires-clause-suits
pass-pass_assign-requires-clause-suits t c =
    let r = c.requires.ready in
    let s = c.args.stmt.now in
    assign_suits c.args.program.now r.layered.rules c.args.proc.now r.there c.args.number s c.in-Assign.target c.in-Assign.expr (r.stands 0 c.args.number s (omega arith) refl) (is_assign s _ _ c.in-Assign.is)

pub pass-pass_assert-requires-clause-suits : goal.pass-pass_assert-requires-clause-suits
pass-pass_assert-requires-clause-suits t c =
    let r = c.requires.ready in
    let s = c.args.stmt.now in
    assert_suits c.args.program.now r.layered.rules c.args.proc.now r.there c.args.number s c.in-Assert.fact (r.stands 0 c.args.number s (omega arith) refl) (is_assert s _ c.in-Assert.is)

pub pass-part-requires-clause-suits : goal.pass-part-requires-clause-suits
pass-part-requires-clause-suits t c =
    let r = c.requires.ready in
    let s = c.args.stmt.now in
    if_suits c.args.program.now r.layered.rules c.args.proc.now r.there c.args.number s c.in-If.condition c.in-If.first c.in-If.second (r.stands 0 c.args.number s (omega arith) refl) (is_if s _ _ _ c.in-If.is)

pub pass-pass_intro-requires-clause-suits : goal.pass-pass_intro-requires-clause-suits
pass-pass_intro-requires-clause-suits t c =
    let r = c.requires.ready in
    let s = c.args.stmt.now in
    intro_suits c.args.program.now r.layered.rules c.args.proc.now r.there c.args.number s c.in-Intro.target c.in-Intro.expr (r.stands 0 c.args.number s (omega arith) refl) (is_intro s _ _ c.in-Intro.is)

pub pass-pass_call-requires-clause-stands : goal.pass-pass_call-requires-clause-stands
pass-pass_call-requires-clause-stands t c =
    let r = c.requires.ready in
    let s = c.args.stmt.now in
    (s, r.stands 0 c.args.number s (omega arith) refl, is_call s _ _ _ c.in-Call.is)

pub pass-pass_call-requires-clause-choices : goal.pass-pass_call-requires-clause-choices
pass-pass_call-requires-clause-choices t c = λ a e.
    let r = c.requires.ready in
    let s = c.args.stmt.now in
    let o = is_call s _ _ _ c.in-Call.is in
    r.choices c.if-not-sweep.false (c.args.number, s) a (call_passed s c.args.number _ _ _ o) (ap (layer_action (program_at c.args.program.now c.args.layer)) o ∙ e)

pub pass-returns-in_ok-pass_assign-in-Assign-clause-passes : goal.pass-returns-in_ok-pass_assign-in-Assign-clause-passes
pass-returns-in_ok-pass_assign-in-Assign-clause-passes t c = λ v says.
    passed_by c.args.terms.now c.pass_assign.new.terms c.args.program.now c.args.layer c.args.proc.now c.args.sweep.now c.pass_assign.new.sweep v c.args.number c.args.stmt.now _ c.if-not-sweep.false (is_assign c.args.stmt.now _ _ c.in-Assign.is) c.in_ok-pass_assign-in-Assign.ensures.moves

pub pass-returns-in_ok-pass_assert-in-Assert-clause-passes : goal.pass-returns-in_ok-pass_assert-in-Assert-clause-passes
pass-returns-in_ok-pass_assert-in-Assert-clause-passes t c = λ v says.
    passed_by c.args.terms.now c.pass_assert.new.terms c.args.program.now c.args.layer c.args.proc.now c.args.sweep.now c.pass_assert.new.sweep v c.args.number c.args.stmt.now _ c.if-not-sweep.false (is_assert c.args.stmt.now _ c.in-Assert.is) c.in_ok-pass_assert-in-Assert.ensures.moves

pub pass-returns-in_ok-pass_call-in-Call-clause-passes : goal.pass-returns-in_ok-pass_call-in-Call-clause-passes
pass-returns-in_ok-pass_call-in-Call-clause-passes t c = λ v says.
    let s = c.args.stmt.now in
    let o = is_call s _ _ _ c.in-Call.is in
    let on = c.if-not-sweep.false in
    passed_by c.args.terms.now c.pass_call.new.terms c.args.program.now c.args.layer c.args.proc.now c.args.sweep.now c.pass_call.new.sweep v c.args.number s _ on o
    (c.in_ok-pass_call-in-Call.ensures.moves v (λ a e env f. says on (c.args.number, s) a (call_passed s c.args.number _ _ _ o) (ap (layer_action (program_at c.args.program.now c.args.layer)) o ∙ e) env f))

pub pass-returns-in_ok-pass_commit-in-Commit-clause-passes : goal.pass-returns-in_ok-pass_commit-in-Commit-clause-passes
pass-returns-in_ok-pass_commit-in-Commit-clause-passes t c = λ v says.
    passed_by c.args.terms.now c.pass_commit.new.terms c.args.program.now c.args.layer c.args.proc.now c.args.sweep.now c.pass_commit.new.sweep v c.args.number c.args.stmt.now _ c.if-not-sweep.false (is_commit c.args.stmt.now c.in-Commit.is) (c.in_ok-pass_commit-in-Commit.ensures.moves _ _ c.requires.ready.can)

pub pass-returns-in_ok-pass_intro-in-Intro-clause-passes : goal.pass-returns-in_ok-pass_intro-in-Intro-clause-passes
pass-returns-in_ok-pass_intro-in-Intro-clause-passes t c = λ v says.
    passed_by c.args.terms.now c.pass_intro.new.terms c.args.program.now c.args.layer c.args.proc.now c.args.sweep.now c.pass_intro.new.sweep v c.args.number c.args.stmt.now _ c.if-not-sweep.false (is_intro c.args.stmt.now _ _ c.in-Intro.is) c.in_ok-pass_intro-in-Intro.ensures.moves

pub pass_all-returns-in_err-pass-clause-grows : goal.pass_all-returns-in_err-pass-clause-grows
pass_all-returns-in_err-pass-clause-grows t c = grows_trans _ _ _ c.loop-stmt.invariant.under.grows c.in_err-pass.ensures.grows

pub pass_all-loop-stmt-init : goal.pass_all-loop-stmt-init
pass_all-loop-stmt-init t c = record {
  counted = ap (λ ss. c.args.number + sizes_of ss) c.as_slice-stmt-items.ensures;
  behind = omega arith;
  under = subst (λ ss. Under c.args.terms.now c.args.terms.now c.args.program.now c.args.layer c.args.proc.now c.args.chosen.now c.args.sweep.now c.args.sweep.now c.args.number c.args.number c.args.stmts.now ss) (sym c.as_slice-stmt-items.ensures)
      (under_begins c.args.program.now c.args.layer c.args.proc.now c.args.chosen.now c.args.terms.now c.args.sweep.now c.args.number c.args.stmts.now (grows_same c.args.terms.now) c.requires.ready);
  leaves = λ linear. leaves_same c.args.program.now c.args.proc.now _ c.args.sweep.now c.args.sweep.now refl refl;
  weighs = λ linear.
      let same = ap (λ ss. spent c.args.sweep.now.onward (passed_weights c.args.program.now c.args.layer c.args.proc.now (flow_all (numbered c.args.number ss)).passed)) c.as_slice-stmt-items.ensures in
      omega (arith, same);
}

pub pass_all-pass-requires : goal.pass_all-pass-requires
pass_all-pass-requires t c =
    let items = c.as_slice-stmt-items.result.now in
    let l = c.loop-stmt in
    let s = c.stmt-item.result in
    let size = item_size items l.stmt-index s c.loop-stmt-test.true c.stmt-item.is in
    let less : 2 * size_of s < 2 * sizes_of c.args.stmts.now + 1 = omega (arith, size, l.invariant.counted, l.invariant.behind) in
    let small : l.here + size_of s < 2 ^ 32 = omega (arith, size, l.invariant.counted, c.requires.small) in
    let ready = under_first c.args.program.now c.args.layer c.args.proc.now c.args.chosen.now c.args.terms.now l.terms c.args.sweep.now l.sweep c.args.number l.here c.args.stmts.now items l.stmt-index s c.loop-stmt-test.true c.stmt-item.is l.invariant.under in
    search rules

pub pass_all-loop-stmt-preserved : goal.pass_all-loop-stmt-preserved
pass_all-loop-stmt-preserved t c =
    let items = c.as_slice-stmt-items.result.now in
    let l = c.loop-stmt in
    let s = c.stmt-item.result in
    record {
      counted = omega (arith, c.size-here.ensures, sizes_behind items l.stmt-index s c.loop-stmt-test.true c.stmt-item.is, l.invariant.counted);
      behind = omega (arith, l.invariant.behind);
      under =
          under_step c.args.program.now c.args.layer c.args.proc.now c.args.chosen.now c.args.terms.now l.terms c.pass.new.terms c.args.sweep.now l.sweep c.pass.new.sweep c.args.number l.here _ c.args.stmts.now items l.stmt-index s c.loop-stmt-test.true c.stmt-item.is l.invariant.under
          c.in_ok-pass.ensures.grows (grows_trans _ _ _ l.invariant.under.grows c.in_ok-pass.ensures.grows) c.len-count.ensures.graph c.in_ok-pass.ensures.passes (ap (λ (n : ℕ). l.here + n) c.size-here.ensures);
      leaves = λ linear.
          let there = item_at c.args.stmts.now items l.stmt-index s c.as_slice-stmt-items.ensures c.loop-stmt-test.true c.stmt-item.is in
          leaves_then c.args.program.now c.args.proc.now _ c.args.sweep.now l.sweep c.pass.new.sweep (l.invariant.leaves linear)
          (leaves_more c.args.program.now c.args.proc.now _ _ l.sweep c.pass.new.sweep (λ n h. item_written c.args.program.now c.args.layer c.args.stmts.now l.stmt-index s n there h) (c.in_ok-pass.ensures.leaves linear));
      weighs = λ linear.
          item_spent c.args.program.now c.args.layer c.args.proc.now items l.stmt-index s l.here _ l.sweep.onward c.pass.new.sweep.onward _ (graph_weight l.terms) (graph_weight c.pass.new.terms) c.loop-stmt-test.true c.stmt-item.is (ap (λ (n : ℕ). l.here + n) c.size-here.ensures)
          (λ o. goes_on c.args.program.now c.args.layer c.args.proc.now c.args.chosen.now l.terms c.pass.new.terms l.sweep c.pass.new.sweep s l.here c.len-count.ensures.graph c.in_ok-pass.ensures.passes o) (l.invariant.weighs linear) (c.in_ok-pass.ensures.weighs linear);
    }

pub pass_all-returns-clause-passes : goal.pass_all-returns-clause-passes
pass_all-returns-clause-passes t c =
    let items = c.as_slice-stmt-items.result.now in
    let l = c.loop-stmt in
    under_ends c.args.program.now c.args.layer c.args.proc.now c.args.chosen.now c.args.terms.now l.terms c.args.sweep.now l.sweep c.args.number l.here c.args.stmts.now items l.stmt-index c.loop-stmt-test.false l.invariant.under

pub pass-returns-in_ok-pass_cut-in-Yield-clause-passes : goal.pass-returns-in_ok-pass_cut-in-Yield-clause-passes
pass-returns-in_ok-pass_cut-in-Yield-clause-passes t c = λ v says.
    passed_by c.args.terms.now c.pass_cut.new.terms c.args.program.now c.args.layer c.args.proc.now c.args.sweep.now c.pass_cut.new.sweep v c.args.number c.args.stmt.now _ c.if-not-sweep.false (is_yield c.args.stmt.now _ c.in-Yield.is) (c.in_ok-pass_cut-in-Yield.ensures.moves _ _ c.requires.ready.can)

pub pass-returns-in_ok-pass_cut-in-YieldLoop-clause-passes : goal.pass-returns-in_ok-pass_cut-in-YieldLoop-clause-passes
pass-returns-in_ok-pass_cut-in-YieldLoop-clause-passes t c = λ v says.
    passed_by c.args.terms.now c.pass_cut-in-YieldLoop.new.terms c.args.program.now c.args.layer c.args.proc.now c.args.sweep.now c.pass_cut-in-YieldLoop.new.sweep v c.args.number c.args.stmt.now _ c.if-not-sweep.false (is_yield_loop c.args.stmt.now _ _ _ c.in-YieldLoop.is) (c.in_ok-pass_cut-in-YieldLoop.ensures.moves _ _ c.requires.ready.can)

pub pass-returns-in_ok-pass_cut-in-RankLoop-clause-passes : goal.pass-returns-in_ok-pass_cut-in-RankLoop-clause-passes
pass-returns-in_ok-pass_cut-in-RankLoop-clause-passes t c = λ v says.
    passed_by c.args.terms.now c.pass_cut-in-RankLoop.new.terms c.args.program.now c.args.layer c.args.proc.now c.args.sweep.now c.pass_cut-in-RankLoop.new.sweep v c.args.number c.args.stmt.now _ c.if-not-sweep.false (is_rank_loop c.args.stmt.now _ _ _ _ c.in-RankLoop.is) (c.in_ok-pass_cut-in-RankLoop.ensures.moves _ _ c.requires.ready.can)

pub pass-returns-in_ok-stop-in-While-clause-passes : goal.pass-returns-in_ok-stop-in-While-clause-passes
pass-returns-in_ok-stop-in-While-clause-passes t c = λ v says.
    passed_by c.args.terms.now c.stop.new.terms c.args.program.now c.args.layer c.args.proc.now c.args.sweep.now c.stop.new.sweep v c.args.number c.args.stmt.now _ c.if-not-sweep.false (is_while c.args.stmt.now _ _ c.in-While.is) (c.in_ok-stop-in-While.ensures.moves _ _ c.requires.ready.can)

pub pass-returns-in_ok-stop-in-Spawn-clause-passes : goal.pass-returns-in_ok-stop-in-Spawn-clause-passes
pass-returns-in_ok-stop-in-Spawn-clause-passes t c = λ v says.
    passed_by c.args.terms.now c.stop-in-Spawn.new.terms c.args.program.now c.args.layer c.args.proc.now c.args.sweep.now c.stop-in-Spawn.new.sweep v c.args.number c.args.stmt.now _ c.if-not-sweep.false (is_spawn c.args.stmt.now _ _ c.in-Spawn.is) (c.in_ok-stop-in-Spawn.ensures.moves _ _ c.requires.ready.can)

pub pass-pass_all-requires : goal.pass-pass_all-requires
pass-pass_all-requires t c =
    let r = c.requires.ready in
    let p = c.args.program.now in
    let q = c.args.proc.now in
    let n = c.args.number in
    let x = c.args.stmt.now in
    let i = c.in-If in
    let o = is_if x _ _ _ i.is in
    let f = c.in_ok-fork-in-If in
    let size = if_size x _ _ _ o in
    let less : 2 * sizes_of i.first + 1 < 2 * size_of x = omega (arith, size) in
    let small : n + 1 + sizes_of i.first < 2 ^ 32 = omega (arith, size, c.requires.small) in
    let ready = first_ready p c.args.layer q c.args.chosen.now n x i.condition i.first i.second o c.args.terms.now c.part.new.terms c.args.sweep.now f.fork r c.if-not-sweep.false f.ensures.grows f.ensures.test f.ensures.first f.ensures.second in
    search rules

pub pass-pass_all-requires-in-If : goal.pass-pass_all-requires-in-If
pass-pass_all-requires-in-If t c =
    let r = c.requires.ready in
    let p = c.args.program.now in
    let q = c.args.proc.now in
    let n = c.args.number in
    let x = c.args.stmt.now in
    let i = c.in-If in
    let o = is_if x _ _ _ i.is in
    let f = c.in_ok-fork-in-If in
    let size = if_size x _ _ _ o in
    let less : 2 * sizes_of i.second + 1 < 2 * size_of x = omega (arith, size) in
    let small : n + 1 + c.sizes.result + sizes_of i.second < 2 ^ 32 = omega (arith, size, c.sizes.ensures, c.requires.small) in
    let ready = second_ready p c.args.layer q c.args.chosen.now n x i.condition i.first i.second o c.args.terms.now c.part.new.terms c.args.sweep.now f.fork r c.if-not-sweep.false f.ensures.grows f.ensures.test f.ensures.first f.ensures.second c.pass_all.new.terms c.pass_all.new.sweep c.in_ok-pass_all-in-If.ensures.grows c.in_ok-pass_all-in-If.ensures.passes c.swap-ended.new.sweep (c.swap-ended.ensures.is ∙ ap (λ y. with_front y c.pass_all.new.sweep) c.in_ok-before-in-If.ensures) _ (ap (λ (m : ℕ). n + 1 + m) c.sizes.ensures) in
    search rules

pub pass-returns-in_err-pass_all-in-If-clause-grows : goal.pass-returns-in_err-pass_all-in-If-clause-grows
pass-returns-in_err-pass_all-in-If-clause-grows t c = grows_trans _ _ _ c.in_ok-fork-in-If.ensures.grows c.in_err-pass_all-in-If.ensures.grows

pub pass-returns-in_err-pass_all-in-If-2-clause-grows : goal.pass-returns-in_err-pass_all-in-If-2-clause-grows
pass-returns-in_err-pass_all-in-If-2-clause-grows t c = grows_trans _ _ _ c.in_ok-fork-in-If.ensures.grows (grows_trans _ _ _ c.in_ok-pass_all-in-If.ensures.grows c.in_err-pass_all-in-If-2.ensures.grows)

pub pass-returns-in_err-join-in-If-clause-grows : goal.pass-returns-in_err-join-in-If-clause-grows
pass-returns-in_err-join-in-If-clause-grows t c =
    grows_trans _ _ _ c.in_ok-fork-in-If.ensures.grows (grows_trans _ _ _ c.in_ok-pass_all-in-If.ensures.grows (grows_trans _ _ _ c.in_ok-pass_all-in-If-2.ensures.grows c.in_err-join-in-If.ensures.grows))

pub pass-returns-in_ok-join-in-If-clause-grows : goal.pass-returns-in_ok-join-in-If-clause-grows
pass-returns-in_ok-join-in-If-clause-grows t c =
    grows_trans _ _ _ c.in_ok-fork-in-If.ensures.grows (grows_trans _ _ _ c.in_ok-pass_all-in-If.ensures.grows (grows_trans _ _ _ c.in_ok-pass_all-in-If-2.ensures.grows c.in_ok-join-in-If.ensures.grows))

pub pass-join-requires-clause-test : goal.pass-join-requires-clause-test
pass-join-requires-clause-test t c =
    let r = c.requires.ready in
    let p = c.args.program.now in
    let q = c.args.proc.now in
    let n = c.args.number in
    let x = c.args.stmt.now in
    let i = c.in-If in
    let o = is_if x _ _ _ i.is in
    let f = c.in_ok-fork-in-If in
    can_test p c.args.layer q c.args.chosen.now n x i.condition i.first i.second o c.args.terms.now c.part.new.terms c.args.sweep.now f.fork r c.if-not-sweep.false f.ensures.grows f.ensures.test f.ensures.first f.ensures.second c.pass_all.new.terms c.pass_all.new.sweep c.in_ok-pass_all-in-If.ensures.grows c.in_ok-pass_all-in-If.ensures.passes c.swap-ended.new.sweep (c.swap-ended.ensures.is ∙ ap (λ y. with_front y c.pass_all.new.sweep) c.in_ok-before-in-If.ensures) _ (ap (λ (m : ℕ). n + 1 + m) c.sizes.ensures) c.swap-ended.result c.swap-ended.ensures.was c.pass_all-in-If.new.terms c.pass_all-in-If.new.sweep c.in_ok-pass_all-in-If-2.ensures.grows c.in_ok-pass_all-in-If-2.ensures.passes

pub pass-join-requires-clause-globals : goal.pass-join-requires-clause-globals
pass-join-requires-clause-globals t c =
    let r = c.requires.ready in
    let p = c.args.program.now in
    let q = c.args.proc.now in
    let n = c.args.number in
    let x = c.args.stmt.now in
    let i = c.in-If in
    let o = is_if x _ _ _ i.is in
    let f = c.in_ok-fork-in-If in
    global_alike p c.args.layer q c.args.chosen.now n x i.condition i.first i.second o c.args.terms.now c.part.new.terms c.args.sweep.now f.fork r c.if-not-sweep.false f.ensures.grows f.ensures.test f.ensures.first f.ensures.second c.pass_all.new.terms c.pass_all.new.sweep c.in_ok-pass_all-in-If.ensures.grows c.in_ok-pass_all-in-If.ensures.passes c.swap-ended.new.sweep (c.swap-ended.ensures.is ∙ ap (λ y. with_front y c.pass_all.new.sweep) c.in_ok-before-in-If.ensures) _ (ap (λ (m : ℕ). n + 1 + m) c.sizes.ensures) c.swap-ended.result c.swap-ended.ensures.was c.pass_all-in-If.new.terms c.pass_all-in-If.new.sweep c.in_ok-pass_all-in-If-2.ensures.grows c.in_ok-pass_all-in-If-2.ensures.passes

pub pass-join-requires-clause-locals : goal.pass-join-requires-clause-locals
pass-join-requires-clause-locals t c =
    let r = c.requires.ready in
    let p = c.args.program.now in
    let q = c.args.proc.now in
    let n = c.args.number in
    let x = c.args.stmt.now in
    let i = c.in-If in
    let o = is_if x _ _ _ i.is in
    let f = c.in_ok-fork-in-If in
    local_alike p c.args.layer q c.args.chosen.now n x i.condition i.first i.second o c.args.terms.now c.part.new.terms c.args.sweep.now f.fork r c.if-not-sweep.false f.ensures.grows f.ensures.test f.ensures.first f.ensures.second c.pass_all.new.terms c.pass_all.new.sweep c.in_ok-pass_all-in-If.ensures.grows c.in_ok-pass_all-in-If.ensures.passes c.swap-ended.new.sweep (c.swap-ended.ensures.is ∙ ap (λ y. with_front y c.pass_all.new.sweep) c.in_ok-before-in-If.ensures) _ (ap (λ (m : ℕ). n + 1 + m) c.sizes.ensures) c.swap-ended.result c.swap-ended.ensures.was c.pass_all-in-If.new.terms c.pass_all-in-If.new.sweep c.in_ok-pass_all-in-If-2.ensures.grows c.in_ok-pass_all-in-If-2.ensures.passes

pub pass-join-requires-clause-ended_live : goal.pass-join-requires-clause-ended_live
pass-join-requires-clause-ended_live t c =
    let r = c.requires.ready in
    let p = c.args.program.now in
    let q = c.args.proc.now in
    let n = c.args.number in
    let x = c.args.stmt.now in
    let i = c.in-If in
    let o = is_if x _ _ _ i.is in
    let f = c.in_ok-fork-in-If in
    (can_end p c.args.layer q c.args.chosen.now n x i.condition i.first i.second o c.args.terms.now c.part.new.terms c.args.sweep.now f.fork r c.if-not-sweep.false f.ensures.grows f.ensures.test f.ensures.first f.ensures.second c.pass_all.new.terms c.pass_all.new.sweep c.in_ok-pass_all-in-If.ensures.grows c.in_ok-pass_all-in-If.ensures.passes c.swap-ended.new.sweep (c.swap-ended.ensures.is ∙ ap (λ y. with_front y c.pass_all.new.sweep) c.in_ok-before-in-If.ensures) _ (ap (λ (m : ℕ). n + 1 + m) c.sizes.ensures) c.swap-ended.result c.swap-ended.ensures.was c.pass_all-in-If.new.terms c.pass_all-in-If.new.sweep c.in_ok-pass_all-in-If-2.ensures.grows c.in_ok-pass_all-in-If-2.ensures.passes).live.sorted

pub pass-join-requires-clause-live : goal.pass-join-requires-clause-live
pass-join-requires-clause-live t c =
    let r = c.requires.ready in
    let p = c.args.program.now in
    let q = c.args.proc.now in
    let n = c.args.number in
    let x = c.args.stmt.now in
    let i = c.in-If in
    let o = is_if x _ _ _ i.is in
    let f = c.in_ok-fork-in-If in
    (can4 p c.args.layer q c.args.chosen.now n x i.condition i.first i.second o c.args.terms.now c.part.new.terms c.args.sweep.now f.fork r c.if-not-sweep.false f.ensures.grows f.ensures.test f.ensures.first f.ensures.second c.pass_all.new.terms c.pass_all.new.sweep c.in_ok-pass_all-in-If.ensures.grows c.in_ok-pass_all-in-If.ensures.passes c.swap-ended.new.sweep (c.swap-ended.ensures.is ∙ ap (λ y. with_front y c.pass_all.new.sweep) c.in_ok-before-in-If.ensures) _ (ap (λ (m : ℕ). n + 1 + m) c.sizes.ensures) c.swap-ended.result c.swap-ended.ensures.was c.pass_all-in-If.new.terms c.pass_all-in-If.new.sweep c.in_ok-pass_all-in-If-2.ensures.grows c.in_ok-pass_all-in-If-2.ensures.passes).live.sorted

pub pass-join-requires-clause-ended_done : goal.pass-join-requires-clause-ended_done
pass-join-requires-clause-ended_done t c =
    let r = c.requires.ready in
    let p = c.args.program.now in
    let q = c.args.proc.now in
    let n = c.args.number in
    let x = c.args.stmt.now in
    let i = c.in-If in
    let o = is_if x _ _ _ i.is in
    let f = c.in_ok-fork-in-If in
    (can_end p c.args.layer q c.args.chosen.now n x i.condition i.first i.second o c.args.terms.now c.part.new.terms c.args.sweep.now f.fork r c.if-not-sweep.false f.ensures.grows f.ensures.test f.ensures.first f.ensures.second c.pass_all.new.terms c.pass_all.new.sweep c.in_ok-pass_all-in-If.ensures.grows c.in_ok-pass_all-in-If.ensures.passes c.swap-ended.new.sweep (c.swap-ended.ensures.is ∙ ap (λ y. with_front y c.pass_all.new.sweep) c.in_ok-before-in-If.ensures) _ (ap (λ (m : ℕ). n + 1 + m) c.sizes.ensures) c.swap-ended.result c.swap-ended.ensures.was c.pass_all-in-If.new.terms c.pass_all-in-If.new.sweep c.in_ok-pass_all-in-If-2.ensures.grows c.in_ok-pass_all-in-If-2.ensures.passes).done.sorted

pub pass-join-requires-clause-done : goal.pass-join-requires-clause-done
pass-join-requires-clause-done t c =
    let r = c.requires.ready in
    let p = c.args.program.now in
    let q = c.args.proc.now in
    let n = c.args.number in
    let x = c.args.stmt.now in
    let i = c.in-If in
    let o = is_if x _ _ _ i.is in
    let f = c.in_ok-fork-in-If in
    (can4 p c.args.layer q c.args.chosen.now n x i.condition i.first i.second o c.args.terms.now c.part.new.terms c.args.sweep.now f.fork r c.if-not-sweep.false f.ensures.grows f.ensures.test f.ensures.first f.ensures.second c.pass_all.new.terms c.pass_all.new.sweep c.in_ok-pass_all-in-If.ensures.grows c.in_ok-pass_all-in-If.ensures.passes c.swap-ended.new.sweep (c.swap-ended.ensures.is ∙ ap (λ y. with_front y c.pass_all.new.sweep) c.in_ok-before-in-If.ensures) _ (ap (λ (m : ℕ). n + 1 + m) c.sizes.ensures) c.swap-ended.result c.swap-ended.ensures.was c.pass_all-in-If.new.terms c.pass_all-in-If.new.sweep c.in_ok-pass_all-in-If-2.ensures.grows c.in_ok-pass_all-in-If-2.ensures.passes).done.sorted

pub pass-returns-in_ok-join-in-If-clause-passes : goal.pass-returns-in_ok-join-in-If-clause-passes
pass-returns-in_ok-join-in-If-clause-passes t c =
    let r = c.requires.ready in
    let p = c.args.program.now in
    let q = c.args.proc.now in
    let n = c.args.number in
    let x = c.args.stmt.now in
    let i = c.in-If in
    let o = is_if x _ _ _ i.is in
    let f = c.in_ok-fork-in-If in
    if_passes p c.args.layer q c.args.chosen.now n x i.condition i.first i.second o c.args.terms.now c.part.new.terms c.args.sweep.now f.fork r c.if-not-sweep.false f.ensures.grows f.ensures.test f.ensures.first f.ensures.second c.pass_all.new.terms c.pass_all.new.sweep c.in_ok-pass_all-in-If.ensures.grows c.in_ok-pass_all-in-If.ensures.passes c.swap-ended.new.sweep (c.swap-ended.ensures.is ∙ ap (λ y. with_front y c.pass_all.new.sweep) c.in_ok-before-in-If.ensures) _ (ap (λ (m : ℕ). n + 1 + m) c.sizes.ensures) c.swap-ended.result c.swap-ended.ensures.was c.pass_all-in-If.new.terms c.pass_all-in-If.new.sweep c.in_ok-pass_all-in-If-2.ensures.grows c.in_ok-pass_all-in-If-2.ensures.passes c.join.new.terms c.join.new.sweep c.in_ok-join-in-If.ensures.grows
    (c.in_ok-join-in-If.ensures.moves p q (can4 p c.args.layer q c.args.chosen.now n x i.condition i.first i.second o c.args.terms.now c.part.new.terms c.args.sweep.now f.fork r c.if-not-sweep.false f.ensures.grows f.ensures.test f.ensures.first f.ensures.second c.pass_all.new.terms c.pass_all.new.sweep c.in_ok-pass_all-in-If.ensures.grows c.in_ok-pass_all-in-If.ensures.passes c.swap-ended.new.sweep (c.swap-ended.ensures.is ∙ ap (λ y. with_front y c.pass_all.new.sweep) c.in_ok-before-in-If.ensures) _ (ap (λ (m : ℕ). n + 1 + m) c.sizes.ensures) c.swap-ended.result c.swap-ended.ensures.was c.pass_all-in-If.new.terms c.pass_all-in-If.new.sweep c.in_ok-pass_all-in-If-2.ensures.grows c.in_ok-pass_all-in-If-2.ensures.passes) (can_end p c.args.layer q c.args.chosen.now n x i.condition i.first i.second o c.args.terms.now c.part.new.terms c.args.sweep.now f.fork r c.if-not-sweep.false f.ensures.grows f.ensures.test f.ensures.first f.ensures.second c.pass_all.new.terms c.pass_all.new.sweep c.in_ok-pass_all-in-If.ensures.grows c.in_ok-pass_all-in-If.ensures.passes c.swap-ended.new.sweep (c.swap-ended.ensures.is ∙ ap (λ y. with_front y c.pass_all.new.sweep) c.in_ok-before-in-If.ensures) _ (ap (λ (m : ℕ). n + 1 + m) c.sizes.ensures) c.swap-ended.result c.swap-ended.ensures.was c.pass_all-in-If.new.terms c.pass_all-in-If.new.sweep c.in_ok-pass_all-in-If-2.ensures.grows c.in_ok-pass_all-in-If-2.ensures.passes))

pub pass-returns-in_ok-pass_assign-in-Assign-clause-leaves : goal.pass-returns-in_ok-pass_assign-in-Assign-clause-leaves
pass-returns-in_ok-pass_assign-in-Assign-clause-leaves t c = λ linear.
    let r = c.requires.ready in
    let x = c.args.stmt.now in
    let e = c.in_ok-pass_assign-in-Assign.ensures in
    assign_leaves c.args.program.now c.args.layer c.args.proc.now linear r.there c.args.number x c.in-Assign.target c.in-Assign.expr (r.stands 0 c.args.number x (omega arith) refl) (is_assign x _ _ c.in-Assign.is) c.args.sweep.now c.pass_assign.new.sweep e.others (ap (λ (y : Sweep). y.globals) e.rest)

pub pass-returns-in_ok-pass_assign-in-Assign-clause-weighs : goal.pass-returns-in_ok-pass_assign-in-Assign-clause-weighs
pass-returns-in_ok-pass_assign-in-Assign-clause-weighs t c = λ linear.
    let x = c.args.stmt.now in
    one_weighs c.args.program.now c.args.layer c.args.proc.now c.args.number x c.args.sweep.now.onward c.if-not-sweep.false _ (is_assign x _ _ c.in-Assign.is) refl (graph_weight c.args.terms.now) (graph_weight c.pass_assign.new.terms) (body_weight c.args.program.now c.args.proc.now c.in-Assign.expr) (omega (arith, c.in_ok-pass_assign-in-Assign.ensures.weighs)) (omega arith)

pub pass-returns-in_ok-pass_assert-in-Assert-clause-leaves : goal.pass-returns-in_ok-pass_assert-in-Assert-clause-leaves
pass-returns-in_ok-pass_assert-in-Assert-clause-leaves t c = λ linear.
    let rest = c.in_ok-pass_assert-in-Assert.ensures.rest in
    leaves_same c.args.program.now c.args.proc.now _ c.args.sweep.now c.pass_assert.new.sweep (ap (λ (y : Sweep). y.globals) rest) (ap (λ (y : Sweep). y.locals) rest)

pub pass-returns-in_ok-pass_assert-in-Assert-clause-weighs : goal.pass-returns-in_ok-pass_assert-in-Assert-clause-weighs
pass-returns-in_ok-pass_assert-in-Assert-clause-weighs t c = λ linear.
    let x = c.args.stmt.now in
    one_weighs c.args.program.now c.args.layer c.args.proc.now c.args.number x c.args.sweep.now.onward c.if-not-sweep.false _ (is_assert x _ c.in-Assert.is) refl (graph_weight c.args.terms.now) (graph_weight c.pass_assert.new.terms) (body_weight c.args.program.now c.args.proc.now c.in-Assert.fact + 3) (omega (arith, c.in_ok-pass_assert-in-Assert.ensures.weighs)) (omega arith)

pub pass-returns-in_ok-pass_call-in-Call-clause-leaves : goal.pass-returns-in_ok-pass_call-in-Call-clause-leaves
pass-returns-in_ok-pass_call-in-Call-clause-leaves t c = λ linear.
    let x = c.args.stmt.now in
    call_leaves c.args.program.now c.args.layer c.args.proc.now x _ (is_call x _ _ _ c.in-Call.is) c.args.sweep.now c.pass_call.new.sweep (c.in_ok-pass_call-in-Call.ensures.leaves linear)

pub pass-returns-in_ok-pass_call-in-Call-clause-weighs : goal.pass-returns-in_ok-pass_call-in-Call-clause-weighs
pass-returns-in_ok-pass_call-in-Call-clause-weighs t c = λ linear.
    let x = c.args.stmt.now in
    one_weighs c.args.program.now c.args.layer c.args.proc.now c.args.number x c.args.sweep.now.onward c.if-not-sweep.false _ (is_call x _ _ _ c.in-Call.is) refl (graph_weight c.args.terms.now) (graph_weight c.pass_call.new.terms) (weights_of (body_weight c.args.program.now c.args.proc.now) c.in-Call.args + option_map_or (action_weight c.args.program.now) (action_meant (called (program_at c.args.program.now c.args.layer) c.in-Call.callee)) 0 + 4) (omega (arith, c.in_ok-pass_call-in-Call.ensures.weighs)) (omega arith)

pub pass-returns-in_ok-pass_commit-in-Commit-clause-leaves : goal.pass-returns-in_ok-pass_commit-in-Commit-clause-leaves
pass-returns-in_ok-pass_commit-in-Commit-clause-leaves t c = λ linear.
    let rest = c.in_ok-pass_commit-in-Commit.ensures.rest in
    leaves_same c.args.program.now c.args.proc.now _ c.args.sweep.now c.pass_commit.new.sweep (ap (λ (y : Sweep). y.globals) rest) (ap (λ (y : Sweep). y.locals) rest)

pub pass-returns-in_ok-pass_commit-in-Commit-clause-weighs : goal.pass-returns-in_ok-pass_commit-in-Commit-clause-weighs
pass-returns-in_ok-pass_commit-in-Commit-clause-weighs t c = λ linear.
    let x = c.args.stmt.now in
    one_weighs c.args.program.now c.args.layer c.args.proc.now c.args.number x c.args.sweep.now.onward c.if-not-sweep.false _ (is_commit x c.in-Commit.is) refl (graph_weight c.args.terms.now) (graph_weight c.pass_commit.new.terms) (3) (omega (arith, c.in_ok-pass_commit-in-Commit.ensures.weighs)) (omega arith)

pub pass-returns-in_ok-pass_intro-in-Intro-clause-leaves : goal.pass-returns-in_ok-pass_intro-in-Intro-clause-leaves
pass-returns-in_ok-pass_intro-in-Intro-clause-leaves t c = λ linear.
    let x = c.args.stmt.now in
    let e = c.in_ok-pass_intro-in-Intro.ensures in
    intro_leaves c.args.program.now c.args.layer c.args.proc.now x c.in-Intro.target c.in-Intro.expr (is_intro x _ _ c.in-Intro.is) c.args.sweep.now c.pass_intro.new.sweep e.others (ap (λ (y : Sweep). y.locals) e.rest)

pub pass-returns-in_ok-pass_intro-in-Intro-clause-weighs : goal.pass-returns-in_ok-pass_intro-in-Intro-clause-weighs
pass-returns-in_ok-pass_intro-in-Intro-clause-weighs t c = λ linear.
    let x = c.args.stmt.now in
    one_weighs c.args.program.now c.args.layer c.args.proc.now c.args.number x c.args.sweep.now.onward c.if-not-sweep.false _ (is_intro x _ _ c.in-Intro.is) refl (graph_weight c.args.terms.now) (graph_weight c.pass_intro.new.terms) (note_weight c.args.program.now c.args.proc.now c.in-Intro.expr) (omega (arith, c.in_ok-pass_intro-in-Intro.ensures.weighs)) (omega arith)

pub pass-returns-in_ok-pass_cut-in-Yield-clause-leaves : goal.pass-returns-in_ok-pass_cut-in-Yield-clause-leaves
pass-returns-in_ok-pass_cut-in-Yield-clause-leaves t c = λ linear.
    let rest = c.in_ok-pass_cut-in-Yield.ensures.rest in
    leaves_same c.args.program.now c.args.proc.now _ c.args.sweep.now c.pass_cut.new.sweep (ap (λ (y : Sweep). y.globals) rest) (ap (λ (y : Sweep). y.locals) rest)

pub pass-returns-in_ok-pass_cut-in-Yield-clause-weighs : goal.pass-returns-in_ok-pass_cut-in-Yield-clause-weighs
pass-returns-in_ok-pass_cut-in-Yield-clause-weighs t c = λ linear.
    omega (arith, c.in_ok-pass_cut-in-Yield.ensures.weighs)

pub pass-returns-in_ok-pass_cut-in-YieldLoop-clause-leaves : goal.pass-returns-in_ok-pass_cut-in-YieldLoop-clause-leaves
pass-returns-in_ok-pass_cut-in-YieldLoop-clause-leaves t c = λ linear.
    let rest = c.in_ok-pass_cut-in-YieldLoop.ensures.rest in
    leaves_same c.args.program.now c.args.proc.now _ c.args.sweep.now c.pass_cut-in-YieldLoop.new.sweep (ap (λ (y : Sweep). y.globals) rest) (ap (λ (y : Sweep). y.locals) rest)

pub pass-returns-in_ok-pass_cut-in-YieldLoop-clause-weighs : goal.pass-returns-in_ok-pass_cut-in-YieldLoop-clause-weighs
pass-returns-in_ok-pass_cut-in-YieldLoop-clause-weighs t c = λ linear.
    omega (arith, c.in_ok-pass_cut-in-YieldLoop.ensures.weighs)

pub pass-returns-in_ok-pass_cut-in-RankLoop-clause-leaves : goal.pass-returns-in_ok-pass_cut-in-RankLoop-clause-leaves
pass-returns-in_ok-pass_cut-in-RankLoop-clause-leaves t c = λ linear.
    let rest = c.in_ok-pass_cut-in-RankLoop.ensures.rest in
    leaves_same c.args.program.now c.args.proc.now _ c.args.sweep.now c.pass_cut-in-RankLoop.new.sweep (ap (λ (y : Sweep). y.globals) rest) (ap (λ (y : Sweep). y.locals) rest)

pub pass-returns-in_ok-pass_cut-in-RankLoop-clause-weighs : goal.pass-returns-in_ok-pass_cut-in-RankLoop-clause-weighs
pass-returns-in_ok-pass_cut-in-RankLoop-clause-weighs t c = λ linear.
    omega (arith, c.in_ok-pass_cut-in-RankLoop.ensures.weighs)

pub pass-returns-in_ok-stop-in-While-clause-leaves : goal.pass-returns-in_ok-stop-in-While-clause-leaves
pass-returns-in_ok-stop-in-While-clause-leaves t c = λ linear.
    let rest = c.in_ok-stop-in-While.ensures.rest in
    leaves_same c.args.program.now c.args.proc.now _ c.args.sweep.now c.stop.new.sweep (ap (λ (y : Sweep). y.globals) rest) (ap (λ (y : Sweep). y.locals) rest)

pub pass-returns-in_ok-stop-in-While-clause-weighs : goal.pass-returns-in_ok-stop-in-While-clause-weighs
pass-returns-in_ok-stop-in-While-clause-weighs t c = λ linear.
    omega (arith, c.in_ok-stop-in-While.ensures.weighs)

pub pass-returns-in_ok-stop-in-Spawn-clause-leaves : goal.pass-returns-in_ok-stop-in-Spawn-clause-leaves
pass-returns-in_ok-stop-in-Spawn-clause-leaves t c = λ linear.
    let rest = c.in_ok-stop-in-Spawn.ensures.rest in
    leaves_same c.args.program.now c.args.proc.now _ c.args.sweep.now c.stop-in-Spawn.new.sweep (ap (λ (y : Sweep). y.globals) rest) (ap (λ (y : Sweep). y.locals) rest)

pub pass-returns-in_ok-stop-in-Spawn-clause-weighs : goal.pass-returns-in_ok-stop-in-Spawn-clause-weighs
pass-returns-in_ok-stop-in-Spawn-clause-weighs t c = λ linear.
    omega (arith, c.in_ok-stop-in-Spawn.ensures.weighs)

pub pass-returns-in_ok-join-in-If-clause-leaves : goal.pass-returns-in_ok-join-in-If-clause-leaves
pass-returns-in_ok-join-in-If-clause-leaves t c = λ linear.
    let r = c.requires.ready in
    let p = c.args.program.now in
    let q = c.args.proc.now in
    let n = c.args.number in
    let x = c.args.stmt.now in
    let s = c.args.sweep.now in
    let i = c.in-If in
    let o = is_if x _ _ _ i.is in
    let f = c.in_ok-fork-in-If in
    let swapped = c.swap-ended.ensures.is ∙ ap (λ y. with_front y c.pass_all.new.sweep) c.in_ok-before-in-If.ensures in
    let e = c.in_ok-join-in-If.ensures in
    if_leaves c.args.program.now c.args.layer q x i.condition i.first i.second o c.args.terms.now s c.requires.ready.can f.fork.first f.fork.second c.pass_all.new.sweep c.swap-ended.new.sweep c.pass_all-in-If.new.sweep (c.in_ok-pass_all-in-If.ensures.leaves linear) swapped (c.in_ok-pass_all-in-If-2.ensures.leaves linear) c.swap-ended.result c.swap-ended.ensures.was c.join.new.sweep e.same_globals e.same_locals

pub pass-returns-in_ok-join-in-If-clause-weighs : goal.pass-returns-in_ok-join-in-If-clause-weighs
pass-returns-in_ok-join-in-If-clause-weighs t c = λ linear.
    let r = c.requires.ready in
    let p = c.args.program.now in
    let q = c.args.proc.now in
    let n = c.args.number in
    let x = c.args.stmt.now in
    let s = c.args.sweep.now in
    let i = c.in-If in
    let o = is_if x _ _ _ i.is in
    let f = c.in_ok-fork-in-If in
    let swapped = c.swap-ended.ensures.is ∙ ap (λ y. with_front y c.pass_all.new.sweep) c.in_ok-before-in-If.ensures in
    let ends = can_end p c.args.layer q c.args.chosen.now n x i.condition i.first i.second o c.args.terms.now c.part.new.terms c.args.sweep.now f.fork r c.if-not-sweep.false f.ensures.grows f.ensures.test f.ensures.first f.ensures.second c.pass_all.new.terms c.pass_all.new.sweep c.in_ok-pass_all-in-If.ensures.grows c.in_ok-pass_all-in-If.ensures.passes c.swap-ended.new.sweep (c.swap-ended.ensures.is ∙ ap (λ y. with_front y c.pass_all.new.sweep) c.in_ok-before-in-If.ensures) _ (ap (λ (m : ℕ). n + 1 + m) c.sizes.ensures) c.swap-ended.result c.swap-ended.ensures.was c.pass_all-in-If.new.terms c.pass_all-in-If.new.sweep c.in_ok-pass_all-in-If-2.ensures.grows c.in_ok-pass_all-in-If-2.ensures.passes in
    let w = c.pass_all-in-If.new.terms in
    if_weighs p c.args.layer q n x i.condition i.first i.second o s.onward s.onward c.swap-ended.new.sweep.onward c.if-not-sweep.false (n + 1 + c.sizes.result) (ap (λ (m : ℕ). n + 1 + m) c.sizes.ensures)
    (graph_weight c.args.terms.now) (graph_weight c.part.new.terms) (graph_weight c.pass_all.new.terms) (graph_weight w) (graph_weight c.join.new.terms) (differing w c.swap-ended.result.globals c.pass_all-in-If.new.sweep.globals) (differing w c.swap-ended.result.locals c.pass_all-in-If.new.sweep.locals)
    f.ensures.weighs (c.in_ok-pass_all-in-If.ensures.weighs linear) (c.in_ok-pass_all-in-If-2.ensures.weighs linear) c.in_ok-join-in-If.ensures.weighs
    (globals_differ c.args.program.now c.args.layer q x i.condition i.first i.second o c.args.terms.now s c.requires.ready.can f.fork.first f.fork.second c.pass_all.new.sweep c.swap-ended.new.sweep c.pass_all-in-If.new.sweep (c.in_ok-pass_all-in-If.ensures.leaves linear) swapped (c.in_ok-pass_all-in-If-2.ensures.leaves linear) c.swap-ended.result c.swap-ended.ensures.was w ends.globals) (locals_differ c.args.program.now c.args.layer q x i.condition i.first i.second o c.args.terms.now s c.requires.ready.can f.fork.first f.fork.second c.pass_all.new.sweep c.swap-ended.new.sweep c.pass_all-in-If.new.sweep (c.in_ok-pass_all-in-If.ensures.leaves linear) swapped (c.in_ok-pass_all-in-If-2.ensures.leaves linear) c.swap-ended.result c.swap-ended.ensures.was w ends.locals)

pub pass_all-returns-clause-leaves : goal.pass_all-returns-clause-leaves
pass_all-returns-clause-leaves t c = λ linear. c.loop-stmt.invariant.leaves linear

pub pass_all-returns-clause-weighs : goal.pass_all-returns-clause-weighs
pass_all-returns-clause-weighs t c = λ linear. omega (arith, c.loop-stmt.invariant.weighs linear)
