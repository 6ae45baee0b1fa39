use Rattle.std.proofs.Common.{List, refl, ap, ◌∙◌, ◌+◌, ℕ}
use Rattle.civl_tree.specs.declared.stmt.Stmt.{Stmt, the_lemmas as of_stmt}
use Rattle.civl_tree.specs.declared.stmt.Stmt.TheOpen as stmt
use Rattle.civl_tree.specs.Numbering.{sizes_of}
use Rattle.civl_meaning.specs.Places.{start_of}
use Rattle.civl_goals.specs.Weights.{note_before_weight}
use Rattle.civl_outlined.proofs.Stating.{reaches_one, reaches_two}
use Rattle.civl_outlined.proofs.statements.reaches.Goals as goal

pub returns-in-If : goal.returns-in-If
returns-in-If c =
    reaches_two (note_before_weight c.args.said.now.program.now c.args.said.now.outline.now c.args.place) c.args.stmt.now (stmt.If c.in-If.field-0 c.in-If.first c.in-If.second) c.args.at c.args.next c.begin-chosen.result c.begin-other.result
    (start_of c.in-If.first (c.args.at + 1) c.args.next) (start_of c.in-If.second (c.args.at + 1 + sizes_of c.in-If.first) c.args.next) (rw c.in-If.is (simp of_stmt)) refl
    (c.begin-chosen.ensures ∙ ap (λ (ss : List Stmt). start_of ss (c.args.at + 1) c.args.next) c.as_slice.ensures)
    (c.begin-other.ensures ∙ ap (λ (ss : List Stmt). start_of ss (c.args.at + 1 + c.sizes.result) c.args.next) c.as_slice-in-If.ensures ∙ ap (λ (n : ℕ). start_of c.in-If.second (c.args.at + 1 + n) c.args.next) c.sizes.ensures) c.both.ensures

pub returns-in-While : goal.returns-in-While
returns-in-While c =
    reaches_two (note_before_weight c.args.said.now.program.now c.args.said.now.outline.now c.args.place) c.args.stmt.now (stmt.While c.in-While.field-0 c.in-While.body) c.args.at c.args.next c.begin.result c.args.next
    (start_of c.in-While.body (c.args.at + 1) c.args.at) c.args.next (rw c.in-While.is (simp of_stmt)) refl (c.begin.ensures ∙ ap (λ (ss : List Stmt). start_of ss (c.args.at + 1) c.args.at) c.as_slice-in-While.ensures) refl c.both-in-While.ensures

pub returns-in-YieldLoop : goal.returns-in-YieldLoop
returns-in-YieldLoop c =
    reaches_two (note_before_weight c.args.said.now.program.now c.args.said.now.outline.now c.args.place) c.args.stmt.now (stmt.YieldLoop c.in-YieldLoop.field-0 c.in-YieldLoop.field-1 c.in-YieldLoop.body) c.args.at c.args.next c.begin-in-YieldLoop.result c.args.next
    (start_of c.in-YieldLoop.body (c.args.at + 1) c.args.at) c.args.next (rw c.in-YieldLoop.is (simp of_stmt)) refl (c.begin-in-YieldLoop.ensures ∙ ap (λ (ss : List Stmt). start_of ss (c.args.at + 1) c.args.at) c.as_slice-in-YieldLoop.ensures) refl c.both-in-YieldLoop.ensures

pub returns-in-RankLoop : goal.returns-in-RankLoop
returns-in-RankLoop c =
    reaches_two (note_before_weight c.args.said.now.program.now c.args.said.now.outline.now c.args.place) c.args.stmt.now (stmt.RankLoop c.in-RankLoop.field-0 c.in-RankLoop.field-1 c.in-RankLoop.field-2 c.in-RankLoop.body) c.args.at c.args.next c.begin-in-RankLoop.result c.args.next
    (start_of c.in-RankLoop.body (c.args.at + 1) c.args.at) c.args.next (rw c.in-RankLoop.is (simp of_stmt)) refl (c.begin-in-RankLoop.ensures ∙ ap (λ (ss : List Stmt). start_of ss (c.args.at + 1) c.args.at) c.as_slice-in-RankLoop.ensures) refl c.both-in-RankLoop.ensures

pub returns-in-Assign : goal.returns-in-Assign
returns-in-Assign c = reaches_one (note_before_weight c.args.said.now.program.now c.args.said.now.outline.now c.args.place) c.args.stmt.now (stmt.Assign c.in-Assign.field-0 c.in-Assign.field-1) c.args.at c.args.next (rw c.in-Assign.is (simp of_stmt)) refl c.note_before.ensures

pub returns-in-Assert : goal.returns-in-Assert
returns-in-Assert c = reaches_one (note_before_weight c.args.said.now.program.now c.args.said.now.outline.now c.args.place) c.args.stmt.now (stmt.Assert c.in-Assert.field-0) c.args.at c.args.next (rw c.in-Assert.is (simp of_stmt)) refl c.note_before-in-Assert.ensures

pub returns-in-Call : goal.returns-in-Call
returns-in-Call c = reaches_one (note_before_weight c.args.said.now.program.now c.args.said.now.outline.now c.args.place) c.args.stmt.now (stmt.Call c.in-Call.field-0 c.in-Call.field-1 c.in-Call.field-2) c.args.at c.args.next (rw c.in-Call.is (simp of_stmt)) refl c.note_before-in-Call.ensures

pub returns-in-Yield : goal.returns-in-Yield
returns-in-Yield c = reaches_one (note_before_weight c.args.said.now.program.now c.args.said.now.outline.now c.args.place) c.args.stmt.now (stmt.Yield c.in-Yield.field-0) c.args.at c.args.next (rw c.in-Yield.is (simp of_stmt)) refl c.note_before-in-Yield.ensures

pub returns-in-Commit : goal.returns-in-Commit
returns-in-Commit c = reaches_one (note_before_weight c.args.said.now.program.now c.args.said.now.outline.now c.args.place) c.args.stmt.now stmt.Commit c.args.at c.args.next (rw c.in-Commit.is (simp of_stmt)) refl c.note_before-in-Commit.ensures

pub returns-in-Intro : goal.returns-in-Intro
returns-in-Intro c = reaches_one (note_before_weight c.args.said.now.program.now c.args.said.now.outline.now c.args.place) c.args.stmt.now (stmt.Intro c.in-Intro.field-0 c.in-Intro.field-1) c.args.at c.args.next (rw c.in-Intro.is (simp of_stmt)) refl c.note_before-in-Intro.ensures

pub returns-in-Spawn : goal.returns-in-Spawn
returns-in-Spawn c = reaches_one (note_before_weight c.args.said.now.program.now c.args.said.now.outline.now c.args.place) c.args.stmt.now (stmt.Spawn c.in-Spawn.field-0 c.in-Spawn.field-1) c.args.at c.args.next (rw c.in-Spawn.is (simp of_stmt)) refl c.note_before-in-Spawn.ensures
