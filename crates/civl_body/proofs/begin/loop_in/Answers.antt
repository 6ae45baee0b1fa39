use Rattle.std.proofs.Common.{◌≡◌, Some, subst}
use Rattle.civl_body.specs.Passing.{IsLoop}
use Rattle.civl_body.specs.declared.begin.Round.{Round}
use Rattle.civl_body.proofs.Heads.{plain_assign, plain_assert, plain_if, plain_while, plain_call, plain_yield, plain_commit, plain_intro, plain_spawn, loop_yield_loop, loop_rank_loop}
use Rattle.civl_body.proofs.begin.loop_in.Goals as goal

same : (a b : Round) → Some a ≡ Some b → a ≡ b
same a b q = cc

pub returns-in-YieldLoop-clause-is : goal.returns-in-YieldLoop-clause-is
returns-in-YieldLoop-clause-is c = λ r e. subst (λ (q : Round). IsLoop c.args.stmt.now q.condition.now q.body.now) (same _ r e) (loop_yield_loop c.args.stmt.now _ _ _ c.in-YieldLoop.is)

pub returns-in-RankLoop-clause-is : goal.returns-in-RankLoop-clause-is
returns-in-RankLoop-clause-is c = λ r e. subst (λ (q : Round). IsLoop c.args.stmt.now q.condition.now q.body.now) (same _ r e) (loop_rank_loop c.args.stmt.now _ _ _ _ c.in-RankLoop.is)

pub returns-in-Assign-clause-not : goal.returns-in-Assign-clause-not
returns-in-Assign-clause-not c = λ e. plain_assign c.args.stmt.now _ _ c.in-Assign.is

pub returns-in-Assert-clause-not : goal.returns-in-Assert-clause-not
returns-in-Assert-clause-not c = λ e. plain_assert c.args.stmt.now _ c.in-Assert.is

pub returns-in-If-clause-not : goal.returns-in-If-clause-not
returns-in-If-clause-not c = λ e. plain_if c.args.stmt.now _ _ _ c.in-If.is

pub returns-in-While-clause-not : goal.returns-in-While-clause-not
returns-in-While-clause-not c = λ e. plain_while c.args.stmt.now _ _ c.in-While.is

pub returns-in-Call-clause-not : goal.returns-in-Call-clause-not
returns-in-Call-clause-not c = λ e. plain_call c.args.stmt.now _ _ _ c.in-Call.is

pub returns-in-Yield-clause-not : goal.returns-in-Yield-clause-not
returns-in-Yield-clause-not c = λ e. plain_yield c.args.stmt.now _ c.in-Yield.is

pub returns-in-Commit-clause-not : goal.returns-in-Commit-clause-not
returns-in-Commit-clause-not c = λ e. plain_commit c.args.stmt.now c.in-Commit.is

pub returns-in-Intro-clause-not : goal.returns-in-Intro-clause-not
returns-in-Intro-clause-not c = λ e. plain_intro c.args.stmt.now _ _ c.in-Intro.is

pub returns-in-Spawn-clause-not : goal.returns-in-Spawn-clause-not
returns-in-Spawn-clause-not c = λ e. plain_spawn c.args.stmt.now _ _ c.in-Spawn.is
