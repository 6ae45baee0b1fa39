use Rattle.std.proofs.Common.{refl}
use Rattle.civl_tree.specs.declared.stmt.Stmt.{the_lemmas as of_stmt}
use Rattle.civl_meaning.specs.Rest.{with_rest, rest_among}
use Rattle.civl_meaning.proofs.Rests.{rest_is}
use Rattle.civl_meaning.proofs.laws.frames.nested.Goals as goal

pub returns-clause-before : goal.returns-clause-before
returns-clause-before c = refl

pub returns-clause-three : goal.returns-clause-three
unfolding rest_among with_rest
returns-clause-three c = simp (of_stmt, rest_is)

pub returns-clause-branch : goal.returns-clause-branch
unfolding rest_among with_rest
returns-clause-branch c = simp (of_stmt, rest_is)

pub returns-clause-exit : goal.returns-clause-exit
unfolding rest_among with_rest
returns-clause-exit c = simp (of_stmt)

pub returns-clause-after : goal.returns-clause-after
returns-clause-after c = refl
