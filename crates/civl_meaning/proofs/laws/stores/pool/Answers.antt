use Rattle.civl_meaning.proofs.Stores.{empty_pool_is_initial}
use Rattle.civl_meaning.proofs.Stores.{other_pools_are_not}
use Rattle.civl_meaning.proofs.Stores.{pool_carries_its_bits}
use Rattle.civl_meaning.proofs.Stores.{thirteen_is_initial}
use Rattle.civl_meaning.proofs.Stores.{two_is_not}
use Rattle.civl_tree.specs.declared.expr.Expr.{the_lemmas as of_expr}
use Rattle.civl_tree.specs.declared.stmt.Stmt.{the_lemmas as of_stmt}
use Rattle.civl_firing.specs.Fired.{gate_holds, fires, fired}
use Rattle.std.proofs.Common.{refl}
use Rattle.civl_meaning.proofs.laws.stores.pool.Goals as goal

pub returns-clause-empty : goal.returns-clause-empty
returns-clause-empty c = empty_pool_is_initial

pub returns-clause-others : goal.returns-clause-others
returns-clause-others c = other_pools_are_not

pub returns-clause-bits : goal.returns-clause-bits
returns-clause-bits c = pool_carries_its_bits

pub returns-clause-thirteen : goal.returns-clause-thirteen
returns-clause-thirteen c = thirteen_is_initial

pub returns-clause-two : goal.returns-clause-two
returns-clause-two c = two_is_not

pub returns-clause-drop : goal.returns-clause-drop
unfolding gate_holds fires fired
returns-clause-drop c = simp (of_expr, of_stmt)

pub returns-clause-plain : goal.returns-clause-plain
returns-clause-plain c = refl

pub returns-clause-disjoint : goal.returns-clause-disjoint
returns-clause-disjoint c = refl
