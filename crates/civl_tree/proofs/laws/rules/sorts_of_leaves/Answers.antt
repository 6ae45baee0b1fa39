use Rattle.std.proofs.Common.{rules}
use Rattle.civl_tree.specs.declared.expr.Expr.{the_lemmas as of_expr}
use Rattle.civl_tree.proofs.laws.rules.sorts_of_leaves.Goals as goal

pub returns : goal.returns
returns c = search (rules, of_expr)
