-- Lengths of spellings.
use Rattle.std.proofs.Common.{length-append}
use Rattle.civl_tree.specs.declared.expr.Expr.{the_lemmas as of_expr}

pub ruleset counts = (length-append, of_expr)
