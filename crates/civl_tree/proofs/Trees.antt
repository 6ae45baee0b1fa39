-- That folds over trees that are written out, and the texts of numbers, compute.
use Rattle.std.proofs.Common.{◌≡◌, ℕ, false, [], refl}
use Rattle.std.specs.Fmt.{digits, digits_onto}
use Rattle.civl_tree.specs.declared.expr.Expr.{the_lemmas as of_expr}
use Rattle.civl_tree.specs.declared.stmt.Stmt.{the_lemmas as of_stmt}

pub ruleset of_trees = (of_expr, of_stmt)

pub decimal_digits : (number : ℕ) → digits 10 false number ≡ digits_onto 64 10 false number []
unfolding digits
decimal_digits number = refl

pub ruleset of_texts = (decimal_digits, of_trees)
