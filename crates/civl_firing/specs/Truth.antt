-- Part of the claim: docs/CLAIM.md.
-- The value of an expression that is built from names of bools, `true`, `false`, `!`, `&&` and `||`.
use Rattle.std.specs.Prelude.{ℕ, ◌+◌, Bool, true, false, not, ◌&&◌, ◌||◌, List, [], ◌∷◌, slice_index_or, if◌then◌else◌}
use Rattle.std.specs.Str.{bytes_eq}
use Rattle.civl_tree.specs.declared.name.Name.{Name}
use Rattle.civl_tree.specs.declared.expr.One.{One}
use Rattle.civl_tree.specs.declared.expr.One.TheVariants.{Not}
use Rattle.civl_tree.specs.declared.expr.Two.{Two}
use Rattle.civl_tree.specs.declared.expr.Two.TheVariants.{And, Or}
use Rattle.civl_tree.specs.declared.expr.Expr.{Expr}
use Rattle.civl_tree.specs.declared.expr.Expr.TheFolds.{fold-Expr}
use Rattle.civl_tree.specs.declared.expr.Expr.TheOpen as expr

-- the place of the first of these names that is this one; their number where none is
abbrev pub place_of : List Name → Name → ℕ
place_of [] name = 0
place_of (known ∷ names) name = if bytes_eq known.bytes name.bytes then 0 else place_of names name + 1

abbrev pub one_truth : One → Bool → Bool
one_truth Not a = not a
one_truth _ a = false

abbrev pub two_truth : Two → Bool → Bool → Bool
two_truth And a b = a && b
two_truth Or a b = a || b
two_truth _ a b = false

-- one layer of an expression, with the value of each part in its place
abbrev pub truth_step : List Name → List Bool → expr.Expr-F Bool → Bool
truth_step names store (expr.Name name) = slice_index_or store (place_of names name) false
truth_step names store expr.True = true
truth_step names store (expr.One op a) = one_truth op a
truth_step names store (expr.Two op a b) = two_truth op a b
truth_step names store _ = false

-- the value of an expression, where these names have these values
abbrev pub truth_of : List Name → List Bool → Expr → Bool
truth_of names store = fold-Expr Bool (truth_step names store)
