-- The worked graph.
use Rattle.std.proofs.Common.{◌≡◌, ℕ, true, refl, ap₂}
use Rattle.civl_bits.specs.declared.value.Value.{Value}
use Rattle.civl_bits.specs.declared.value.Value.TheVariants as value
use Rattle.civl_tree.specs.declared.expr.Two.TheVariants.{Add, Mul, Lt}
use Rattle.civl_firing.specs.values.Operators.{two_value}
use Rattle.civl_terms.specs.Graphs.{values, value_at, sorts}
use Rattle.civl_terms.specs.Weights.{graph_weight, term_weight}
use Rattle.civl_terms.specs.examples.Graphs.{example}

pub variable : term_weight example 0 ≡ 8
unfolding term_weight sorts
variable = refl

pub square : term_weight example 3 ≡ 160
unfolding term_weight sorts
square = refl

pub below : term_weight example 5 ≡ 48
unfolding term_weight sorts
below = refl

pub all : graph_weight example ≡ 176
unfolding graph_weight sorts
all = refl

pub square_value : (env : ℕ → Value) → env 0 ≡ value.Word (8, 250) → env 1 ≡ value.Word (8, 8) → value_at env example 3 ≡ value.Word (8, 4)
unfolding values
square_value env e f = ap₂ (λ (x y : Value). two_value Mul (two_value Add x y) (two_value Add x y)) e f

pub below_value : (env : ℕ → Value) → env 0 ≡ value.Word (8, 250) → env 1 ≡ value.Word (8, 8) → value_at env example 5 ≡ value.Bool true
unfolding values
below_value env e f = ap₂ (λ (x y : Value). two_value Lt (two_value Add x y) (value.Word (8, 3))) e f
