use Rattle.std.proofs.Common.{◌≡◌, ℕ, ◌*◌, rules}
use Rattle.civl_firing.specs.values.Weights.{two_weight}
use Rattle.civl_weighing.proofs.Capping.{weighing, weighs_same}
use Rattle.civl_weighing.proofs.exprs.two_own.Goals as goal

pub returns-in-Add : goal.returns-in-Add
returns-in-Add c = let same : (n : ℕ) → 2 * n ≡ two_weight c.args.op n = λ n. search rules in record { is = λ n h. weighs_same (same n) (search weighing depth 8) }

pub returns-in-Shl : goal.returns-in-Shl
returns-in-Shl c = let same : (n : ℕ) → 6 * n ≡ two_weight c.args.op n = λ n. search rules in record { is = λ n h. weighs_same (same n) (search weighing depth 8) }

pub returns-in-Mul : goal.returns-in-Mul
returns-in-Mul c = let same : (n : ℕ) → 2 * n * n ≡ two_weight c.args.op n = λ n. search rules in record { is = λ n h. weighs_same (same n) (search weighing depth 8) }

pub returns-in-Udiv : goal.returns-in-Udiv
returns-in-Udiv c = let same : (n : ℕ) → 4 * n * n ≡ two_weight c.args.op n = λ n. search rules in record { is = λ n h. weighs_same (same n) (search weighing depth 8) }
