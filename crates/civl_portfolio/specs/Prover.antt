-- What can be said of a prover.
use Rattle.std.specs.Prelude.{ℕ, Bool, Option}
use Rattle.civl_cnf.specs.ClauseSet.{ClauseSet}
use Rattle.civl_portfolio.specs.declared.attempt.Attempt.{Attempt}

-- how often it was asked, how often it lacked memory, whether it is honest, and where it tells, what it will answer
pub record Meanings (B : Type 0) : Type 0 where
  pub asked : B → ℕ
  pub lacks : B → ℕ
  pub honest : B → Bool
  pub plan : B → Option (ClauseSet → ℕ → Attempt)
