-- Each move is of the thread or of another one.
use Rattle.std.specs.Prelude.{ℕ, ◌+◌, ◌≡◌, List, length}
use Rattle.civl_reduction.specs.gathering.Gathered.{own, others}

abbrev pub MovesAreSplit : Type 0
MovesAreSplit = (t : ℕ) (movers : List ℕ) → length (own (λ n. n) t movers) + length (others (λ n. n) t movers) ≡ length movers
