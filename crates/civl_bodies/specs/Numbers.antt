-- Numbers that follow one another.
use Rattle.std.specs.Prelude.{ℕ, zero, suc, ◌+◌, List, [], ◌∷◌}
use Rattle.civl_bodies.specs.declared.numbers.Run.{Run}

-- so many from this one on
abbrev pub counted : ℕ → ℕ → List ℕ
counted first zero = []
counted first (suc n) = first ∷ counted (first + 1) n

abbrev pub numbers_in : Run → List ℕ
numbers_in run = counted run.first run.count
