-- What several rounds of asking come to.
use Rattle.std.specs.Prelude.{ℕ, List}
use Rattle.civl_portfolio.specs.Prover.{Meanings}
use Rattle.civl_portfolio.specs.First.{KeepsFirst}
use Rattle.civl_verdicts.specs.decisions.Decided.{WereAsked}

-- whatever the others do, an honest first prover stays the first, and was asked once in each round
abbrev pub HonestFirstStaysOverRounds : (B : Type 0) → Type 0
HonestFirstStaysOverRounds B = (before after : List B) (rounds budget : ℕ) (m : Meanings B) → WereAsked before after rounds budget m → KeepsFirst before after rounds m
