use Rattle.civl_reduction.proofs.gathering.Counting.{split_length}
use Rattle.civl_reduction.proofs.gathering.laws.moves_are_split.Goals as goal

pub returns : goal.returns
returns c t movers = split_length (λ n. n) t movers
