use Rattle.civl_provers.proofs.Squares.{square_choice}
use Rattle.civl_provers.proofs.laws.square_wants_one_choice.Goals as goal

pub returns : goal.returns
returns c = square_choice
