use Rattle.civl_linear.proofs.Beside.{held_at_each_cut}
use Rattle.civl_linear.proofs.laws.held_at_each_cut.Goals as goal

pub returns : goal.returns
returns c = held_at_each_cut
