use Rattle.civl_reduction.proofs.permissions.Reaching.{permissions_stay}
use Rattle.civl_reduction.proofs.permissions.laws.permissions_stay.Goals as goal

pub returns : goal.returns
returns c = permissions_stay
