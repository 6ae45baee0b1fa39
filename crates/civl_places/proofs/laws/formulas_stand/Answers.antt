use Rattle.civl_places.proofs.Places.{formulas_stand}
use Rattle.civl_places.proofs.laws.formulas_stand.Goals as goal

pub returns : goal.returns
returns c = formulas_stand
