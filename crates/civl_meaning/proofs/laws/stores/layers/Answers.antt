use Rattle.std.proofs.Common.{refl}
use Rattle.civl_meaning.proofs.laws.stores.layers.Goals as goal

pub returns-clause-bodies : goal.returns-clause-bodies
returns-clause-bodies c = refl

pub returns-clause-names : goal.returns-clause-names
returns-clause-names c = refl
