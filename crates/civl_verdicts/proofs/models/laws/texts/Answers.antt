use Rattle.std.specs.Fmt.{digits}
use Rattle.std.proofs.Common.{refl}
use Rattle.civl_verdicts.proofs.models.laws.texts.Goals as goal

pub returns : goal.returns
unfolding digits
returns c = record { yes = refl; not = refl; word = refl; nought = refl; pair = refl; four = refl }
