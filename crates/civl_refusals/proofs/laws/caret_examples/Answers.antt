use Rattle.std.proofs.Common.{refl}
use Rattle.civl_refusals.proofs.laws.caret_examples.Goals as goal

pub returns : goal.returns
returns c = refl
