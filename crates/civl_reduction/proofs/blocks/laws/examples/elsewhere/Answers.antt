use Rattle.std.proofs.Common.{refl}
use Rattle.civl_meaning.specs.Rest.{with_rest, rest_among}
use Rattle.civl_reduction.proofs.blocks.Standing.Computing.{examples}
use Rattle.civl_reduction.proofs.blocks.laws.examples.elsewhere.Goals as goal

pub returns-clause-others : goal.returns-clause-others
unfolding rest_among with_rest
returns-clause-others c = (refl, refl, refl, simp examples, refl, refl)

pub returns-clause-inside : goal.returns-clause-inside
unfolding rest_among with_rest
returns-clause-inside c = (simp examples, simp examples, simp examples)
