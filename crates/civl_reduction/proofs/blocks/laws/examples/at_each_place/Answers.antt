use Rattle.civl_meaning.specs.Rest.{with_rest, rest_among}
use Rattle.civl_reduction.proofs.blocks.Standing.Computing.{examples}
use Rattle.civl_reduction.proofs.blocks.laws.examples.at_each_place.Goals as goal

pub returns-clause-straight : goal.returns-clause-straight
unfolding rest_among with_rest
returns-clause-straight c = (simp examples, simp examples, simp examples, simp examples, simp examples, simp examples, simp examples, simp examples)

pub returns-clause-branches : goal.returns-clause-branches
unfolding rest_among with_rest
returns-clause-branches c = (simp examples, simp examples, simp examples, simp examples)

pub returns-clause-again : goal.returns-clause-again
unfolding rest_among with_rest
returns-clause-again c = (simp examples, simp examples, simp examples, simp examples)

pub returns-clause-pausing : goal.returns-clause-pausing
unfolding rest_among with_rest
returns-clause-pausing c = (simp examples, simp examples, simp examples, simp examples)
