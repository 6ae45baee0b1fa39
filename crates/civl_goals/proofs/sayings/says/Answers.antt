use Rattle.std.proofs.Common.{ap, ◌∙◌}
use Rattle.civl_tree.specs.rules.Sorts.{is_truth}
use Rattle.civl_goals.specs.inner.Sayings.{scope_of}
use Rattle.civl_goals.proofs.Fitting.{says_is}
use Rattle.civl_goals.proofs.sayings.says.Goals as goal

pub returns : goal.returns
returns c = c.is_truth.ensures ∙ ap is_truth c.fitting_sort.ensures ∙ says_is (scope_of c.args.place.now) c.args.expr.now
