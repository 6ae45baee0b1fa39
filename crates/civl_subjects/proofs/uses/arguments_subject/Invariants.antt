use Rattle.std.proofs.Common.{◌≡◌, drop}
use Rattle.civl_tree.specs.rules.Uses.{argument_uses}
use Rattle.civl_types.specs.Views.{scope_of}
use Rattle.civl_subjects.specs.Places.{uses_subject}
use Rattle.civl_subjects.specs.inner.Meant.{sorts_at}
use Rattle.civl_subjects.proofs.uses.arguments_subject.Given as goal

abbrev pub invariant-loop-at : goal.invariant-loop-at
invariant-loop-at l =
    uses_subject l.rule (argument_uses (scope_of l.view) (drop l.at l.args) (drop l.at (sorts_at l.slots)))
    ≡ uses_subject l.fn.rule (argument_uses (scope_of l.fn.view) l.fn.args (sorts_at l.fn.slots))
