use Rattle.std.proofs.Common.{◌≡◌, drop}
use Rattle.civl_tree.specs.rules.Uses.{argument_uses}
use Rattle.civl_types.specs.inner.Rules.{sorts_at, any_use}
use Rattle.civl_types.specs.Views.{scope_of}
use Rattle.civl_types.proofs.uses.arguments_break.Given as goal

abbrev pub invariant-loop-at : goal.invariant-loop-at
invariant-loop-at l =
    any_use l.rule (argument_uses (scope_of l.view) (drop l.at l.args) (drop l.at (sorts_at l.slots)))
    ≡ any_use l.fn.rule (argument_uses (scope_of l.fn.view) l.fn.args (sorts_at l.fn.slots))
