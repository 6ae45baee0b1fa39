use Rattle.std.proofs.Common.{◌≡◌, drop, map, Some}
use Rattle.civl_tree.specs.rules.Uses.{target_use}
use Rattle.civl_types.specs.inner.Rules.{any_use}
use Rattle.civl_types.specs.Views.{scope_of}
use Rattle.civl_types.proofs.uses.offers_break.Given as goal

abbrev pub invariant-loop-choice : goal.invariant-loop-choice
invariant-loop-choice l =
    any_use l.rule (map (λ choice. target_use (scope_of l.view) choice.offer (Some choice.sort)) (drop l.choice-index l.choices))
    ≡ any_use l.fn.rule (map (λ choice. target_use (scope_of l.fn.view) choice.offer (Some choice.sort)) l.fn.choices)
