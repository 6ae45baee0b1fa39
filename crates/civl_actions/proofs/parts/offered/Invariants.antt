use Rattle.std.proofs.Common.{take}
use Rattle.civl_tree.specs.rules.Scopes.{gate_scope}
use Rattle.civl_terms.specs.Building.{Grows}
use Rattle.civl_actions.specs.inner.Steps.{AreOffered}
use Rattle.civl_actions.proofs.parts.offered.Given as goal

abbrev pub invariant-loop-choice : goal.invariant-loop-choice
invariant-loop-choice l =
    AreOffered l.initial.terms l.terms l.scope (gate_scope l.program l.action) (take l.choice-index l.action.choices) l.ids.items
    × Grows l.initial.terms l.terms
