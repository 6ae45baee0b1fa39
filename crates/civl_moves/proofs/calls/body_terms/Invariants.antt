use Rattle.std.specs.Prelude.{◌≤◌, ◌+◌, take}
use Rattle.civl_terms.specs.Building.{Grows}
use Rattle.civl_terms.specs.Weights.{graph_weight}
use Rattle.civl_conditions.specs.Weights.{body_weight, weights_of}
use Rattle.civl_moves.specs.Calls.{AreBodyTerms}
use Rattle.civl_moves.proofs.calls.body_terms.Given as goal

abbrev pub invariant-loop-expr : goal.invariant-loop-expr
invariant-loop-expr l =
    AreBodyTerms l.initial.terms l.terms l.program l.proc l.locals (take l.expr-index l.exprs) l.ids.items × Grows l.initial.terms l.terms
    × (graph_weight l.terms ≤ graph_weight l.initial.terms + weights_of (body_weight l.program l.proc) (take l.expr-index l.exprs))
