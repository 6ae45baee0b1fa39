use Rattle.std.specs.Prelude.{◌+◌, ◌≤◌, drop}
use Rattle.civl_tree.specs.rules.Rules.{Keeps}
use Rattle.civl_linear.specs.LinearRules.{linear_rules}
use Rattle.civl_terms.specs.Weights.{graph_weight}
use Rattle.civl_conditions.specs.paths.Flows.{flow_all}
use Rattle.civl_body.specs.Weights.{passed_weights, spent}
use Rattle.civl_body.specs.Passing.{UnderRest}
use Rattle.civl_meaning.specs.Remaining.{rest_of}
use Rattle.civl_body.proofs.statements.pass_rest.Given as goal

abbrev pub invariant-loop-item : goal.invariant-loop-item
invariant-loop-item l =
    UnderRest l.initial.terms l.terms l.program l.layer l.proc l.chosen l.initial.sweep l.sweep (rest_of l.items) (drop l.item-index (rest_of l.items))
    × (Keeps linear_rules l.program
    → graph_weight l.terms + spent l.sweep.onward (passed_weights l.program l.layer l.proc (flow_all (drop l.item-index (rest_of l.items))).passed)
    ≤ graph_weight l.initial.terms + spent l.initial.sweep.onward (passed_weights l.program l.layer l.proc (flow_all (rest_of l.items)).passed))
