use Rattle.std.proofs.Common.{◌≡◌, ◌+◌, ◌*◌, ◌≤◌, drop}
use Rattle.civl_tree.specs.Numbering.{numbered, statements_of}
use Rattle.civl_tree.specs.rules.Rules.{Keeps}
use Rattle.civl_linear.specs.LinearRules.{linear_rules}
use Rattle.civl_terms.specs.Weights.{graph_weight}
use Rattle.civl_conditions.specs.paths.Flows.{flow_all}
use Rattle.civl_body.specs.Weights.{Leaves, passed_weights, spent, written}
use Rattle.civl_tree.specs.Numbering.{size_of, sizes_of}
use Rattle.civl_body.specs.Passing.{Under}
use Rattle.civl_body.proofs.statements.+pass.Given as goal

abbrev pub decreases-pass : goal.decreases-pass
decreases-pass l = 2 * size_of l.stmt.now

abbrev pub decreases-pass_all : goal.decreases-pass_all
decreases-pass_all l = 2 * sizes_of l.stmts.now + 1

abbrev pub invariant-pass_all-loop-stmt : goal.invariant-pass_all-loop-stmt
invariant-pass_all-loop-stmt l = record {
  counted : l.here + sizes_of (drop l.stmt-index l.stmt-items) ≡ l.fn.number + sizes_of l.fn.stmts;
  behind : l.fn.number ≤ l.here;
  under : Under l.initial.terms l.terms l.program l.layer l.proc l.chosen l.initial.sweep l.sweep l.fn.number l.here l.fn.stmts (drop l.stmt-index l.stmt-items);
  leaves : Keeps linear_rules l.program → Leaves l.program l.proc (written l.program l.layer (statements_of l.fn.stmts)) l.initial.sweep l.sweep;
  weighs : Keeps linear_rules l.program
      → graph_weight l.terms + spent l.sweep.onward (passed_weights l.program l.layer l.proc (flow_all (numbered l.here (drop l.stmt-index l.stmt-items))).passed)
      ≤ graph_weight l.initial.terms + spent l.initial.sweep.onward (passed_weights l.program l.layer l.proc (flow_all (numbered l.fn.number l.fn.stmts)).passed);
}
