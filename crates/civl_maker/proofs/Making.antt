-- What is made in a graph of its own is the term of its formula.
use Rattle.std.specs.Prelude.{All, IsTrue}
use Rattle.std.proofs.Common.{◌≡◌, ◌+◌, ◌*◌, ◌≤◌, List, [], sym, ap, subst, arith}
use Rattle.civl_tree.specs.declared.expr.Sort.{Sort}
use Rattle.civl_tree.specs.declared.program.Program.{Program}
use Rattle.civl_tree.specs.rules.Rules.{Keeps}
use Rattle.civl_tree.specs.rules.Typing.{typing_rules}
use Rattle.civl_firing.specs.values.Values.{is_sort}
use Rattle.civl_terms.specs.declared.node.Node.{Node}
use Rattle.civl_terms.specs.Weights.{graph_weight}
use Rattle.civl_conditions.specs.declared.condition.Condition.{Condition}
use Rattle.civl_states.specs.Formulas.{IsFormula, sorts_of}
use Rattle.civl_states.specs.Stores.{global_sorts}
use Rattle.civl_states.proofs.Limits.{global_sorts_are}
use Rattle.civl_verdicts.specs.Formulas.{Formula, initial_formula, violation_formula}
use Rattle.civl_verdicts.specs.declared.judging.formula.Made.{Made}
use Rattle.civl_verdicts.specs.judging.Made.{IsMade}
use Rattle.civl_verdicts.proofs.findings.Sorted.{variables_have_sorts}

made_of : (formula : Formula) (old : List Node) (made : Made) → old ≡ [] → made.sorts ≡ formula.sorts → IsFormula made.terms made.id formula.sorts formula.truth → All (λ s. IsTrue (is_sort s)) formula.sorts
    → graph_weight made.terms ≤ graph_weight old + 4 * formula.weight → IsMade formula made
unfolding graph_weight
made_of formula old made none sorts term limits weighs = record {
  sorts = sorts;
  term = term;
  limits = subst (λ (ss : List Sort). All (λ s. IsTrue (is_sort s)) ss) (sym sorts) limits;
  weighs = let light : graph_weight old ≡ 0 = ap graph_weight none in omega (arith, weighs, light);
}

pub initial_made : (program : Program) (old : List Node) (made : Made) → Keeps typing_rules program → old ≡ [] → made.sorts ≡ global_sorts program
    → IsFormula made.terms made.id (initial_formula program).sorts (initial_formula program).truth
    → graph_weight made.terms ≤ graph_weight old + 4 * (initial_formula program).weight → IsMade (initial_formula program) made
initial_made program old made keeps none sorts term weighs = made_of (initial_formula program) old made none sorts term (global_sorts_are program keeps) weighs

pub violation_made : (program : Program) (condition : Condition) (old : List Node) (made : Made) → Keeps typing_rules program → old ≡ [] → made.sorts ≡ sorts_of program condition
    → IsFormula made.terms made.id (violation_formula program condition).sorts (violation_formula program condition).truth
    → graph_weight made.terms ≤ graph_weight old + 4 * (violation_formula program condition).weight → IsMade (violation_formula program condition) made
violation_made program condition old made keeps none sorts term weighs = made_of (violation_formula program condition) old made none sorts term (variables_have_sorts program condition keeps) weighs
