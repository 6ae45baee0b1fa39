-- The term that was made is the formula's, and a goal that isn't heavy has few variables.
use Rattle.std.specs.Prelude.{map, All, IsTrue}
use Rattle.std.proofs.Common.{◌≡◌, ◌∙◌, ◌+◌, ◌*◌, ◌^◌, ◌<◌, ◌≤◌, List, [], length, sym, ap, subst, arith}
use Rattle.civl_tree.specs.declared.expr.Sort.{Sort}
use Rattle.civl_tree.specs.declared.program.Program.{Program}
use Rattle.civl_tree.specs.rules.Rules.{Keeps}
use Rattle.civl_tree.specs.rules.StoreSize.{bits_of}
use Rattle.civl_tree.specs.rules.Typing.{typing_rules}
use Rattle.civl_firing.specs.values.Values.{is_sort}
use Rattle.civl_outlines.specs.declared.outline.Outline.{Outline}
use Rattle.civl_terms.specs.declared.node.Node.{Node}
use Rattle.civl_terms.specs.Weights.{graph_weight}
use Rattle.civl_conditions.specs.Weights.{summed, weight_limit}
use Rattle.civl_states.specs.Formulas.{IsFormula}
use Rattle.civl_goals.specs.declared.goal.Goal.{Goal}
use Rattle.civl_goals.specs.Variables.{variables}
use Rattle.civl_goals.specs.Weights.{weight}
use Rattle.civl_verdicts.specs.declared.judging.formula.Made.{Made}
use Rattle.civl_verdicts.specs.judging.Made.{IsMade}
use Rattle.civl_verdicts.proofs.judging.Making.{few_sorts, bits_are}
use Rattle.civl_prove.specs.Proved.{goal_formula}
use Rattle.civl_prove.proofs.outline_reports.Sorted.{goal_variables_have_sorts}

-- ---- what was made

pub goal_made : (program : Program) (outline : Outline) (g : Goal) (old : List Node) (made : Made) → Keeps typing_rules program → old ≡ [] → made.sorts ≡ (goal_formula program outline g).sorts
    → IsFormula made.terms made.id (goal_formula program outline g).sorts (goal_formula program outline g).truth → graph_weight made.terms ≤ graph_weight old + 4 * weight program outline g → IsMade (goal_formula program outline g) made
unfolding graph_weight
goal_made program outline g old made keeps none sorts term weighs = record {
  sorts = sorts;
  term = term;
  limits = subst (λ (ss : List Sort). All (λ s. IsTrue (is_sort s)) ss) (sym sorts) (goal_variables_have_sorts program keeps g);
  weighs = let light : graph_weight old ≡ 0 = ap graph_weight none in omega (arith, weighs, light);
}

-- ---- how many variables

pub few_of_goal : (program : Program) (outline : Outline) (g : Goal) (made : Made) (sorts : List Sort) → IsMade (goal_formula program outline g) made → sorts ≡ made.sorts → weight program outline g ≤ weight_limit → length sorts < 2 ^ 31
unfolding weight
few_of_goal program outline g made sorts h e light =
    let few = few_sorts made.sorts h.limits in
    let bits = ap (λ (ss : List Sort). summed (map bits_of ss)) h.sorts ∙ bits_are (variables program g) in
    omega (arith, few, bits, light, ap length e)
