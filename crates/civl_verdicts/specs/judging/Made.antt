-- The term of a formula in a graph of its own, ready to be decided.
use Rattle.std.specs.Prelude.{◌≡◌, ◌≤◌, ◌*◌, All, IsTrue}
use Rattle.civl_firing.specs.values.Values.{is_sort}
use Rattle.civl_terms.specs.Weights.{graph_weight}
use Rattle.civl_states.specs.Formulas.{IsFormula}
use Rattle.civl_verdicts.specs.Formulas.{Formula}
use Rattle.civl_verdicts.specs.declared.judging.formula.Made.{Made}

-- the term is the formula's, over variables of its sorts, and the graph weighs at most four times the formula
pub record IsMade (formula : Formula) (made : Made) : Type 0 where
  pub sorts : made.sorts ≡ formula.sorts
  pub term : IsFormula made.terms made.id formula.sorts formula.truth
  pub limits : All (λ s. IsTrue (is_sort s)) made.sorts
  pub weighs : graph_weight made.terms ≤ 4 * formula.weight
