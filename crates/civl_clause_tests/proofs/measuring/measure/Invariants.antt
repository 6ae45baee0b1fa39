use Rattle.std.specs.Prelude.{slice_get}
use Rattle.std.proofs.Common.{◌≡◌, ℕ, ◌<◌, ◌^◌, Some}
use Rattle.civl_tree.specs.declared.expr.Sort.{Sort}
use Rattle.civl_terms.specs.declared.node.Node.TheVariants.{Variable}
use Rattle.civl_terms.specs.Weights.{first_weight}
use Rattle.civl_clause_tests.proofs.measuring.measure.Given as goal

abbrev pub invariant-loop-at : goal.invariant-loop-at
invariant-loop-at l = record {
  total : l.total ≡ first_weight l.terms l.at;
  numbers : (i k : ℕ) (s : Sort) → i < l.at → slice_get l.terms i ≡ Some (Variable k s) → k < 2 ^ 31;
}
