use Rattle.std.specs.Prelude.{◌≡◌, ◌+◌, ◌≤◌, Bool, ◌||◌, List, Some, take}
use Rattle.civl_tree.specs.declared.expr.Sort.TheVariants.{Bool as Truth}
use Rattle.civl_terms.specs.Graphs.{sort_at}
use Rattle.civl_terms.specs.Building.{Grows}
use Rattle.civl_terms.specs.Weights.{graph_weight}
use Rattle.civl_states.specs.formula_parts.Said.{Env, IsTest, AreTests, some_true}
use Rattle.civl_states.proofs.formula_parts.tests.any_with.Given as goal

abbrev pub invariant-loop-test : goal.invariant-loop-test
invariant-loop-test l =
    Grows l.initial.terms l.terms × (sort_at l.terms l.id ≡ Some Truth) × (graph_weight l.terms ≤ graph_weight l.initial.terms + l.test-index)
    × ((f : Env → Bool) (fs : List (Env → Bool)) → IsTest l.initial.terms l.first f → AreTests l.initial.terms (take l.test-index l.tests) fs → IsTest l.terms l.id (λ env. f env || some_true fs env))
