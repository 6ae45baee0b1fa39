use Rattle.std.specs.Prelude.{IsSome, Option}
use Rattle.std.proofs.Common.{◌∙◌, refl, sym, ap, subst, arith}
use Rattle.civl_bits.specs.declared.value.Value.TheVariants as value
use Rattle.civl_tree.specs.declared.expr.Sort.{Sort}
use Rattle.civl_tree.specs.declared.expr.Sort.TheVariants.{Bool as Truth}
use Rattle.civl_firing.specs.values.Weights.{bits_in}
use Rattle.civl_states.proofs.formula_parts.Saying.{test_as}
use Rattle.civl_moves.proofs.Picking.{as_said}
use Rattle.civl_refine.proofs.Judging.{bools_same}
use Rattle.civl_refine.proofs.results.alike.Goals as goal

pub same-requires-clause-sort : goal.same-requires-clause-sort
same-requires-clause-sort c = subst (λ (o : Option Sort). IsSome o) (sym c.requires.a) refl

pub same-requires-clause-alike : goal.same-requires-clause-alike
same-requires-clause-alike c = c.requires.b ∙ sym c.requires.a

pub returns-clause-test : goal.returns-clause-test
returns-clause-test c = λ f g s t.
    test_as _ _ _ _ (λ env. bools_same (f env) (g env)) (c.in_ok-id.ensures.test Truth (λ env. value.Bool (f env)) (λ env. value.Bool (g env)) (as_said _ _ f s) (as_said _ _ g t))

pub returns-clause-weighs : goal.returns-clause-weighs
returns-clause-weighs c = omega (arith, c.in_ok-id.ensures.weighs, ap bits_in c.requires.a)
