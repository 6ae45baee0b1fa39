use Rattle.std.proofs.Common.{arith, ap}
use Rattle.std.proofs.lemmas.Nat.{pow_pos}
use Rattle.civl_bits.specs.declared.value.Value.TheVariants as value
use Rattle.civl_tree.specs.declared.expr.Sort.TheVariants.{Bool as Truth, Word}
use Rattle.civl_tree.specs.declared.expr.Two.TheVariants.{BitAnd, Eq}
use Rattle.civl_firing.specs.values.Operators.{two_value}
use Rattle.civl_firing.specs.values.Weights.{bits_in}
use Rattle.civl_terms.specs.Graphs.{value_at}
use Rattle.civl_terms.proofs.Growing.{grows_trans}
use Rattle.civl_states.specs.formula_parts.Said.{IsSaid}
use Rattle.civl_actions.proofs.Staying.{sorted_within}
use Rattle.civl_states.proofs.formula_parts.Carrying.{itself, said_here, two_said, two_fit, literal_said, both_sorted, equal_sorted, width_of, masks_apart}
use Rattle.civl_states.proofs.formula_parts.carried.are_disjoint.Goals as goal

pub two-requires-clause-a : goal.two-requires-clause-a
two-requires-clause-a c = sorted_within c.args.terms.now c.args.a (Word c.args.bits) c.requires.a

pub two-requires-clause-b : goal.two-requires-clause-b
two-requires-clause-b c = sorted_within c.args.terms.now c.args.b (Word c.args.bits) c.requires.b

pub two-requires-clause-fits : goal.two-requires-clause-fits
two-requires-clause-fits c = two_fit c.args.terms.now BitAnd c.args.a c.args.b (both_sorted c.args.bits) c.requires.a c.requires.b

pub two-requires-2-clause-fits : goal.two-requires-2-clause-fits
two-requires-2-clause-fits c =
    let shared = said_here c.in_ok-none.ensures.grows (two_said BitAnd (both_sorted c.args.bits) c.in_ok-shared.ensures.grows c.in_ok-shared.ensures.built (itself c.requires.a) (itself c.requires.b)) in
    let none = literal_said (width_of c.args.terms.now c.args.a c.args.bits c.len-count.ensures.graph c.requires.a) (pow_pos c.args.bits) c.literal.ensures c.in_ok-none.ensures.built in
    two_fit c.constant.new.self Eq c.in_ok-shared.shared c.in_ok-none.none (equal_sorted c.args.bits) shared.sorted none.sorted

said : (c : goal.In_ok-test) → IsSaid c.two-2.new.self c.in_ok-test.test Truth (λ env. two_value Eq (two_value BitAnd (value_at env c.args.terms.now c.args.a) (value_at env c.args.terms.now c.args.b)) (value.Word (c.args.bits, 0)))
said c =
    let shared = said_here c.in_ok-none.ensures.grows (two_said BitAnd (both_sorted c.args.bits) c.in_ok-shared.ensures.grows c.in_ok-shared.ensures.built (itself c.requires.a) (itself c.requires.b)) in
    let none = literal_said (width_of c.args.terms.now c.args.a c.args.bits c.len-count.ensures.graph c.requires.a) (pow_pos c.args.bits) c.literal.ensures c.in_ok-none.ensures.built in
    two_said Eq (equal_sorted c.args.bits) c.in_ok-test.ensures.grows c.in_ok-test.ensures.built shared none

pub returns-clause-test : goal.returns-clause-test
returns-clause-test c = λ f g m n. masks_apart f g (grows_trans _ _ _ (grows_trans _ _ _ c.in_ok-shared.ensures.grows c.in_ok-none.ensures.grows) c.in_ok-test.ensures.grows) (said c) m n

pub returns-clause-sorted : goal.returns-clause-sorted
returns-clause-sorted c = (said c).sorted

pub returns-clause-weighs : goal.returns-clause-weighs
returns-clause-weighs c =
    let shared = said_here c.in_ok-none.ensures.grows (two_said BitAnd (both_sorted c.args.bits) c.in_ok-shared.ensures.grows c.in_ok-shared.ensures.built (itself c.requires.a) (itself c.requires.b)) in
    omega (arith, c.in_ok-shared.ensures.built.weighs, c.in_ok-none.ensures.built.weighs, c.in_ok-test.ensures.built.weighs, ap bits_in c.requires.a, ap bits_in shared.sorted)
