use Rattle.std.proofs.Common.{◌≤◌, ◌^◌, flat_map, true, sym, subst, ap, arith}
use Rattle.civl_tree.specs.declared.expr.Sort.TheVariants.{Bool as Truth, Word}
use Rattle.civl_tree.specs.declared.expr.Two.TheVariants.{BitAnd, Eq}
use Rattle.civl_firing.specs.values.Operators.{two_value}
use Rattle.civl_firing.specs.values.Weights.{bits_in}
use Rattle.civl_terms.specs.Graphs.{value_at}
use Rattle.civl_terms.proofs.Growing.{grows_trans}
use Rattle.civl_actions.proofs.Staying.{sorted_within}
use Rattle.civl_states.specs.formula_parts.Said.{IsSaid}
use Rattle.civl_states.specs.formula_parts.Masks.{AreCarried, Masks}
use Rattle.civl_states.proofs.formula_parts.Saying.{constant_test}
use Rattle.civl_states.proofs.formula_parts.Masks.{few_bits}
use Rattle.civl_states.proofs.formula_parts.Carrying.{itself, said_here, two_said, two_fit, both_sorted, equal_sorted, width_of, few_permissions, mask_sorted, mask_here, masks_stay, masks_within, carried_some, none_included}
use Rattle.civl_states.proofs.formula_parts.carried.are_included.Goals as goal

pub bits_of-bits-requires : goal.bits_of-bits-requires
bits_of-bits-requires c = few_permissions c.args.permissions (width_of c.args.terms.now c.in-Some.mask (2 ^ c.args.permissions) c.len-count.ensures.graph (mask_sorted c.in-Some.is c.requires.outgoing))

pub mask_or_none-requires-clause-few : goal.mask_or_none-requires-clause-few
mask_or_none-requires-clause-few c = subst (λ n. n ≤ 32) (sym c.bits_of-bits.ensures) (few_bits c.args.permissions (few_permissions c.args.permissions (width_of c.args.terms.now c.in-Some.mask (2 ^ c.args.permissions) c.len-count.ensures.graph (mask_sorted c.in-Some.is c.requires.outgoing)))).1

pub two-requires-clause-a : goal.two-requires-clause-a
two-requires-clause-a c =
    sorted_within c.mask_or_none.new.terms c.in-Some.mask (Word c.bits_of-bits.result) (mask_here c.in-Some.is c.bits_of-bits.ensures c.in_ok-all-in-Some.ensures.grows c.requires.outgoing)

pub two-requires-clause-b : goal.two-requires-clause-b
two-requires-clause-b c = sorted_within c.mask_or_none.new.terms c.in_ok-all-in-Some.all (Word c.bits_of-bits.result) c.in_ok-all-in-Some.ensures.sorted

pub two-requires-clause-fits : goal.two-requires-clause-fits
two-requires-clause-fits c =
    two_fit c.mask_or_none.new.terms BitAnd c.in-Some.mask c.in_ok-all-in-Some.all (both_sorted c.bits_of-bits.result)
    (mask_here c.in-Some.is c.bits_of-bits.ensures c.in_ok-all-in-Some.ensures.grows c.requires.outgoing) c.in_ok-all-in-Some.ensures.sorted

pub two-requires-in-Some-clause-b : goal.two-requires-in-Some-clause-b
two-requires-in-Some-clause-b c =
    let here = mask_here c.in-Some.is c.bits_of-bits.ensures c.in_ok-all-in-Some.ensures.grows c.requires.outgoing in
    sorted_within c.two.new.self c.in-Some.mask (Word c.bits_of-bits.result) (said_here c.in_ok-shared-in-Some.ensures.grows (itself here)).sorted

pub two-requires-in-Some-clause-fits : goal.two-requires-in-Some-clause-fits
two-requires-in-Some-clause-fits c =
    let here = mask_here c.in-Some.is c.bits_of-bits.ensures c.in_ok-all-in-Some.ensures.grows c.requires.outgoing in
    let shared = two_said BitAnd (both_sorted c.bits_of-bits.result) c.in_ok-shared-in-Some.ensures.grows c.in_ok-shared-in-Some.ensures.built (itself here) (itself c.in_ok-all-in-Some.ensures.sorted) in
    two_fit c.two.new.self Eq c.in_ok-shared-in-Some.shared c.in-Some.mask (equal_sorted c.bits_of-bits.result) shared.sorted (said_here c.in_ok-shared-in-Some.ensures.grows (itself here)).sorted

said : (c : goal.In_ok-test-in-Some) → IsSaid c.two-in-Some.new.self c.in_ok-test-in-Some.test Truth
    (λ env. two_value Eq (two_value BitAnd (value_at env c.mask_or_none.new.terms c.in-Some.mask) (value_at env c.mask_or_none.new.terms c.in_ok-all-in-Some.all)) (value_at env c.mask_or_none.new.terms c.in-Some.mask))
said c =
    let here = mask_here c.in-Some.is c.bits_of-bits.ensures c.in_ok-all-in-Some.ensures.grows c.requires.outgoing in
    let shared = two_said BitAnd (both_sorted c.bits_of-bits.result) c.in_ok-shared-in-Some.ensures.grows c.in_ok-shared-in-Some.ensures.built (itself here) (itself c.in_ok-all-in-Some.ensures.sorted) in
    two_said Eq (equal_sorted c.bits_of-bits.result) c.in_ok-test-in-Some.ensures.grows c.in_ok-test-in-Some.ensures.built shared (said_here c.in_ok-shared-in-Some.ensures.grows (itself here))

pub returns-in_ok-test-in-Some-clause-test : goal.returns-in_ok-test-in-Some-clause-test
returns-in_ok-test-in-Some-clause-test c = λ f g a b.
    let e = sym c.bits_of-bits.ensures in
    masks_within (λ env. flat_map (λ ps. ps) (f env)) (λ env. flat_map (λ ps. ps) (g env)) (grows_trans _ _ _ c.in_ok-shared-in-Some.ensures.grows c.in_ok-test-in-Some.ensures.grows) (said c)
    (subst (λ n. Masks c.mask_or_none.new.terms n c.in-Some.mask (λ env. flat_map (λ ps. ps) (f env))) e (masks_stay c.in_ok-all-in-Some.ensures.grows (carried_some c.in-Some.is a).mask))
    (c.in_ok-all-in-Some.ensures.masks g (subst (λ n. AreCarried c.args.terms.now n c.args.incoming g) e b))

pub returns-in_ok-test-in-Some-clause-sorted : goal.returns-in_ok-test-in-Some-clause-sorted
returns-in_ok-test-in-Some-clause-sorted c = (said c).sorted

pub returns-in_ok-test-in-Some-clause-weighs : goal.returns-in_ok-test-in-Some-clause-weighs
returns-in_ok-test-in-Some-clause-weighs c =
    let here = mask_here c.in-Some.is c.bits_of-bits.ensures c.in_ok-all-in-Some.ensures.grows c.requires.outgoing in
    let shared = two_said BitAnd (both_sorted c.bits_of-bits.result) c.in_ok-shared-in-Some.ensures.grows c.in_ok-shared-in-Some.ensures.built (itself here) (itself c.in_ok-all-in-Some.ensures.sorted) in
    omega (arith, c.in_ok-all-in-Some.ensures.weighs, c.in_ok-shared-in-Some.ensures.built.weighs, c.in_ok-test-in-Some.ensures.built.weighs, ap bits_in here, ap bits_in shared.sorted, c.bits_of-bits.ensures)

pub returns-in_ok-truth-in-None-clause-test : goal.returns-in_ok-truth-in-None-clause-test
returns-in_ok-truth-in-None-clause-test c = λ f g a b.
    none_included f g c.in-None.is c.in_ok-truth-in-None.ensures.grows (constant_test c.args.terms.now c.constant.new.self c.in_ok-truth-in-None.truth true c.in_ok-truth-in-None.ensures.built) a
