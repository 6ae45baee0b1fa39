use Rattle.std.proofs.Common.{◌≡◌, Some, arith, ap}
use Rattle.civl_tree.specs.declared.expr.Sort.TheVariants.{Bool as Truth, Word}
use Rattle.civl_tree.specs.declared.expr.Two.TheVariants.{BitOr}
use Rattle.civl_firing.specs.values.Weights.{bits_in}
use Rattle.civl_terms.specs.Graphs.{sort_at}
use Rattle.civl_terms.proofs.Growing.{grows_trans}
use Rattle.civl_actions.proofs.Staying.{sorted_within}
use Rattle.civl_states.proofs.formula_parts.Saying.{sort_stays}
use Rattle.civl_states.proofs.formula_parts.Carrying.{itself, two_said, two_fit, both_sorted, masks_joined, more_carried}
use Rattle.civl_states.proofs.formula_parts.carried.with_more.Goals as goal

pub both-requires-clause-a : goal.both-requires-clause-a
both-requires-clause-a c = sort_stays c.args.terms.now c.are_disjoint.new.terms c.args.apart Truth c.in_ok-test.ensures.grows c.requires.apart

pub two-requires-clause-a : goal.two-requires-clause-a
two-requires-clause-a c =
    let both = grows_trans c.args.terms.now c.are_disjoint.new.terms c.both.new.terms c.in_ok-test.ensures.grows c.in_ok-apart.ensures.grows in
    sorted_within c.both.new.terms c.args.mask (Word c.args.bits) (sort_stays c.args.terms.now c.both.new.terms c.args.mask (Word c.args.bits) both c.requires.mask)

pub two-requires-clause-b : goal.two-requires-clause-b
two-requires-clause-b c =
    let both = grows_trans c.args.terms.now c.are_disjoint.new.terms c.both.new.terms c.in_ok-test.ensures.grows c.in_ok-apart.ensures.grows in
    sorted_within c.both.new.terms c.args.item (Word c.args.bits) (sort_stays c.args.terms.now c.both.new.terms c.args.item (Word c.args.bits) both c.requires.item)

pub two-requires-clause-fits : goal.two-requires-clause-fits
two-requires-clause-fits c =
    let both = grows_trans c.args.terms.now c.are_disjoint.new.terms c.both.new.terms c.in_ok-test.ensures.grows c.in_ok-apart.ensures.grows in
    two_fit c.both.new.terms BitOr c.args.mask c.args.item (both_sorted c.args.bits)
    (sort_stays c.args.terms.now c.both.new.terms c.args.mask (Word c.args.bits) both c.requires.mask) (sort_stays c.args.terms.now c.both.new.terms c.args.item (Word c.args.bits) both c.requires.item)

-- the two masks, where they are joined
mask_there : (c : goal.In_ok-mask) → sort_at c.both.new.terms c.args.mask ≡ Some (Word c.args.bits)
mask_there c =
    let both = grows_trans c.args.terms.now c.are_disjoint.new.terms c.both.new.terms c.in_ok-test.ensures.grows c.in_ok-apart.ensures.grows in
    sort_stays c.args.terms.now c.both.new.terms c.args.mask (Word c.args.bits) both c.requires.mask

item_there : (c : goal.In_ok-mask) → sort_at c.both.new.terms c.args.item ≡ Some (Word c.args.bits)
item_there c =
    let both = grows_trans c.args.terms.now c.are_disjoint.new.terms c.both.new.terms c.in_ok-test.ensures.grows c.in_ok-apart.ensures.grows in
    sort_stays c.args.terms.now c.both.new.terms c.args.item (Word c.args.bits) both c.requires.item

pub returns-clause-carried : goal.returns-clause-carried
returns-clause-carried c =
    let joined = two_said BitOr (both_sorted c.args.bits) c.in_ok-mask.ensures.grows c.in_ok-mask.ensures.built (itself (mask_there c)) (itself (item_there c)) in
    more_carried c.in_ok-test.ensures.grows c.in_ok-apart.ensures.grows c.in_ok-mask.ensures.grows c.in_ok-test.ensures.test c.in_ok-apart.ensures.test
    (λ f g m n. masks_joined f g c.in_ok-mask.ensures.grows joined m n)

pub returns-clause-sorted : goal.returns-clause-sorted
returns-clause-sorted c = record {
  mask = (two_said BitOr (both_sorted c.args.bits) c.in_ok-mask.ensures.grows c.in_ok-mask.ensures.built (itself (mask_there c)) (itself (item_there c))).sorted;
  apart = sort_stays c.both.new.terms c.two.new.self c.in_ok-apart.apart Truth c.in_ok-mask.ensures.grows c.in_ok-apart.ensures.sorted;
}

pub returns-clause-weighs : goal.returns-clause-weighs
returns-clause-weighs c = omega (arith, c.in_ok-test.ensures.weighs, c.in_ok-apart.ensures.weighs, c.in_ok-mask.ensures.built.weighs, ap bits_in (mask_there c))
