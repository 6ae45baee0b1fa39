use Rattle.std.proofs.Common.{◌∙◌, Some, arith, ap, subst}
use Rattle.civl_bits.specs.declared.value.Value.TheVariants as value
use Rattle.civl_tree.specs.declared.expr.Sort.TheVariants.{Word}
use Rattle.civl_tree.specs.declared.expr.Two.TheVariants.{Shl}
use Rattle.civl_firing.specs.values.Operators.{two_value, widen_value}
use Rattle.civl_firing.specs.values.Weights.{bits_in}
use Rattle.civl_meaning.specs.Permissions.{permissions_of_word}
use Rattle.civl_terms.specs.Graphs.{value_at}
use Rattle.civl_terms.proofs.Growing.{grows_trans}
use Rattle.civl_states.specs.formula_parts.Said.{IsSaid}
use Rattle.civl_states.specs.formula_parts.Masks.{Masks}
use Rattle.civl_actions.proofs.Staying.{sorted_within}
use Rattle.civl_states.proofs.formula_parts.Saying.{sort_stays}
use Rattle.civl_states.proofs.formula_parts.Carrying.{itself, said_here, two_said, two_fit, widen_said, widen_fit, literal_said, both_sorted, mask_bits, word_masks}
use Rattle.civl_states.proofs.formula_parts.carried.mask_of.Goals as goal

pub widen-requires-clause-a : goal.widen-requires-clause-a
widen-requires-clause-a c = sorted_within c.constant.new.self c.args.id (Word c.args.permissions) (sort_stays c.args.terms.now c.constant.new.self c.args.id (Word c.args.permissions) c.in_ok-one.ensures.grows c.requires.item)

pub widen-requires-clause-fits : goal.widen-requires-clause-fits
widen-requires-clause-fits c =
    widen_fit c.constant.new.self c.args.id c.bits_of-bits.result (mask_bits c.requires.permissions c.bits_of-bits.ensures).widens (sort_stays c.args.terms.now c.constant.new.self c.args.id (Word c.args.permissions) c.in_ok-one.ensures.grows c.requires.item)

pub two-requires-clause-fits : goal.two-requires-clause-fits
two-requires-clause-fits c =
    let bits = mask_bits c.requires.permissions c.bits_of-bits.ensures in
    let one = said_here c.in_ok-wide.ensures.grows (literal_said bits.wide bits.one c.literal.ensures c.in_ok-one.ensures.built) in
    let wide = widen_said c.bits_of-bits.result bits.widens c.in_ok-wide.ensures.grows c.in_ok-wide.ensures.built (said_here c.in_ok-one.ensures.grows (itself c.requires.item)) in
    two_fit c.widen.new.self Shl c.in_ok-one.one c.in_ok-wide.wide (both_sorted c.bits_of-bits.result) one.sorted wide.sorted

said : (c : goal.In_ok-mask) → IsSaid c.two.new.self c.in_ok-mask.mask (Word c.bits_of-bits.result) (λ env. two_value Shl (value.Word (c.bits_of-bits.result, 1)) (widen_value (value_at env c.args.terms.now c.args.id) c.bits_of-bits.result))
said c =
    let bits = mask_bits c.requires.permissions c.bits_of-bits.ensures in
    let one = said_here c.in_ok-wide.ensures.grows (literal_said bits.wide bits.one c.literal.ensures c.in_ok-one.ensures.built) in
    let wide = widen_said c.bits_of-bits.result bits.widens c.in_ok-wide.ensures.grows c.in_ok-wide.ensures.built (said_here c.in_ok-one.ensures.grows (itself c.requires.item)) in
    two_said Shl (both_sorted c.bits_of-bits.result) c.in_ok-mask.ensures.grows c.in_ok-mask.ensures.built one wide

pub returns-clause-masks : goal.returns-clause-masks
returns-clause-masks c = λ g it.
    subst (λ n. Masks c.two.new.self n c.in_ok-mask.mask (λ env. permissions_of_word (g env))) c.bits_of-bits.ensures
    (word_masks g c.requires.permissions c.bits_of-bits.ensures c.len-count.ensures.graph (grows_trans _ _ _ (grows_trans _ _ _ c.in_ok-one.ensures.grows c.in_ok-wide.ensures.grows) c.in_ok-mask.ensures.grows) (said c) it)

pub returns-clause-sorted : goal.returns-clause-sorted
returns-clause-sorted c = (said c).sorted ∙ ap (λ n. Some (Word n)) c.bits_of-bits.ensures

pub returns-clause-weighs : goal.returns-clause-weighs
returns-clause-weighs c =
    let bits = mask_bits c.requires.permissions c.bits_of-bits.ensures in
    let one = said_here c.in_ok-wide.ensures.grows (literal_said bits.wide bits.one c.literal.ensures c.in_ok-one.ensures.built) in
    omega (arith, c.in_ok-one.ensures.built.weighs, c.in_ok-wide.ensures.built.weighs, c.in_ok-mask.ensures.built.weighs, ap bits_in one.sorted, c.bits_of-bits.ensures)
