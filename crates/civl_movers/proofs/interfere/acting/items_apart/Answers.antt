use Rattle.std.specs.Prelude.{◌+◌, List, map}
use Rattle.std.proofs.Common.{◌++◌, ap, arith, length}
use Rattle.civl_bits.specs.declared.value.Value.{Value}
use Rattle.civl_tree.specs.declared.expr.Sort.TheVariants.{Word}
use Rattle.civl_terms.proofs.Growing.{grows_trans}
use Rattle.civl_meaning.specs.Permissions.{pairwise_disjoint, permissions_of_word}
use Rattle.civl_states.proofs.formula_parts.Saying.{test_where}
use Rattle.civl_states.specs.Items.{comes_in, number_coming}
use Rattle.civl_states.proofs.Picking.{items_small, permissions_some, permissions_few}
use Rattle.civl_movers.proofs.interfere.Beside.{words_stay, words_same}
use Rattle.civl_movers.proofs.interfere.acting.items_apart.Goals as goal

pub with_words-requires-clause-permissions : goal.with_words-requires-clause-permissions
with_words-requires-clause-permissions c = permissions_few c.args.program.now c.requires.rules

pub with_words-requires-clause-ids : goal.with_words-requires-clause-ids
with_words-requires-clause-ids c = words_stay c.args.terms.now c.incoming.new.terms (Word c.args.program.now.permissions) c.in_ok-coming.ensures.grows c.args.owned.now c.requires.owned

pub returns-in_err-all-clause-grows : goal.returns-in_err-all-clause-grows
returns-in_err-all-clause-grows c = grows_trans _ _ _ c.in_ok-coming.ensures.grows c.in_err-all.ensures.grows

pub returns-clause-grows : goal.returns-clause-grows
returns-clause-grows c = grows_trans _ _ _ c.in_ok-coming.ensures.grows c.in_ok-all.ensures.grows

pub returns-clause-tells : goal.returns-clause-tells
returns-clause-tells c = λ a g i e s x.
    let p = c.args.program.now in
    let o = c.args.terms.now in
    let m = c.incoming.new.terms in
    test_where c.with_words.new.terms c.in_ok-all.all.apart _ _
    (λ env fits. ap (λ (vs : List Value). pairwise_disjoint (comes_in p a (g env) (i env) ++ map permissions_of_word vs)) (words_same o m (Word p.permissions) c.in_ok-coming.ensures.grows env c.args.owned.now c.requires.owned))
    (c.in_ok-all.ensures.carried (λ env. comes_in p a (g env) (i env)) (c.in_ok-coming.ensures.carried a g i e s x)).apart

pub returns-clause-weighs : goal.returns-clause-weighs
returns-clause-weighs c = λ a e.
    let p = c.args.program.now in
    omega (arith, c.in_ok-coming.ensures.weighs a e, c.in_ok-all.ensures.weighs (number_coming p a) (c.in_ok-coming.ensures.number a e), items_small p (number_coming p a + length c.args.owned.now) (permissions_some p c.requires.rules))
