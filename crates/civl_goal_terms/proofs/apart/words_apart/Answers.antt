use Rattle.std.specs.Prelude.{◌+◌, ◌^◌, List, map}
use Rattle.std.proofs.Common.{◌++◌, [], ap, arith, length}
use Rattle.civl_bits.specs.declared.value.Value.{Value}
use Rattle.civl_tree.specs.declared.expr.Sort.TheVariants.{Word}
use Rattle.civl_terms.proofs.Growing.{grows_trans}
use Rattle.civl_meaning.specs.Permissions.{pairwise_disjoint, permissions_of_word}
use Rattle.civl_conditions.specs.Permissions.{in_store}
use Rattle.civl_conditions.specs.Weights.{linear_globals}
use Rattle.civl_states.proofs.formula_parts.Saying.{test_where}
use Rattle.civl_states.proofs.formula_parts.Listing.{sorts_stay, said_stay}
use Rattle.civl_states.proofs.Picking.{none_counted, first_counted, first_weighs, items_small, permissions_some, permissions_few}
use Rattle.civl_movers.proofs.interfere.Beside.{words_stay, words_same}
use Rattle.civl_goal_terms.proofs.apart.words_apart.Goals as goal

pub global_items-requires-clause-globals : goal.global_items-requires-clause-globals
global_items-requires-clause-globals c = sorts_stay _ _ _ _ c.in_ok-none.ensures.grows c.requires.globals

pub global_items-requires-clause-carried : goal.global_items-requires-clause-carried
global_items-requires-clause-carried c = c.in_ok-none.ensures.sorted (2 ^ c.args.program.now.permissions)

pub with_words-requires-clause-permissions : goal.with_words-requires-clause-permissions
with_words-requires-clause-permissions c = permissions_few c.args.program.now c.requires.rules

pub with_words-requires-clause-ids : goal.with_words-requires-clause-ids
with_words-requires-clause-ids c =
    words_stay c.args.terms.now c.global_items.new.terms (Word c.args.program.now.permissions) (grows_trans _ _ _ c.in_ok-none.ensures.grows c.in_ok-stored.ensures.grows) c.args.words.now c.requires.words

pub returns-in_err-stored-clause-grows : goal.returns-in_err-stored-clause-grows
returns-in_err-stored-clause-grows c = grows_trans _ _ _ c.in_ok-none.ensures.grows c.in_err-stored.ensures.grows

pub returns-in_err-all-clause-grows : goal.returns-in_err-all-clause-grows
returns-in_err-all-clause-grows c = grows_trans _ _ _ c.in_ok-none.ensures.grows (grows_trans _ _ _ c.in_ok-stored.ensures.grows c.in_err-all.ensures.grows)

pub returns-clause-grows : goal.returns-clause-grows
returns-clause-grows c = grows_trans _ _ _ c.in_ok-none.ensures.grows (grows_trans _ _ _ c.in_ok-stored.ensures.grows c.in_ok-all.ensures.grows)

pub returns-clause-tells : goal.returns-clause-tells
returns-clause-tells c = λ g s.
    let p = c.args.program.now in
    let o = c.args.terms.now in
    let m = c.global_items.new.terms in
    let u = c.in_ok-none.ensures.grows in
    test_where c.with_words.new.terms c.in_ok-all.all.apart _ _
    (λ env fits. ap (λ (vs : List Value). pairwise_disjoint (in_store p (g env) ++ map permissions_of_word vs)) (words_same o m (Word p.permissions) (grows_trans _ _ _ u c.in_ok-stored.ensures.grows) env c.args.words.now c.requires.words))
    (c.in_ok-all.ensures.carried (λ env. in_store p (g env))
    (c.in_ok-stored.ensures.carried (λ env. []) g (c.in_ok-none.ensures.carried (2 ^ p.permissions)) (said_stay _ _ _ _ _ u s))).apart

pub returns-clause-weighs : goal.returns-clause-weighs
returns-clause-weighs c =
    let p = c.args.program.now in
    let counted = none_counted c.in_ok-none.none.mask c.in_ok-none.ensures.none in
    let stored = first_counted c.in_ok-stored.stored.mask (linear_globals p) (c.in_ok-stored.ensures.number 0 counted) in
    omega (
      arith,
      c.in_ok-none.ensures.weighs,
      c.in_ok-stored.ensures.weighs 0 counted,
      c.in_ok-all.ensures.weighs (linear_globals p) stored,
      first_weighs (2 ^ p.permissions) (linear_globals p),
      items_small p (linear_globals p + length c.args.words.now) (permissions_some p c.requires.rules),
    )
