use Rattle.std.specs.Prelude.{List, [], ℕ, ◌+◌, map, get_or, length, All, ◌++◌, Some}
use Rattle.std.proofs.Common.{◌≡◌, ◌∙◌, sym, ap, subst, arith, ◌^◌}
use Rattle.civl_tree.specs.declared.expr.Sort.TheVariants.{Word}
use Rattle.civl_terms.specs.Graphs.{sort_at}
use Rattle.civl_terms.proofs.Growing.{grows_trans}
use Rattle.civl_states.proofs.formula_parts.Carrying.{carried_as}
use Rattle.civl_states.proofs.formula_parts.Listing.{sorts_stay, said_stay}
use Rattle.civl_conditions.specs.Permissions.{in_store}
use Rattle.civl_conditions.specs.Weights.{linear_globals}
use Rattle.civl_states.proofs.Picking.{permissions_few, none_counted}
use Rattle.civl_states.specs.Items.{HasItems, items_weight}
use Rattle.std.proofs.lemmas.List.{length-map}
use Rattle.civl_meaning.specs.Permissions.{permissions_of_word}
use Rattle.civl_actions.specs.Actions.{values_at}
use Rattle.civl_refine.proofs.Assuming.{words_stay, held_carry}
use Rattle.civl_refine.proofs.owned.owned_items.Goals as goal

pub global_items-requires-clause-globals : goal.global_items-requires-clause-globals
global_items-requires-clause-globals c = sorts_stay _ _ _ _ c.in_ok-none.ensures.grows c.requires.globals

pub global_items-requires-clause-carried : goal.global_items-requires-clause-carried
global_items-requires-clause-carried c = c.in_ok-none.ensures.sorted _

pub returns-in_err-stored-clause-grows : goal.returns-in_err-stored-clause-grows
returns-in_err-stored-clause-grows c = grows_trans _ _ _ c.in_ok-none.ensures.grows c.in_err-stored.ensures.grows

pub returns-in_err-ids-clause-grows : goal.returns-in_err-ids-clause-grows
returns-in_err-ids-clause-grows c = grows_trans _ _ _ c.in_ok-none.ensures.grows c.in_ok-stored.ensures.grows

pub with_words-requires-clause-permissions : goal.with_words-requires-clause-permissions
with_words-requires-clause-permissions c = permissions_few c.args.program.now c.requires.rules

pub with_words-requires-clause-ids : goal.with_words-requires-clause-ids
with_words-requires-clause-ids c =
    let g = grows_trans _ _ _ c.in_ok-none.ensures.grows c.in_ok-stored.ensures.grows in
    let items = c.as_slice-2.ensures.value ∙ c.in_ok-ids.ensures ∙ ap (λ (xs : List ℕ). map (λ n. get_or xs n 0) c.args.held.now) c.as_slice.ensures in
    subst (λ (xs : List ℕ). All (λ i. sort_at c.global_items.new.terms i ≡ Some (Word c.args.program.now.permissions)) xs) (sym items)
    (words_stay c.args.terms.now c.global_items.new.terms c.args.program.now.permissions c.args.locals.now c.args.held.now g c.requires.words)

pub returns-in_err-all-clause-grows : goal.returns-in_err-all-clause-grows
returns-in_err-all-clause-grows c = grows_trans _ _ _ c.in_ok-none.ensures.grows (grows_trans _ _ _ c.in_ok-stored.ensures.grows c.in_err-all.ensures.grows)

pub returns-clause-carried : goal.returns-clause-carried
returns-clause-carried c = λ ss g v s t.
    let p = c.args.program.now in
    let o = c.args.terms.now in
    let m = c.global_items.new.terms in
    let one = c.in_ok-none.ensures.grows in
    let two = grows_trans _ _ _ one c.in_ok-stored.ensures.grows in
    let items = c.as_slice-2.ensures.value ∙ c.in_ok-ids.ensures ∙ ap (λ (xs : List ℕ). map (λ n. get_or xs n 0) c.args.held.now) c.as_slice.ensures in
    let stored = c.in_ok-stored.ensures.carried (λ env. []) g (c.in_ok-none.ensures.carried _) (said_stay _ _ _ _ _ one s) in
    let all = c.in_ok-all.ensures.carried (λ env. in_store p (g env)) stored in
    carried_as _ _ (λ env fits.
    ap (λ (ps : List (List ℕ)). in_store p (g env) ++ ps)
    (ap (λ (xs : List ℕ). map permissions_of_word (values_at env m xs)) items
    ∙ held_carry env m c.args.locals.now c.args.held.now (v env) c.requires.within ((said_stay o m c.args.locals.now ss v two t).are env (c.in_ok-all.ensures.grows.fits env fits)))) all

pub returns-clause-grows : goal.returns-clause-grows
returns-clause-grows c = grows_trans _ _ _ c.in_ok-none.ensures.grows (grows_trans _ _ _ c.in_ok-stored.ensures.grows c.in_ok-all.ensures.grows)

pub returns-clause-number : goal.returns-clause-number
returns-clause-number c =
    let p = c.args.program.now in
    let none = none_counted c.in_ok-none.none.mask c.in_ok-none.ensures.none in
    let first = c.in_ok-stored.ensures.number 0 none in
    let items = c.as_slice-2.ensures.value ∙ c.in_ok-ids.ensures ∙ ap (λ (xs : List ℕ). map (λ n. get_or xs n 0) c.args.held.now) c.as_slice.ensures in
    let long = ap length items ∙ length-map c.args.held.now (λ n. get_or c.args.locals.now n 0) in
    let count : 0 + linear_globals p + length c.as_slice-2.result.now ≡ length c.args.held.now + linear_globals p = omega (arith, long) in
    subst (HasItems c.in_ok-all.all.mask) count (c.in_ok-all.ensures.number (0 + linear_globals p) first)

pub returns-clause-weighs : goal.returns-clause-weighs
returns-clause-weighs c =
    let p = c.args.program.now in
    let linear = linear_globals p in
    let bits = 2 ^ p.permissions in
    let none = none_counted c.in_ok-none.none.mask c.in_ok-none.ensures.none in
    let first = c.in_ok-stored.ensures.number 0 none in
    let items = c.as_slice-2.ensures.value ∙ c.in_ok-ids.ensures ∙ ap (λ (xs : List ℕ). map (λ n. get_or xs n 0) c.args.held.now) c.as_slice.ensures in
    let long = ap length items ∙ length-map c.args.held.now (λ n. get_or c.args.locals.now n 0) in
    let count : 0 + linear + length c.as_slice-2.result.now ≡ length c.args.held.now + linear = omega (arith, long) in
    omega (
      arith,
      c.in_ok-none.ensures.weighs,
      c.in_ok-stored.ensures.weighs 0 none,
      c.in_ok-all.ensures.weighs (0 + linear) first,
      ap (items_weight bits) count,
    )
