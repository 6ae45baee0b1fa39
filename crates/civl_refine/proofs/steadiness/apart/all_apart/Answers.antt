use Rattle.civl_states.specs.Items.{items_weight}
use Rattle.std.specs.Prelude.{◌<◌, List, ℕ, map, get_or, length, All, Some, slice_get}
use Rattle.std.proofs.Common.{◌≡◌, ◌∙◌, ◌+◌, ◌++◌, ◌^◌, sym, ap, subst, arith}
use Rattle.std.proofs.lemmas.List.{length-map}
use Rattle.civl_tree.specs.declared.expr.Sort.TheVariants.{Word}
use Rattle.civl_meaning.specs.Config.{frame_sorts}
use Rattle.civl_meaning.specs.Permissions.{pairwise_disjoint, permissions_of_word}
use Rattle.civl_terms.specs.Graphs.{sort_at}
use Rattle.civl_terms.proofs.Growing.{grows_trans}
use Rattle.civl_actions.specs.Actions.{values_at}
use Rattle.civl_conditions.specs.Assumed.{owned}
use Rattle.civl_conditions.specs.Permissions.{in_store, of_held}
use Rattle.civl_conditions.specs.Weights.{linear_globals}
use Rattle.civl_states.specs.formula_parts.Masks.{AreCarried}
use Rattle.civl_states.proofs.formula_parts.Saying.{test_where}
use Rattle.civl_states.proofs.formula_parts.Listing.{said_stay}
use Rattle.civl_states.proofs.Picking.{permissions_few, permissions_some, items_small}
use Rattle.civl_refine.proofs.Assuming.{held_words, held_carry, words_stay}
use Rattle.civl_refine.proofs.steadiness.apart.all_apart.Goals as goal

pub owned_items-requires-clause-within : goal.owned_items-requires-clause-within
owned_items-requires-clause-within c =
    let s = c.args.start.now in
    let words = subst (λ (ns : List ℕ). All (λ n. slice_get (frame_sorts s.proc.now) n ≡ Some (Word s.program.now.permissions)) ns) (sym c.requires.start.held) c.requires.start.words in
    (held_words c.args.terms.now s.program.now.permissions c.args.beginning.now.locals (frame_sorts s.proc.now) s.held.now c.requires.begins.locals words).0

pub owned_items-requires-clause-words : goal.owned_items-requires-clause-words
owned_items-requires-clause-words c =
    let s = c.args.start.now in
    let words = subst (λ (ns : List ℕ). All (λ n. slice_get (frame_sorts s.proc.now) n ≡ Some (Word s.program.now.permissions)) ns) (sym c.requires.start.held) c.requires.start.words in
    (held_words c.args.terms.now s.program.now.permissions c.args.beginning.now.locals (frame_sorts s.proc.now) s.held.now c.requires.begins.locals words).1

pub held_ids-requires : goal.held_ids-requires
held_ids-requires c =
    let y = c.args.place.now in
    subst (λ (xs : List ℕ). All (λ n. n < length xs) y.held.now) (sym c.as_slice.ensures)
    (held_words c.args.terms.now c.args.start.now.program.now.permissions c.args.frame.now.locals (frame_sorts y.proc.now) y.held.now c.requires.frame.locals c.requires.place.words).0

pub with_words-requires-clause-permissions : goal.with_words-requires-clause-permissions
with_words-requires-clause-permissions c = permissions_few c.args.start.now.program.now c.requires.start.rules

pub with_words-requires-clause-ids : goal.with_words-requires-clause-ids
with_words-requires-clause-ids c =
    let y = c.args.place.now in
    let p = c.args.start.now.program.now.permissions in
    let items = c.as_slice-2.ensures.value ∙ c.in_ok-ids.ensures ∙ ap (λ (xs : List ℕ). map (λ n. get_or xs n 0) y.held.now) c.as_slice.ensures in
    subst (λ (xs : List ℕ). All (λ i. sort_at c.owned_items.new.terms i ≡ Some (Word p)) xs) (sym items)
    (words_stay c.args.terms.now c.owned_items.new.terms p c.args.frame.now.locals y.held.now c.in_ok-own.ensures.grows (held_words c.args.terms.now p c.args.frame.now.locals (frame_sorts y.proc.now) y.held.now c.requires.frame.locals c.requires.place.words).1)

pub returns-in_err-all-clause-grows : goal.returns-in_err-all-clause-grows
returns-in_err-all-clause-grows c = grows_trans _ _ _ c.in_ok-own.ensures.grows c.in_err-all.ensures.grows

pub returns-clause-grows : goal.returns-clause-grows
returns-clause-grows c = grows_trans _ _ _ c.in_ok-own.ensures.grows c.in_ok-all.ensures.grows

pub returns-clause-test : goal.returns-clause-test
returns-clause-test c = λ b o begun frame.
    let s = c.args.start.now in
    let p = s.program.now in
    let q = s.proc.now in
    let y = c.args.place.now in
    let m = c.owned_items.new.terms in
    let n = c.with_words.new.terms in
    let items = c.as_slice-2.ensures.value ∙ c.in_ok-ids.ensures ∙ ap (λ (xs : List ℕ). map (λ n. get_or xs n 0) y.held.now) c.as_slice.ensures in
    let within = (held_words c.args.terms.now p.permissions c.args.frame.now.locals (frame_sorts y.proc.now) y.held.now c.requires.frame.locals c.requires.place.words).0 in
    let own : AreCarried m (2 ^ p.permissions) c.in_ok-own.own (λ env. owned p q s.number (b env)) =
    subst (λ (ns : List ℕ). AreCarried m (2 ^ p.permissions) c.in_ok-own.own (λ env. in_store p (b env).store ++ of_held ns (b env).locals)) c.requires.start.held
    (c.in_ok-own.ensures.carried (frame_sorts q) (λ env. (b env).store) (λ env. (b env).locals) begun.globals begun.locals) in
    let all = c.in_ok-all.ensures.carried (λ env. owned p q s.number (b env)) own in
    test_where n c.in_ok-all.all.apart _ _ (λ env fits.
    ap (λ (ps : List (List ℕ)). pairwise_disjoint (owned p q s.number (b env) ++ ps))
    (ap (λ (xs : List ℕ). map permissions_of_word (values_at env m xs)) items
    ∙ held_carry env m c.args.frame.now.locals y.held.now (o env).locals within ((said_stay c.args.terms.now m c.args.frame.now.locals (frame_sorts y.proc.now) _ c.in_ok-own.ensures.grows frame.locals).are env (c.in_ok-all.ensures.grows.fits env fits)))) all.apart

pub returns-clause-weighs : goal.returns-clause-weighs
returns-clause-weighs c =
    let s = c.args.start.now in
    let p = s.program.now in
    let y = c.args.place.now in
    let items = c.as_slice-2.ensures.value ∙ c.in_ok-ids.ensures ∙ ap (λ (xs : List ℕ). map (λ n. get_or xs n 0) y.held.now) c.as_slice.ensures in
    let long = ap length items ∙ length-map y.held.now (λ n. get_or c.args.frame.now.locals n 0) in
    let count = length s.held.now + linear_globals p in
    omega (
      arith,
      c.in_ok-own.ensures.weighs,
      c.in_ok-all.ensures.weighs count c.in_ok-own.ensures.number,
      ap (λ (n : ℕ). items_weight (2 ^ p.permissions) (count + n)) long,
      items_small p (count + length y.held.now) (permissions_some p c.requires.start.rules),
    )
