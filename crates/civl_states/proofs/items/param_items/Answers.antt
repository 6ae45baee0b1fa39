use Rattle.std.specs.Prelude.{◌+◌, ◌^◌, ◌≤◌, map, All}
use Rattle.std.proofs.Common.{◌≡◌, ◌∙◌, ◌++◌, ℕ, List, Some, sym, ap, subst}
use Rattle.civl_tree.specs.declared.expr.Sort.TheVariants.{Word}
use Rattle.civl_terms.specs.Graphs.{sort_at}
use Rattle.civl_terms.specs.Weights.{graph_weight}
use Rattle.civl_actions.specs.Actions.{values_at}
use Rattle.civl_meaning.specs.Permissions.{permissions_of_word}
use Rattle.civl_states.proofs.formula_parts.Carrying.{carried_as}
use Rattle.civl_states.specs.Items.{is_which, of_which, HasItems, items_weight}
use Rattle.civl_states.proofs.Picking.{picked_sorted, kept_items, kept_long, of_which_is, params_sorted, permissions_few}
use Rattle.civl_states.proofs.items.param_items.Goals as goal

pub with_words-requires-clause-permissions : goal.with_words-requires-clause-permissions
with_words-requires-clause-permissions c = permissions_few c.args.program.now c.requires.rules

pub with_words-requires-clause-ids : goal.with_words-requires-clause-ids
with_words-requires-clause-ids c =
    let p = c.args.program.now in
    subst (λ (xs : List ℕ). All (λ i. sort_at c.args.terms.now i ≡ Some (Word p.permissions)) xs) (sym (c.as_slice.ensures.value ∙ c.in_ok-chosen.ensures))
    (picked_sorted c.args.terms.now (Word p.permissions) (λ q. is_which c.args.which q.mode) (λ q. q.sort) c.args.params.now c.args.ids.now c.requires.ids (params_sorted p c.requires.rules c.args.which c.args.params.now c.requires.widths))

pub returns-clause-carried : goal.returns-clause-carried
returns-clause-carried c = λ f g h s.
    let p = c.args.program.now in
    let n = c.args.terms.now in
    let kept = c.as_slice.ensures.value ∙ c.in_ok-chosen.ensures in
    carried_as (λ env. f env ++ map permissions_of_word (values_at env n c.as_slice.result.now)) (λ env. f env ++ of_which c.args.which c.args.params.now (g env))
    (λ env fits. ap (λ t. f env ++ t)
    (kept_items permissions_of_word (λ q. is_which c.args.which q.mode) c.args.params.now n env c.args.ids.now c.as_slice.result.now (g env) kept (s.are env (c.in_ok-more.ensures.grows.fits env fits))
    ∙ sym (of_which_is c.args.which c.args.params.now (g env))))
    (c.in_ok-more.ensures.carried f h)

pub returns-clause-number : goal.returns-clause-number
returns-clause-number c = λ n h.
    let p = c.args.program.now in
    let long = kept_long (λ q. is_which c.args.which q.mode) (λ q. q.sort) c.args.params.now c.args.terms.now c.args.ids.now c.as_slice.result.now (c.as_slice.ensures.value ∙ c.in_ok-chosen.ensures) c.requires.ids in
    subst (λ k. HasItems c.in_ok-more.more.mask (n + k)) long (c.in_ok-more.ensures.number n h)

pub returns-clause-weighs : goal.returns-clause-weighs
returns-clause-weighs c = λ n h.
    let p = c.args.program.now in
    let long = kept_long (λ q. is_which c.args.which q.mode) (λ q. q.sort) c.args.params.now c.args.terms.now c.args.ids.now c.as_slice.result.now (c.as_slice.ensures.value ∙ c.in_ok-chosen.ensures) c.requires.ids in
    subst (λ k. graph_weight c.with_words.new.terms + items_weight (2 ^ p.permissions) n ≤ graph_weight c.args.terms.now + items_weight (2 ^ p.permissions) (n + k)) long (c.in_ok-more.ensures.weighs n h)
