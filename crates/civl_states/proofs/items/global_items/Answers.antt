use Rattle.std.specs.Prelude.{◌+◌, ◌^◌, ◌≤◌, map, All}
use Rattle.std.proofs.Common.{◌≡◌, ◌∙◌, ◌++◌, ℕ, List, Some, sym, ap, subst}
use Rattle.civl_tree.specs.declared.expr.Sort.TheVariants.{Word}
use Rattle.civl_terms.specs.Graphs.{sort_at}
use Rattle.civl_terms.specs.Weights.{graph_weight}
use Rattle.civl_actions.specs.Actions.{values_at}
use Rattle.civl_meaning.specs.Permissions.{permissions_of_global}
use Rattle.civl_conditions.specs.Permissions.{in_store}
use Rattle.civl_states.proofs.formula_parts.Carrying.{carried_as}
use Rattle.civl_states.specs.Items.{HasItems, items_weight}
use Rattle.civl_states.proofs.Picking.{picked_sorted, kept_items, kept_long, of_globals_is, global_sorted}
use Rattle.civl_states.proofs.items.global_items.Goals as goal

pub with_globals-requires-clause-ids : goal.with_globals-requires-clause-ids
with_globals-requires-clause-ids c =
    let p = c.args.program.now in
    subst (λ (xs : List ℕ). All (λ i. sort_at c.args.terms.now i ≡ Some (Word (2 ^ p.permissions))) xs) (sym (c.as_slice.ensures.value ∙ c.in_ok-linear.ensures))
    (picked_sorted c.args.terms.now (Word (2 ^ p.permissions)) (λ g. g.linear) (λ g. g.sort) p.globals c.args.globals.now c.requires.globals (global_sorted p c.requires.rules))

pub returns-clause-carried : goal.returns-clause-carried
returns-clause-carried c = λ f g h s.
    let p = c.args.program.now in
    let n = c.args.terms.now in
    let kept = c.as_slice.ensures.value ∙ c.in_ok-linear.ensures in
    carried_as (λ env. f env ++ map permissions_of_global (values_at env n c.as_slice.result.now)) (λ env. f env ++ in_store p (g env))
    (λ env fits. ap (λ t. f env ++ t)
    (kept_items permissions_of_global (λ g. g.linear) p.globals n env c.args.globals.now c.as_slice.result.now (g env).values kept (s.are env (c.in_ok-more.ensures.grows.fits env fits))
    ∙ sym (of_globals_is p.globals (g env).values)))
    (c.in_ok-more.ensures.carried f h)

pub returns-clause-number : goal.returns-clause-number
returns-clause-number c = λ n h.
    let p = c.args.program.now in
    let long = kept_long (λ g. g.linear) (λ g. g.sort) p.globals c.args.terms.now c.args.globals.now c.as_slice.result.now (c.as_slice.ensures.value ∙ c.in_ok-linear.ensures) c.requires.globals in
    subst (λ k. HasItems c.in_ok-more.more.mask (n + k)) long (c.in_ok-more.ensures.number n h)

pub returns-clause-weighs : goal.returns-clause-weighs
returns-clause-weighs c = λ n h.
    let p = c.args.program.now in
    let long = kept_long (λ g. g.linear) (λ g. g.sort) p.globals c.args.terms.now c.args.globals.now c.as_slice.result.now (c.as_slice.ensures.value ∙ c.in_ok-linear.ensures) c.requires.globals in
    subst (λ k. graph_weight c.with_globals.new.terms + items_weight (2 ^ p.permissions) n ≤ graph_weight c.args.terms.now + items_weight (2 ^ p.permissions) (n + k)) long (c.in_ok-more.ensures.weighs n h)
