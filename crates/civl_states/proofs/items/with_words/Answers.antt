use Rattle.std.specs.Prelude.{◌+◌, ◌^◌, ◌≤◌, map, take, slice_index_or, length}
use Rattle.std.proofs.Common.{◌≡◌, ◌++◌, ℕ, List, sym, subst, arith}
use Rattle.std.proofs.lemmas.List.{take_more, take_all}
use Rattle.civl_tree.specs.declared.expr.Sort.TheVariants.{Word}
use Rattle.civl_terms.specs.Weights.{graph_weight}
use Rattle.civl_terms.proofs.Growing.{grows_trans, grows_same}
use Rattle.civl_actions.specs.Actions.{values_at}
use Rattle.civl_meaning.specs.Permissions.{permissions_of_word}
use Rattle.civl_states.specs.formula_parts.Masks.{AreCarried}
use Rattle.civl_states.proofs.formula_parts.Saying.{sort_stays}
use Rattle.civl_states.specs.Items.{HasItems, items_weight}
use Rattle.civl_states.proofs.Picking.{items_step, items_begin, mask_next, weight_begin, weight_next}
use Rattle.civl_states.proofs.items.with_words.Goals as goal

pub with_word-requires-clause-item : goal.with_word-requires-clause-item
with_word-requires-clause-item c = sort_stays c.args.terms.now c.loop-item.terms _ (Word c.args.permissions) c.loop-item.invariant.0 (c.requires.ids c.loop-item.item-index 0 (omega arith))

pub loop-item-init : goal.loop-item-init
loop-item-init c = (
  grows_same c.args.terms.now,
  c.requires.carried,
  λ f h. items_begin permissions_of_word f h,
  λ n h. (let e : n ≡ n + 0 = omega arith in subst (HasItems c.args.carried.mask) e h),
  λ n h. weight_begin (2 ^ c.args.permissions) n (graph_weight c.args.terms.now),
)

pub loop-item-preserved : goal.loop-item-preserved
loop-item-preserved c = (
  grows_trans _ _ _ c.loop-item.invariant.0 c.in_ok-more.ensures.grows,
  c.in_ok-more.ensures.sorted,
  λ f h.
      let more = take_more c.args.ids.now c.loop-item.item-index 0 (omega arith) in
      subst (λ (xs : List ℕ). AreCarried c.with_word.new.terms (2 ^ c.args.permissions) c.in_ok-more.more (λ env. f env ++ map permissions_of_word (values_at env c.args.terms.now xs))) (sym more)
      (items_step permissions_of_word (Word c.args.permissions) (take c.loop-item.item-index c.args.ids.now) (slice_index_or c.args.ids.now c.loop-item.item-index 0) c.loop-item.invariant.0
      c.loop-item.invariant.2 c.in_ok-more.ensures.carried (c.requires.ids c.loop-item.item-index 0 (omega arith)) f h),
  λ n h. mask_next c.in_ok-more.more.mask n c.loop-item.item-index c.in_ok-more.ensures.some,
  λ n h. weight_next (2 ^ c.args.permissions) n c.loop-item.item-index (graph_weight c.args.terms.now) (graph_weight c.loop-item.terms) (graph_weight c.with_word.new.terms) c.loop-item.more.mask
      (c.loop-item.invariant.3 n h) (c.loop-item.invariant.4 n h) (omega (arith, c.in_ok-more.ensures.weighs)),
)

pub returns-clause-carried : goal.returns-clause-carried
returns-clause-carried c = λ f h.
    subst (λ (xs : List ℕ). AreCarried c.loop-item.terms (2 ^ c.args.permissions) c.loop-item.more (λ env. f env ++ map permissions_of_word (values_at env c.args.terms.now xs)))
    (take_all c.loop-item.item-index c.args.ids.now (omega arith)) (c.loop-item.invariant.2 f h)

pub returns-clause-number : goal.returns-clause-number
returns-clause-number c = λ n h. let e : n + c.loop-item.item-index ≡ n + length c.args.ids.now = omega arith in subst (HasItems c.loop-item.more.mask) e (c.loop-item.invariant.3 n h)

pub returns-clause-weighs : goal.returns-clause-weighs
returns-clause-weighs c = λ n h.
    let e : n + c.loop-item.item-index ≡ n + length c.args.ids.now = omega arith in
    subst (λ k. graph_weight c.loop-item.terms + items_weight (2 ^ c.args.permissions) n ≤ graph_weight c.args.terms.now + items_weight (2 ^ c.args.permissions) k) e (c.loop-item.invariant.4 n h)

pub returns-in_err-more-clause-grows : goal.returns-in_err-more-clause-grows
returns-in_err-more-clause-grows c = grows_trans _ _ _ c.loop-item.invariant.0 c.in_err-more.ensures.grows
