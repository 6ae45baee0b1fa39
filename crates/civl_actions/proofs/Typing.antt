-- An expression that has a sort has parts that have one.
use Rattle.std.specs.Prelude.{◌&&◌, IsSome, if◌then◌else◌}
use Rattle.std.proofs.Common.{◌≡◌, ◌∙◌, ℕ, Bool, true, false, refl, sym, ap, subst, Option, Some, None}
use Rattle.std.proofs.lemmas.Bool.{false≢true, and_parts}
use Rattle.civl_tree.specs.declared.expr.One.{One}
use Rattle.civl_tree.specs.declared.expr.One.TheVariants.{Not, Flip, Minus}
use Rattle.civl_tree.specs.declared.expr.Two.{Two}
use Rattle.civl_tree.specs.declared.expr.Two.TheVariants.{Add, Sub, Mul, BitAnd, BitOr, BitXor, Shl, Shr, Lt, Le, Eq, Ne, And, Or, Implies, Udiv, Urem, Slt, Sle, Sar}
use Rattle.civl_tree.specs.declared.expr.Sort.{Sort}
use Rattle.civl_tree.specs.declared.expr.Sort.TheVariants.{Bool as Truth, Word, Row}
use Rattle.civl_tree.specs.declared.expr.Expr.{Expr, roll-Expr, out-roll-Expr, map-Expr}
use Rattle.civl_tree.specs.declared.expr.Expr.TheFolds.{fold-roll-Expr, para-roll-Expr}
use Rattle.civl_tree.specs.declared.expr.Expr.TheOpen as expr
use Rattle.civl_tree.specs.rules.Scopes.{Scope as Sorts}
use Rattle.civl_tree.specs.rules.Sorts.{sort_of, sort_step, is_truth, is_word, word_sort, common_sort, truth_over, truths_sort, one_sort, two_sort, pick_sort, get_sort, set_sort, fill_sort, slice_sort, widen_sort, join_sort, joined_sort}
use Rattle.civl_tree.specs.rules.Exprs.{is_index, widths_fit, indices_fit, index_step}
use Rattle.civl_tree.proofs.Layers.{width_layer, widths_is}
use Rattle.civl_firing.specs.values.Weights.{weight_of, weight_step}
use Rattle.civl_actions.specs.Scopes.{IsTyped}

-- ---- the sorts of operands

two_common : (o p : Option Sort) → IsSome (common_sort o p) → IsSome o × IsSome p
two_common None p e = absurd (false≢true e)
two_common (Some s) None e = absurd (false≢true e)
two_common (Some s) (Some t) e = (refl, refl)

of_word : (o : Option Sort) → IsSome (word_sort o) → IsSome o
of_word None e = e
of_word (Some s) e = refl

of_over : (o : Option Sort) → IsSome (truth_over o) → IsSome o
of_over None e = e
of_over (Some s) e = refl

of_truth : (o : Option Sort) → is_truth o ≡ true → IsSome o
of_truth None e = absurd (false≢true e)
of_truth (Some s) e = refl

of_width : (w : ℕ) (o : Option Sort) → is_word w o ≡ true → IsSome o
of_width w None e = absurd (false≢true e)
of_width w (Some s) e = refl

chosen : (b : Bool) (o : Option Sort) → IsSome (if b then o else None) → (b ≡ true) × IsSome o
chosen true o e = (refl, e)
chosen false o e = absurd (false≢true e)

words : (o p : Option Sort) → IsSome (word_sort (common_sort o p)) → IsSome o × IsSome p
words o p e = two_common o p (of_word (common_sort o p) e)

tests : (o p : Option Sort) → IsSome (truth_over (word_sort (common_sort o p))) → IsSome o × IsSome p
tests o p e = words o p (of_over (word_sort (common_sort o p)) e)

equals : (o p : Option Sort) → IsSome (truth_over (common_sort o p)) → IsSome o × IsSome p
equals o p e = two_common o p (of_over (common_sort o p) e)

truths : (o p : Option Sort) → IsSome (truths_sort o p) → IsSome o × IsSome p
truths o p e =
    let c = chosen (is_truth o && is_truth p) (Some Truth) e in
    let b = and_parts (is_truth o) (is_truth p) c.0 in
    (of_truth o b.0, of_truth p b.1)

one_part : (op : One) (o : Option Sort) → IsSome (one_sort op o) → IsSome o
one_part Not o e = of_truth o (chosen (is_truth o) (Some Truth) e).0
one_part Flip o e = of_word o e
one_part Minus o e = of_word o e

two_parts : (op : Two) (o p : Option Sort) → IsSome (two_sort op o p) → IsSome o × IsSome p
two_parts Add o p e = words o p e
two_parts Sub o p e = words o p e
two_parts Mul o p e = words o p e
two_parts BitAnd o p e = words o p e
two_parts BitOr o p e = words o p e
two_parts BitXor o p e = words o p e
two_parts Shl o p e = words o p e
two_parts Shr o p e = words o p e
two_parts Lt o p e = tests o p e
two_parts Le o p e = tests o p e
two_parts Eq o p e = equals o p e
two_parts Ne o p e = equals o p e
two_parts And o p e = truths o p e
two_parts Or o p e = truths o p e
two_parts Implies o p e = truths o p e
two_parts Udiv o p e = words o p e
two_parts Urem o p e = words o p e
two_parts Slt o p e = tests o p e
two_parts Sle o p e = tests o p e
two_parts Sar o p e = words o p e

pick_parts : (c o p : Option Sort) → IsSome (pick_sort c o p) → IsSome c × IsSome o × IsSome p
pick_parts c o p e =
    let k = chosen (is_truth c) (common_sort o p) e in
    let q = two_common o p k.1 in
    (of_truth c k.0, q.0, q.1)

get_parts : (o p : Option Sort) → IsSome (get_sort o p) → IsSome o × IsSome p
get_parts None p e = absurd (false≢true e)
get_parts (Some Truth) p e = absurd (false≢true e)
get_parts (Some (Word w)) p e = absurd (false≢true e)
get_parts (Some (Row i w)) p e = (refl, of_width i p (chosen (is_word i p) (Some (Word w)) e).0)

set_parts : (o p q : Option Sort) → IsSome (set_sort o p q) → IsSome o × IsSome p × IsSome q
set_parts None p q e = absurd (false≢true e)
set_parts (Some Truth) p q e = absurd (false≢true e)
set_parts (Some (Word w)) p q e = absurd (false≢true e)
set_parts (Some (Row i w)) p q e =
    let b = and_parts (is_word i p) (is_word w q) (chosen (is_word i p && is_word w q) (Some (Row i w)) e).0 in
    (refl, of_width i p b.0, of_width w q b.1)

fill_part : (i : ℕ) (o : Option Sort) → IsSome (fill_sort i o) → IsSome o
fill_part i None e = e
fill_part i (Some s) e = refl

slice_part : (o : Option Sort) (high low : ℕ) → IsSome (slice_sort o high low) → IsSome o
slice_part None high low e = e
slice_part (Some s) high low e = refl

widen_part : (o : Option Sort) (w : ℕ) → IsSome (widen_sort o w) → IsSome o
widen_part None w e = e
widen_part (Some s) w e = refl

joined : (w : ℕ) (p : Option Sort) → IsSome (joined_sort w p) → IsSome p
joined w None e = e
joined w (Some s) e = refl

join_parts : (o p : Option Sort) → IsSome (join_sort o p) → IsSome o × IsSome p
join_parts None p e = absurd (false≢true e)
join_parts (Some Truth) p e = absurd (false≢true e)
join_parts (Some (Word w)) p e = (refl, joined w p e)
join_parts (Some (Row i w)) p e = absurd (false≢true e)

-- ---- one layer of what is said of an expression

pub sort_layer : (sorts : Sorts) (x : expr.Expr-F Expr) → sort_of sorts (roll-Expr x) ≡ sort_step sorts (map-Expr Expr (Option Sort) (sort_of sorts) x)
sort_layer sorts x = fold-roll-Expr (Option Sort) (sort_step sorts) x

pub widths_layer : (sorts : Sorts) (x : expr.Expr-F Expr) → widths_fit sorts (roll-Expr x) ≡ width_layer sorts x
widths_layer sorts x = widths_is sorts (roll-Expr x) ∙ ap (width_layer sorts) (out-roll-Expr x)

pub indices_layer : (x : expr.Expr-F Expr) → indices_fit (roll-Expr x) ≡ index_step (map-Expr Expr Bool indices_fit x)
indices_layer x = fold-roll-Expr Bool index_step x

pub weight_layer : (sorts : Sorts) (x : expr.Expr-F Expr) → weight_of sorts (roll-Expr x) ≡ weight_step sorts (map-Expr Expr (Expr × ℕ) (λ e. (e, weight_of sorts e)) x)
weight_layer sorts x = para-roll-Expr ℕ (weight_step sorts) x

-- what is said of a layer
pub record LayerTyped (sorts : Sorts) (x : expr.Expr-F Expr) : Type 0 where
  pub sorted : IsSome (sort_step sorts (map-Expr Expr (Option Sort) (sort_of sorts) x))
  pub widths : width_layer sorts x ≡ true
  pub indices : index_step (map-Expr Expr Bool indices_fit x) ≡ true

pub layer_typed : (sorts : Sorts) (x : expr.Expr-F Expr) → IsTyped sorts (roll-Expr x) → LayerTyped sorts x
layer_typed sorts x t = record {
  sorted = subst (λ (o : Option Sort). IsSome o) (sort_layer sorts x) t.sorted;
  widths = sym (widths_layer sorts x) ∙ t.widths;
  indices = sym (indices_layer x) ∙ t.indices;
}

-- ---- the parts

part : (sorts : Sorts) (e : Expr) → IsSome (sort_of sorts e) → widths_fit sorts e ≡ true → indices_fit e ≡ true → IsTyped sorts e
part sorts e s w i = record { sorted = s; widths = w; indices = i }

module _ (sorts : Sorts) where
  pub typed_one : (op : One) (a : Expr) → IsTyped sorts (roll-Expr (expr.One op a)) → IsTyped sorts a
  typed_one op a t = let l = layer_typed sorts (expr.One op a) t in part sorts a (one_part op (sort_of sorts a) l.sorted) l.widths l.indices

  pub typed_two : (op : Two) (a b : Expr) → IsTyped sorts (roll-Expr (expr.Two op a b)) → IsTyped sorts a × IsTyped sorts b
  typed_two op a b t =
      let l = layer_typed sorts (expr.Two op a b) t in
      let s = two_parts op (sort_of sorts a) (sort_of sorts b) l.sorted in
      let w = and_parts (widths_fit sorts a) (widths_fit sorts b) l.widths in
      let i = and_parts (indices_fit a) (indices_fit b) l.indices in
      (part sorts a s.0 w.0 i.0, part sorts b s.1 w.1 i.1)

  pub typed_pick : (c a b : Expr) → IsTyped sorts (roll-Expr (expr.Pick c a b)) → IsTyped sorts c × IsTyped sorts a × IsTyped sorts b
  typed_pick c a b t =
      let l = layer_typed sorts (expr.Pick c a b) t in
      let s = pick_parts (sort_of sorts c) (sort_of sorts a) (sort_of sorts b) l.sorted in
      let w = and_parts (widths_fit sorts c) (widths_fit sorts a && widths_fit sorts b) l.widths in
      let v = and_parts (widths_fit sorts a) (widths_fit sorts b) w.1 in
      let i = and_parts (indices_fit c) (indices_fit a && indices_fit b) l.indices in
      let j = and_parts (indices_fit a) (indices_fit b) i.1 in
      (part sorts c s.0 w.0 i.0, part sorts a s.1 v.0 j.0, part sorts b s.2 v.1 j.1)

  pub typed_get : (a b : Expr) → IsTyped sorts (roll-Expr (expr.Get a b)) → IsTyped sorts a × IsTyped sorts b
  typed_get a b t =
      let l = layer_typed sorts (expr.Get a b) t in
      let s = get_parts (sort_of sorts a) (sort_of sorts b) l.sorted in
      let w = and_parts (widths_fit sorts a) (widths_fit sorts b) l.widths in
      let i = and_parts (indices_fit a) (indices_fit b) l.indices in
      (part sorts a s.0 w.0 i.0, part sorts b s.1 w.1 i.1)

  pub typed_set : (c a b : Expr) → IsTyped sorts (roll-Expr (expr.Set c a b)) → IsTyped sorts c × IsTyped sorts a × IsTyped sorts b
  typed_set c a b t =
      let l = layer_typed sorts (expr.Set c a b) t in
      let s = set_parts (sort_of sorts c) (sort_of sorts a) (sort_of sorts b) l.sorted in
      let w = and_parts (widths_fit sorts c) (widths_fit sorts a && widths_fit sorts b) l.widths in
      let v = and_parts (widths_fit sorts a) (widths_fit sorts b) w.1 in
      let i = and_parts (indices_fit c) (indices_fit a && indices_fit b) l.indices in
      let j = and_parts (indices_fit a) (indices_fit b) i.1 in
      (part sorts c s.0 w.0 i.0, part sorts a s.1 v.0 j.0, part sorts b s.2 v.1 j.1)

  pub typed_fill : (n : ℕ) (a : Expr) → IsTyped sorts (roll-Expr (expr.Fill n a)) → (is_index n ≡ true) × IsTyped sorts a
  typed_fill n a t =
      let l = layer_typed sorts (expr.Fill n a) t in
      let i = and_parts (is_index n) (indices_fit a) l.indices in
      (i.0, part sorts a (fill_part n (sort_of sorts a) l.sorted) l.widths i.1)

  pub typed_slice : (a : Expr) (high low : ℕ) → IsTyped sorts (roll-Expr (expr.Slice a high low)) → IsTyped sorts a
  typed_slice a high low t =
      let l = layer_typed sorts (expr.Slice a high low) t in
      let w = and_parts (widths_fit sorts a) _ l.widths in
      part sorts a (slice_part (sort_of sorts a) high low l.sorted) w.0 l.indices

  pub typed_widen : (a : Expr) (n : ℕ) → IsTyped sorts (roll-Expr (expr.Widen a n)) → IsTyped sorts a
  typed_widen a n t =
      let l = layer_typed sorts (expr.Widen a n) t in
      let w = and_parts (widths_fit sorts a) _ l.widths in
      part sorts a (widen_part (sort_of sorts a) n l.sorted) w.0 l.indices

  pub typed_join : (a b : Expr) → IsTyped sorts (roll-Expr (expr.Join a b)) → IsTyped sorts a × IsTyped sorts b
  typed_join a b t =
      let l = layer_typed sorts (expr.Join a b) t in
      let s = join_parts (sort_of sorts a) (sort_of sorts b) l.sorted in
      let w = and_parts (widths_fit sorts a) _ l.widths in
      let v = and_parts (widths_fit sorts b) _ w.1 in
      let i = and_parts (indices_fit a) (indices_fit b) l.indices in
      (part sorts a s.0 w.0 i.0, part sorts b s.1 v.0 i.1)
