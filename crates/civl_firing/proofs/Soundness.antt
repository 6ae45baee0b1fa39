-- The value of an expression has the expression's sort.
use Rattle.std.proofs.Common.{◌≡◌, Bool, true, false, ◌&&◌, sym, ap, ◌∙◌, subst, Option, Some}
use Rattle.std.proofs.lemmas.Bool.{and_parts}
use Rattle.civl_bits.specs.declared.value.Value.{Value}
use Rattle.civl_bits.specs.declared.value.Value.TheVariants as value
use Rattle.civl_tree.specs.declared.expr.Expr.{Expr, roll-Expr, out-roll-Expr, map-Expr}
use Rattle.civl_tree.specs.declared.expr.Expr.TheFolds.{fold-roll-Expr, ind-Expr}
use Rattle.civl_tree.specs.declared.expr.Expr.TheOpen as expr
use Rattle.civl_tree.specs.declared.expr.Sort.{Sort}
use Rattle.civl_tree.specs.declared.expr.Sort.TheVariants.{Bool as Truth, Word}
use Rattle.civl_tree.specs.rules.Scopes.{Scope as Sorts}
use Rattle.civl_tree.specs.rules.Sorts.{sort_of, sort_step}
use Rattle.civl_tree.specs.rules.Exprs.{is_index, widths_fit, indices_fit, index_step, IsOfSort}
use Rattle.civl_tree.proofs.Layers.{width_layer, widths_is}
use Rattle.civl_firing.specs.declared.scope.Scope.{Scope}
use Rattle.civl_firing.specs.values.Operators.{literal_value}
use Rattle.civl_firing.specs.Eval.{value_of, value_step}
use Rattle.civl_firing.specs.values.Values.{HasSort}
use Rattle.civl_firing.specs.Sorts.{IsSorted, ValuesHaveTheirSorts}
use Rattle.civl_firing.proofs.values.Sorting.{is_bool, Given, one_fits, two_fits, pick_fits, literal_has_sort, get_fits, set_fits, fill_fits, slice_has_sort, widen_has_sort, join_has_sort}

-- what is to be shown of an expression
abbrev Sound : Scope → Sorts → Expr → Type 0
Sound scope sorts e = (s : Sort) → IsOfSort sorts e s → HasSort (value_of scope e) s

truth : (b : Bool) (s : Sort) → Some Truth ≡ Some s → HasSort (value.Bool b) s
truth b s e = let f : Truth ≡ s = cc in subst (HasSort (value.Bool b)) f (is_bool b)

-- a part whose words and rows are in range
part : (scope : Scope) (sorts : Sorts) (e : Expr) → Sound scope sorts e → widths_fit sorts e ≡ true → indices_fit e ≡ true → Given (sort_of sorts e) (value_of scope e)
part scope sorts e h q r t p = h t (p, q, r)

layer_sound : {S : Type 0} (scope : Scope) (sorts : Sorts) → IsSorted scope sorts → (y : expr.Expr-F S) (v : S → Expr) → ((x : S) → Sound scope sorts (v x)) → (s : Sort) →
    sort_step sorts (map-Expr Expr (Option Sort) (sort_of sorts) (map-Expr S Expr v y)) ≡ Some s →
    width_layer sorts (map-Expr S Expr v y) ≡ true →
    index_step (map-Expr Expr Bool indices_fit (map-Expr S Expr v y)) ≡ true →
    HasSort (value_step scope (map-Expr Expr Value (value_of scope) (map-Expr S Expr v y))) s
layer_sound scope sorts fit (expr.Name n) v h s p q r = fit.names n s p
layer_sound scope sorts fit (expr.Literal n w) v h s p q r =
    let f : Word w ≡ s = cc in subst (HasSort (literal_value n w)) f (literal_has_sort n w q)
layer_sound scope sorts fit expr.True v h s p q r = truth true s p
layer_sound scope sorts fit expr.False v h s p q r = truth false s p
layer_sound scope sorts fit expr.Done v h s p q r = truth scope.done s p
layer_sound scope sorts fit (expr.Old n) v h s p q r = fit.olds n s p
layer_sound scope sorts fit expr.OldDone v h s p q r = truth scope.old_done s p
layer_sound scope sorts fit (expr.One op a) v h s p q r = one_fits op _ _ (part scope sorts (v a) (h a) q r) s p
layer_sound scope sorts fit (expr.Two op a b) v h s p q r =
    let w = and_parts (widths_fit sorts (v a)) (widths_fit sorts (v b)) q in
    let i = and_parts (indices_fit (v a)) (indices_fit (v b)) r in
    two_fits op _ _ _ _ (part scope sorts (v a) (h a) w.0 i.0) (part scope sorts (v b) (h b) w.1 i.1) s p
layer_sound scope sorts fit (expr.Pick c a b) v h s p q r =
    let w = and_parts (widths_fit sorts (v c)) (widths_fit sorts (v a) && widths_fit sorts (v b)) q in
    let x = and_parts (widths_fit sorts (v a)) (widths_fit sorts (v b)) w.1 in
    let i = and_parts (indices_fit (v c)) (indices_fit (v a) && indices_fit (v b)) r in
    let j = and_parts (indices_fit (v a)) (indices_fit (v b)) i.1 in
    pick_fits _ _ _ _ _ _ (part scope sorts (v c) (h c) w.0 i.0) (part scope sorts (v a) (h a) x.0 j.0) (part scope sorts (v b) (h b) x.1 j.1) s p
layer_sound scope sorts fit (expr.Get a b) v h s p q r =
    let w = and_parts (widths_fit sorts (v a)) (widths_fit sorts (v b)) q in
    let i = and_parts (indices_fit (v a)) (indices_fit (v b)) r in
    get_fits _ _ _ _ (part scope sorts (v a) (h a) w.0 i.0) (part scope sorts (v b) (h b) w.1 i.1) s p
layer_sound scope sorts fit (expr.Set c a b) v h s p q r =
    let w = and_parts (widths_fit sorts (v c)) (widths_fit sorts (v a) && widths_fit sorts (v b)) q in
    let x = and_parts (widths_fit sorts (v a)) (widths_fit sorts (v b)) w.1 in
    let i = and_parts (indices_fit (v c)) (indices_fit (v a) && indices_fit (v b)) r in
    let j = and_parts (indices_fit (v a)) (indices_fit (v b)) i.1 in
    set_fits _ _ _ _ _ _ (part scope sorts (v c) (h c) w.0 i.0) (part scope sorts (v a) (h a) x.0 j.0) (part scope sorts (v b) (h b) x.1 j.1) s p
layer_sound scope sorts fit (expr.Fill n a) v h s p q r =
    let i = and_parts (is_index n) (indices_fit (v a)) r in
    fill_fits n _ _ (part scope sorts (v a) (h a) q i.1) i.0 s p
layer_sound scope sorts fit (expr.Slice a high low) v h s p q r =
    let w = and_parts (widths_fit sorts (v a)) _ q in
    slice_has_sort _ _ high low (part scope sorts (v a) (h a) w.0 r) s p
layer_sound scope sorts fit (expr.Widen a wider) v h s p q r =
    let w = and_parts (widths_fit sorts (v a)) _ q in
    widen_has_sort _ _ wider (part scope sorts (v a) (h a) w.0 r) s p
layer_sound scope sorts fit (expr.Join a b) v h s p q r =
    let w = and_parts (widths_fit sorts (v a)) _ q in
    let x = and_parts (widths_fit sorts (v b)) _ w.1 in
    let i = and_parts (indices_fit (v a)) (indices_fit (v b)) r in
    join_has_sort _ _ _ _ (part scope sorts (v a) (h a) w.0 i.0) (part scope sorts (v b) (h b) x.0 i.1) s p

pub values_have_their_sorts : ValuesHaveTheirSorts
values_have_their_sorts scope sorts fit e =
    ind-Expr (Sound scope sorts) (λ x y q s i.
    let of = λ (d : expr.Expr-F Expr). sort_step sorts (map-Expr Expr (Option Sort) (sort_of sorts) d) in
    let wide = width_layer sorts in
    let low = λ (d : expr.Expr-F Expr). index_step (map-Expr Expr Bool indices_fit d) in
    let result = λ (d : expr.Expr-F Expr). value_step scope (map-Expr Expr Value (value_of scope) d) in
    let a = ap of q ∙ sym (fold-roll-Expr (Option Sort) (sort_step sorts) x) ∙ i.0 in
    let b = ap wide (q ∙ sym (out-roll-Expr x)) ∙ sym (widths_is sorts (roll-Expr x)) ∙ i.1 in
    let c = ap low q ∙ sym (fold-roll-Expr Bool index_step x) ∙ i.2 in
    let h = layer_sound scope sorts fit y (λ z. z.0) (λ z. z.1) s a b c in
    subst (λ (v : Value). HasSort v s) (ap result q ∙ sym (fold-roll-Expr Value (value_step scope) x)) h) e
