-- `widths_fit`, one layer at a time.
use Rattle.std.proofs.Common.{◌≡◌, Bool, true, refl, sym, ap, ◌∙◌, subst}
use Rattle.std.specs.Prelude.{◌&&◌, Option}
use Rattle.civl_tree.specs.declared.expr.Sort.{Sort}
use Rattle.civl_types.specs.declared.exprs.Judged.{Judged}
use Rattle.civl_types.specs.inner.Judging.{judge, judge_step}
use Rattle.civl_tree.specs.declared.expr.Expr.{Expr, out-Expr, roll-Expr, roll-out-Expr, out-roll-Expr, map-Expr}
use Rattle.civl_tree.specs.declared.expr.Expr.TheOpen as expr
use Rattle.civl_tree.specs.declared.expr.Expr.TheFolds.{para-roll-Expr, fold-roll-Expr, ind-Expr}
use Rattle.civl_tree.specs.rules.Scopes.{Scope}
use Rattle.civl_tree.specs.rules.Sorts.{sort_of, sort_step}
use Rattle.civl_tree.specs.rules.Exprs.{widths_fit, width_step, literal_fits, slice_in_range, widen_in_range, join_in_range}

-- a part with whether its widths fit
with_fit : Scope → Expr → Expr × Bool
with_fit scope part = (part, widths_fit scope part)

-- the same, over the parts themselves
abbrev pub width_layer : Scope → expr.Expr-F Expr → Bool
width_layer scope (expr.Name name) = true
width_layer scope (expr.Literal value width) = literal_fits value width
width_layer scope expr.True = true
width_layer scope expr.False = true
width_layer scope expr.Done = true
width_layer scope (expr.Old name) = true
width_layer scope expr.OldDone = true
width_layer scope (expr.One op part) = widths_fit scope part
width_layer scope (expr.Two op first second) = widths_fit scope first && widths_fit scope second
width_layer scope (expr.Pick test first second) = widths_fit scope test && (widths_fit scope first && widths_fit scope second)
width_layer scope (expr.Get row at) = widths_fit scope row && widths_fit scope at
width_layer scope (expr.Set row at cell) = widths_fit scope row && (widths_fit scope at && widths_fit scope cell)
width_layer scope (expr.Fill index cell) = widths_fit scope cell
width_layer scope (expr.Slice word high low) = widths_fit scope word && slice_in_range (sort_of scope word) high low
width_layer scope (expr.Widen word wider) = widths_fit scope word && widen_in_range (sort_of scope word) wider
width_layer scope (expr.Join first second) = widths_fit scope first && (widths_fit scope second && join_in_range (sort_of scope first) (sort_of scope second))

layer_is : (scope : Scope) (layer : expr.Expr-F Expr) → width_step scope (map-Expr Expr (Expr × Bool) (with_fit scope) layer) ≡ width_layer scope layer
unfolding with_fit
layer_is scope (expr.Name name) = refl
layer_is scope (expr.Literal value width) = refl
layer_is scope expr.True = refl
layer_is scope expr.False = refl
layer_is scope expr.Done = refl
layer_is scope (expr.Old name) = refl
layer_is scope expr.OldDone = refl
layer_is scope (expr.One op part) = refl
layer_is scope (expr.Two op first second) = refl
layer_is scope (expr.Pick test first second) = refl
layer_is scope (expr.Get row at) = refl
layer_is scope (expr.Set row at cell) = refl
layer_is scope (expr.Fill index cell) = refl
layer_is scope (expr.Slice word high low) = refl
layer_is scope (expr.Widen word wider) = refl
layer_is scope (expr.Join first second) = refl

pub widths_is : (scope : Scope) (e : Expr) → widths_fit scope e ≡ width_layer scope (out-Expr e)
unfolding with_fit
widths_is scope e =
    ap (widths_fit scope) (sym (roll-out-Expr e)) ∙ para-roll-Expr Bool (width_step scope) (out-Expr e) ∙ layer_is scope (out-Expr e)

-- what is found of an expression is its sort and whether its widths fit
abbrev found : Scope → Expr → Judged
found scope e = record { sort = sort_of scope e; fits = widths_fit scope e }

abbrev IsFound : Scope → Expr → Type 0
IsFound scope e = judge scope e ≡ found scope e

abbrev found_layer : Scope → expr.Expr-F Expr → Judged
found_layer scope layer = record { sort = sort_step scope (map-Expr Expr (Option Sort) (sort_of scope) layer); fits = width_layer scope layer }

layer_found : {S : Type 0} (scope : Scope) (layer : expr.Expr-F S) (v : S → Expr) → ((s : S) → IsFound scope (v s)) → judge_step scope (map-Expr Expr Judged (judge scope) (map-Expr S Expr v layer)) ≡ found_layer scope (map-Expr S Expr v layer)
layer_found scope (expr.Name name) v h = refl
layer_found scope (expr.Literal value width) v h = refl
layer_found scope expr.True v h = refl
layer_found scope expr.False v h = refl
layer_found scope expr.Done v h = refl
layer_found scope (expr.Old name) v h = refl
layer_found scope expr.OldDone v h = refl
layer_found scope (expr.One op a) v h = rw (h a) refl
layer_found scope (expr.Two op a b) v h = rw (h a, h b) refl
layer_found scope (expr.Pick a b c) v h = rw (h a, h b, h c) refl
layer_found scope (expr.Get a b) v h = rw (h a, h b) refl
layer_found scope (expr.Set a b c) v h = rw (h a, h b, h c) refl
layer_found scope (expr.Fill index a) v h = rw (h a) refl
layer_found scope (expr.Slice a high low) v h = rw (h a) refl
layer_found scope (expr.Widen a wider) v h = rw (h a) refl
layer_found scope (expr.Join a b) v h = rw (h a, h b) refl

pub judge_is : (scope : Scope) (e : Expr) → judge scope e ≡ found scope e
judge_is scope e =
    ind-Expr (IsFound scope) (λ x y q.
    let here = subst (λ (layer : expr.Expr-F Expr). judge_step scope (map-Expr Expr Judged (judge scope) layer) ≡ found_layer scope layer) q (layer_found scope y (λ z. z.0) (λ z. z.1)) in
    let sorted : sort_of scope (roll-Expr x) ≡ sort_step scope (map-Expr Expr (Option Sort) (sort_of scope) x) = fold-roll-Expr (Option Sort) (sort_step scope) x in
    let fitting : widths_fit scope (roll-Expr x) ≡ width_layer scope x = widths_is scope (roll-Expr x) ∙ ap (width_layer scope) (out-roll-Expr x) in
    fold-roll-Expr Judged (judge_step scope) x ∙ here ∙ sym (ap (λ (s : Option Sort). record { sort = s; fits = widths_fit scope (roll-Expr x) }) sorted ∙ ap (λ (b : Bool). record { sort = sort_step scope (map-Expr Expr (Option Sort) (sort_of scope) x); fits = b }) fitting)) e
