-- One layer of the definitions that read a part of a tree beside what they say of it.
use Rattle.std.proofs.Common.{◌≡◌, Bool, true, ◌&&◌, List, [], ◌∷◌, ◌++◌, map, refl, sym, ap, ◌∙◌}
use Rattle.std.specs.List.{flat_map}
use Rattle.civl_tree.specs.declared.expr.Expr.{Expr, out-Expr, roll-out-Expr, map-Expr, the_lemmas as of_expr}
use Rattle.civl_tree.specs.declared.expr.Expr.TheOpen as expr
use Rattle.civl_tree.specs.declared.expr.Expr.TheFolds.{para-roll-Expr}
use Rattle.civl_tree.specs.declared.stmt.Stmt.{Stmt, out-Stmt, roll-out-Stmt, map-Stmt, the_lemmas as of_stmt}
use Rattle.civl_tree.specs.declared.stmt.Stmt.TheOpen.{Stmt-F, If, While, YieldLoop, RankLoop}
use Rattle.civl_tree.specs.declared.stmt.Stmt.TheFolds.{para-roll-Stmt}
use Rattle.civl_tree.specs.Numbering.{with_inner, inner_step, inner_of, statements_of}
use Rattle.civl_tree.specs.rules.Scopes.{Scope}
use Rattle.civl_tree.specs.rules.Sorts.{sort_of}
use Rattle.civl_tree.specs.rules.Exprs.{literal_fits, slice_in_range, widen_in_range, join_in_range, width_step, widths_fit}

-- ---- the statements in a statement

pub inner_all : (stmts : List Stmt) → flat_map with_inner (map (λ s. (s, inner_of s)) stmts) ≡ statements_of stmts
inner_all [] = refl
inner_all (stmt ∷ stmts) = ap (λ (rest : List Stmt). (stmt ∷ inner_of stmt) ++ rest) (inner_all stmts)

abbrev pub inner_layer : Stmt-F Stmt → List Stmt
inner_layer (If test first second) = statements_of first ++ statements_of second
inner_layer (While test body) = statements_of body
inner_layer (YieldLoop test inv body) = statements_of body
inner_layer (RankLoop test rank inv body) = statements_of body
inner_layer _ = []

inner_step_is : (layer : Stmt-F Stmt) → inner_step (map-Stmt Stmt (Stmt × List Stmt) (λ s. (s, inner_of s)) layer) ≡ inner_layer layer
inner_step_is (If test first second) = ap (λ (l : List Stmt). l ++ flat_map with_inner (map (λ s. (s, inner_of s)) second)) (inner_all first) ∙ ap (λ (l : List Stmt). statements_of first ++ l) (inner_all second)
inner_step_is (While test body) = inner_all body
inner_step_is (YieldLoop test inv body) = inner_all body
inner_step_is (RankLoop test rank inv body) = inner_all body
inner_step_is _ = refl

pub inner_is : (stmt : Stmt) → inner_of stmt ≡ inner_layer (out-Stmt stmt)
inner_is stmt =
    let e : inner_of stmt ≡ inner_step (map-Stmt Stmt (Stmt × List Stmt) (λ s. (s, inner_of s)) (out-Stmt stmt)) = ap inner_of (sym (roll-out-Stmt stmt)) ∙ para-roll-Stmt (List Stmt) inner_step (out-Stmt stmt) in
    e ∙ inner_step_is (out-Stmt stmt)

-- ---- whether the widths of an expression fit

abbrev pub width_layer : Scope → expr.Expr-F Expr → Bool
width_layer scope (expr.Literal value width) = literal_fits value width
width_layer scope (expr.One op part) = widths_fit scope part
width_layer scope (expr.Two op first second) = widths_fit scope first && widths_fit scope second
width_layer scope (expr.Pick test first second) = widths_fit scope test && (widths_fit scope first && widths_fit scope second)
width_layer scope (expr.Get row at) = widths_fit scope row && widths_fit scope at
width_layer scope (expr.Set row at cell) = widths_fit scope row && (widths_fit scope at && widths_fit scope cell)
width_layer scope (expr.Fill index cell) = widths_fit scope cell
width_layer scope (expr.Slice word high low) = widths_fit scope word && slice_in_range (sort_of scope word) high low
width_layer scope (expr.Widen word wider) = widths_fit scope word && widen_in_range (sort_of scope word) wider
width_layer scope (expr.Join first second) = widths_fit scope first && (widths_fit scope second && join_in_range (sort_of scope first) (sort_of scope second))
width_layer scope _ = true

width_step_is : (scope : Scope) (layer : expr.Expr-F Expr) → width_step scope (map-Expr Expr (Expr × Bool) (λ e. (e, widths_fit scope e)) layer) ≡ width_layer scope layer
width_step_is scope (expr.Literal value width) = refl
width_step_is scope (expr.One op part) = refl
width_step_is scope (expr.Two op first second) = refl
width_step_is scope (expr.Pick test first second) = refl
width_step_is scope (expr.Get row at) = refl
width_step_is scope (expr.Set row at cell) = refl
width_step_is scope (expr.Fill index cell) = refl
width_step_is scope (expr.Slice word high low) = refl
width_step_is scope (expr.Widen word wider) = refl
width_step_is scope (expr.Join first second) = refl
width_step_is scope _ = refl

pub widths_is : (scope : Scope) (expr : Expr) → widths_fit scope expr ≡ width_layer scope (out-Expr expr)
widths_is scope expr =
    let e : widths_fit scope expr ≡ width_step scope (map-Expr Expr (Expr × Bool) (λ e. (e, widths_fit scope e)) (out-Expr expr)) = ap (widths_fit scope) (sym (roll-out-Expr expr)) ∙ para-roll-Expr Bool (width_step scope) (out-Expr expr) in
    e ∙ width_step_is scope (out-Expr expr)

pub ruleset layers = (inner_is, widths_is, of_expr, of_stmt)
