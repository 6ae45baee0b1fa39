-- One layer of the parts of an expression.
use Rattle.std.proofs.Common.{◌≡◌, Bool, List, [], ◌++◌, Option, None, Some, refl, sym, ap, ◌∙◌}
use Rattle.std.specs.Prelude.{if◌then◌else◌}
use Rattle.std.specs.List.{find}
use Rattle.std.specs.Option.{option_or}
use Rattle.std.proofs.lemmas.List.Folds.{find-append}
use Rattle.civl_tree.specs.declared.expr.Expr.{Expr, out-Expr, roll-out-Expr, map-Expr, the_lemmas as of_expr}
use Rattle.civl_tree.specs.declared.expr.Expr.TheOpen as expr
use Rattle.civl_tree.specs.declared.expr.Expr.TheFolds.{para-roll-Expr}
use Rattle.civl_subjects.specs.Parts.{inner_step, inner_parts, parts_of, first_part}

abbrev pub inner_layer : expr.Expr-F Expr → List Expr
inner_layer (expr.One op part) = parts_of part
inner_layer (expr.Two op first second) = parts_of first ++ parts_of second
inner_layer (expr.Pick test first second) = parts_of test ++ (parts_of first ++ parts_of second)
inner_layer (expr.Get row at) = parts_of row ++ parts_of at
inner_layer (expr.Set row at cell) = parts_of row ++ (parts_of at ++ parts_of cell)
inner_layer (expr.Fill index cell) = parts_of cell
inner_layer (expr.Slice word high low) = parts_of word
inner_layer (expr.Widen word wider) = parts_of word
inner_layer (expr.Join first second) = parts_of first ++ parts_of second
inner_layer _ = []

inner_step_is : (layer : expr.Expr-F Expr) → inner_step (map-Expr Expr (Expr × List Expr) (λ e. (e, inner_parts e)) layer)
    ≡ inner_layer layer
inner_step_is (expr.One op part) = refl
inner_step_is (expr.Two op first second) = refl
inner_step_is (expr.Pick test first second) = refl
inner_step_is (expr.Get row at) = refl
inner_step_is (expr.Set row at cell) = refl
inner_step_is (expr.Fill index cell) = refl
inner_step_is (expr.Slice word high low) = refl
inner_step_is (expr.Widen word wider) = refl
inner_step_is (expr.Join first second) = refl
inner_step_is _ = refl

pub inner_is : (expr : Expr) → inner_parts expr ≡ inner_layer (out-Expr expr)
inner_is expr =
    let e : inner_parts expr ≡ inner_step (map-Expr Expr (Expr
    × List Expr) (λ e. (e, inner_parts e)) (out-Expr expr)) = ap inner_parts (sym (roll-out-Expr expr))
    ∙ para-roll-Expr (List Expr) inner_step (out-Expr expr) in
    e ∙ inner_step_is (out-Expr expr)

-- ---- the first part that passes a test

abbrev pub first_layer : (Expr → Bool) → expr.Expr-F Expr → Option Expr
first_layer test (expr.One op part) = first_part test part
first_layer test (expr.Two op first second) = option_or (first_part test first) (first_part test second)
first_layer test (expr.Pick condition first second) =
    option_or (first_part test condition) (option_or (first_part test first) (first_part test second))
first_layer test (expr.Get row at) = option_or (first_part test row) (first_part test at)
first_layer test (expr.Set row at cell) = option_or (first_part test row) (option_or (first_part test at) (first_part test cell))
first_layer test (expr.Fill index cell) = first_part test cell
first_layer test (expr.Slice word high low) = first_part test word
first_layer test (expr.Widen word wider) = first_part test word
first_layer test (expr.Join first second) = option_or (first_part test first) (first_part test second)
first_layer test _ = None

two_parts : (test : Expr → Bool) (first second : Expr) → find test (parts_of first
    ++ parts_of second) ≡ option_or (first_part test first) (first_part test second)
unfolding first_part
two_parts test first second = find-append test (parts_of first) (parts_of second)

three_parts : (test : Expr → Bool) (first second third : Expr)
    → find test (parts_of first ++ (parts_of second ++ parts_of third))
    ≡ option_or (first_part test first) (option_or (first_part test second) (first_part test third))
unfolding first_part
three_parts test first second third =
    find-append test (parts_of first) (parts_of second ++ parts_of third)
    ∙ ap (λ (o : Option Expr). option_or (find test (parts_of first)) o) (two_parts test second third)

layer_first : (test : Expr → Bool) (layer : expr.Expr-F Expr) → find test (inner_layer layer) ≡ first_layer test layer
unfolding first_part
layer_first test (expr.One op part) = refl
layer_first test (expr.Two op first second) = two_parts test first second
layer_first test (expr.Pick condition first second) = three_parts test condition first second
layer_first test (expr.Get row at) = two_parts test row at
layer_first test (expr.Set row at cell) = three_parts test row at cell
layer_first test (expr.Fill index cell) = refl
layer_first test (expr.Slice word high low) = refl
layer_first test (expr.Widen word wider) = refl
layer_first test (expr.Join first second) = two_parts test first second
layer_first test _ = refl

pub first_part_is : (test : Expr → Bool) (expr : Expr) → first_part test expr
    ≡ (if test expr then Some expr else first_layer test (out-Expr expr))
unfolding first_part
first_part_is test expr =
    ap (λ (o : Option Expr). if test expr then Some expr else o) (ap (find test) (inner_is expr) ∙ layer_first test (out-Expr expr))

pub ruleset inner = (first_part_is, of_expr)
