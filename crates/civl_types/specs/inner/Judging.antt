-- Serves private functions: the sort of an expression and whether its widths fit, found together.
use Rattle.std.specs.Prelude.{ℕ, true, ◌&&◌, Some}
use Rattle.civl_tree.specs.declared.expr.Sort.TheVariants.{Bool as Truth, Word}
use Rattle.civl_tree.specs.declared.expr.One.{One}
use Rattle.civl_tree.specs.declared.expr.Two.{Two}
use Rattle.civl_tree.specs.declared.expr.Expr.{Expr}
use Rattle.civl_tree.specs.declared.expr.Expr.TheOpen as expr
use Rattle.civl_tree.specs.declared.expr.Expr.TheFolds.{fold-Expr}
use Rattle.civl_tree.specs.rules.Scopes.{Scope, sort_in}
use Rattle.civl_tree.specs.rules.Sorts.{one_sort, two_sort, pick_sort, get_sort, set_sort, fill_sort, slice_sort, widen_sort, join_sort}
use Rattle.civl_tree.specs.rules.Exprs.{literal_fits, slice_in_range, widen_in_range, join_in_range}
use Rattle.civl_types.specs.declared.exprs.Judged.{Judged}

abbrev pub judge_one : One → Judged → Judged
judge_one op part = record { sort = one_sort op part.sort; fits = part.fits }

abbrev pub judge_two : Two → Judged → Judged → Judged
judge_two op first second = record { sort = two_sort op first.sort second.sort; fits = first.fits && second.fits }

abbrev pub judge_pick : Judged → Judged → Judged → Judged
judge_pick test first second = record { sort = pick_sort test.sort first.sort second.sort; fits = test.fits && (first.fits && second.fits) }

abbrev pub judge_get : Judged → Judged → Judged
judge_get row at = record { sort = get_sort row.sort at.sort; fits = row.fits && at.fits }

abbrev pub judge_set : Judged → Judged → Judged → Judged
judge_set row at cell = record { sort = set_sort row.sort at.sort cell.sort; fits = row.fits && (at.fits && cell.fits) }

abbrev pub judge_fill : ℕ → Judged → Judged
judge_fill index cell = record { sort = fill_sort index cell.sort; fits = cell.fits }

abbrev pub judge_slice : Judged → ℕ → ℕ → Judged
judge_slice word high low = record { sort = slice_sort word.sort high low; fits = word.fits && slice_in_range word.sort high low }

abbrev pub judge_widen : Judged → ℕ → Judged
judge_widen word wider = record { sort = widen_sort word.sort wider; fits = word.fits && widen_in_range word.sort wider }

abbrev pub judge_join : Judged → Judged → Judged
judge_join first second = record { sort = join_sort first.sort second.sort; fits = first.fits && (second.fits && join_in_range first.sort second.sort) }

-- one layer of an expression, with what is found of each part in its place
abbrev pub judge_step : Scope → expr.Expr-F Judged → Judged
judge_step scope (expr.Name name) = record { sort = sort_in scope.names name; fits = true }
judge_step scope (expr.Literal value width) = record { sort = Some (Word width); fits = literal_fits value width }
judge_step scope expr.True = record { sort = Some Truth; fits = true }
judge_step scope expr.False = record { sort = Some Truth; fits = true }
judge_step scope expr.Done = record { sort = Some Truth; fits = true }
judge_step scope (expr.Old name) = record { sort = sort_in scope.olds name; fits = true }
judge_step scope expr.OldDone = record { sort = Some Truth; fits = true }
judge_step scope (expr.One op part) = judge_one op part
judge_step scope (expr.Two op first second) = judge_two op first second
judge_step scope (expr.Pick test first second) = judge_pick test first second
judge_step scope (expr.Get row at) = judge_get row at
judge_step scope (expr.Set row at cell) = judge_set row at cell
judge_step scope (expr.Fill index cell) = judge_fill index cell
judge_step scope (expr.Slice word high low) = judge_slice word high low
judge_step scope (expr.Widen word wider) = judge_widen word wider
judge_step scope (expr.Join first second) = judge_join first second

abbrev pub judge : Scope → Expr → Judged
judge scope = fold-Expr Judged (judge_step scope)
