-- Serves private functions: expressions that say something of a place, judged in one walk.
use Rattle.std.specs.Prelude.{Option, None, Some, if◌then◌else◌}
use Rattle.civl_tree.specs.declared.expr.Sort.{Sort}
use Rattle.civl_tree.specs.declared.expr.Sort.TheVariants.{Bool as Truth, Word}
use Rattle.civl_tree.specs.declared.expr.Expr.{Expr}
use Rattle.civl_tree.specs.declared.expr.Expr.TheOpen as expr
use Rattle.civl_tree.specs.declared.expr.Expr.TheFolds.{fold-Expr}
use Rattle.civl_tree.specs.rules.Scopes.{Scope, sort_in}
use Rattle.civl_tree.specs.rules.Sorts.{one_sort, two_sort, pick_sort, get_sort, set_sort, fill_sort, slice_sort, widen_sort, join_sort}
use Rattle.civl_tree.specs.rules.Exprs.{literal_fits, is_index}
use Rattle.civl_goals.specs.declared.sayings.Place.{Place}
use Rattle.civl_goals.specs.declared.sayings.Place.TheVariants.{Hold, Note}
use Rattle.civl_goals.specs.Rules.{hold_scope, outline_scope}

-- the scope at a place
abbrev pub scope_of : Place → Scope
scope_of (Hold program) = hold_scope program.now
scope_of (Note program proc) = outline_scope program.now proc.now

-- one layer of an expression, with the sort of each part in its place
abbrev pub fitting_step : Scope → expr.Expr-F (Option Sort) → Option Sort
fitting_step scope (expr.Name name) = sort_in scope.names name
fitting_step scope (expr.Literal value width) = if literal_fits value width then Some (Word width) else None
fitting_step scope expr.True = Some Truth
fitting_step scope expr.False = Some Truth
fitting_step scope expr.Done = None
fitting_step scope (expr.Old name) = None
fitting_step scope expr.OldDone = None
fitting_step scope (expr.One op part) = one_sort op part
fitting_step scope (expr.Two op first second) = two_sort op first second
fitting_step scope (expr.Pick test first second) = pick_sort test first second
fitting_step scope (expr.Get row at) = get_sort row at
fitting_step scope (expr.Set row at cell) = set_sort row at cell
fitting_step scope (expr.Fill index cell) = if is_index index then fill_sort index cell else None
fitting_step scope (expr.Slice word high low) = slice_sort word high low
fitting_step scope (expr.Widen word wider) = widen_sort word wider
fitting_step scope (expr.Join first second) = join_sort first second

-- the sort of an expression without `done` and `old(..)` in which all is known and in range
abbrev pub fitting_sort : Scope → Expr → Option Sort
fitting_sort scope = fold-Expr (Option Sort) (fitting_step scope)
