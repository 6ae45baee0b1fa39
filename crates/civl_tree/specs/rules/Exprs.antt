-- Part of the claim: docs/CLAIM.md.
-- What the static rules ask of one expression beside its sort: that its names are in scope, and that widths, literals
-- and indices are in range.
use Rattle.std.specs.Prelude.{ℕ, ◌≡◌, ◌^◌, Bool, true, false, ◌&&◌, nat_lt, nat_le, Option, None, Some, is_some, IsTrue, if◌then◌else◌}
use Rattle.civl_tree.specs.declared.expr.Sort.{Sort}
use Rattle.civl_tree.specs.declared.expr.Sort.TheVariants.{Bool as Truth, Word, Row}
use Rattle.civl_tree.specs.declared.expr.Expr.{Expr}
use Rattle.civl_tree.specs.declared.expr.Expr.TheOpen as expr
use Rattle.civl_tree.specs.declared.expr.Expr.TheFolds.{fold-Expr, para-Expr}
use Rattle.civl_tree.specs.rules.Scopes.{Scope, sort_in}
use Rattle.civl_tree.specs.rules.Sorts.{sort_of, slice_fits, widen_fits, join_fits}

-- ---- names

-- one layer of an expression: whether its own name is in scope, and those of its parts are
abbrev pub known_step : Scope → expr.Expr-F Bool → Bool
known_step scope (expr.Name name) = is_some (sort_in scope.names name)
known_step scope (expr.Literal value width) = true
known_step scope expr.True = true
known_step scope expr.False = true
known_step scope expr.Done = true
known_step scope (expr.Old name) = is_some (sort_in scope.olds name)
known_step scope expr.OldDone = true
known_step scope (expr.One op part) = part
known_step scope (expr.Two op first second) = first && second
known_step scope (expr.Pick test first second) = test && (first && second)
known_step scope (expr.Get row at) = row && at
known_step scope (expr.Set row at cell) = row && (at && cell)
known_step scope (expr.Fill index cell) = cell
known_step scope (expr.Slice word high low) = word
known_step scope (expr.Widen word wider) = word
known_step scope (expr.Join first second) = first && second

-- all names of an expression are in scope
abbrev pub names_known : Scope → Expr → Bool
names_known scope = fold-Expr Bool (known_step scope)

-- ---- widths

-- the width of a word or a cell
abbrev pub is_width : ℕ → Bool
is_width width = nat_le 1 width && nat_le width 32

-- `value:width` is a word
abbrev pub literal_fits : ℕ → ℕ → Bool
literal_fits value width = if is_width width then nat_lt value (2 ^ width) else false

-- a slice of a word keeps its range; a slice of anything else is no fault of range
abbrev pub slice_in_range : Option Sort → ℕ → ℕ → Bool
slice_in_range None high low = true
slice_in_range (Some Truth) high low = true
slice_in_range (Some (Word width)) high low = slice_fits width high low
slice_in_range (Some (Row index width)) high low = true

abbrev pub widen_in_range : Option Sort → ℕ → Bool
widen_in_range None wider = true
widen_in_range (Some Truth) wider = true
widen_in_range (Some (Word width)) wider = widen_fits width wider
widen_in_range (Some (Row index width)) wider = true

-- the same of a word of this width before another part
abbrev pub joined_in_range : ℕ → Option Sort → Bool
joined_in_range width None = true
joined_in_range width (Some Truth) = true
joined_in_range width (Some (Word other)) = join_fits width other
joined_in_range width (Some (Row index other)) = true

abbrev pub join_in_range : Option Sort → Option Sort → Bool
join_in_range None second = true
join_in_range (Some Truth) second = true
join_in_range (Some (Word width)) second = joined_in_range width second
join_in_range (Some (Row index width)) second = true

-- one layer of an expression, where each part stands with whether its widths fit
abbrev pub width_step : Scope → expr.Expr-F (Expr × Bool) → Bool
width_step scope (expr.Name name) = true
width_step scope (expr.Literal value width) = literal_fits value width
width_step scope expr.True = true
width_step scope expr.False = true
width_step scope expr.Done = true
width_step scope (expr.Old name) = true
width_step scope expr.OldDone = true
width_step scope (expr.One op part) = part.1
width_step scope (expr.Two op first second) = first.1 && second.1
width_step scope (expr.Pick test first second) = test.1 && (first.1 && second.1)
width_step scope (expr.Get row at) = row.1 && at.1
width_step scope (expr.Set row at cell) = row.1 && (at.1 && cell.1)
width_step scope (expr.Fill index cell) = cell.1
width_step scope (expr.Slice word high low) = word.1 && slice_in_range (sort_of scope word.0) high low
width_step scope (expr.Widen word wider) = word.1 && widen_in_range (sort_of scope word.0) wider
width_step scope (expr.Join first second) = first.1 && (second.1 && join_in_range (sort_of scope first.0) (sort_of scope second.0))

-- each literal of an expression fits its width, which is 1 to 32, and each `slice`, `widen` and `join` of words keeps
-- its range
abbrev pub widths_fit : Scope → Expr → Bool
widths_fit scope = para-Expr Bool (width_step scope)

-- ---- indices

-- the bits of a row's index
abbrev pub is_index : ℕ → Bool
is_index index = nat_le 1 index && nat_le index 6

-- one layer of an expression: whether its own index is in range, and those of its parts are
abbrev pub index_step : expr.Expr-F Bool → Bool
index_step (expr.Name name) = true
index_step (expr.Literal value width) = true
index_step expr.True = true
index_step expr.False = true
index_step expr.Done = true
index_step (expr.Old name) = true
index_step expr.OldDone = true
index_step (expr.One op part) = part
index_step (expr.Two op first second) = first && second
index_step (expr.Pick test first second) = test && (first && second)
index_step (expr.Get row at) = row && at
index_step (expr.Set row at cell) = row && (at && cell)
index_step (expr.Fill index cell) = is_index index && cell
index_step (expr.Slice word high low) = word
index_step (expr.Widen word wider) = word
index_step (expr.Join first second) = first && second

-- each `fill` of an expression makes a row of 1 to 6 index bits
abbrev pub indices_fit : Expr → Bool
indices_fit = fold-Expr Bool index_step

-- ---- an expression that has a value

-- in this scope the expression has this sort, and all its words and rows are in range
abbrev pub IsOfSort : Scope → Expr → Sort → Type 0
IsOfSort scope expression sort = (sort_of scope expression ≡ Some sort) × IsTrue (widths_fit scope expression) × IsTrue (indices_fit expression)
