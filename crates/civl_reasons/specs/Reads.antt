-- The names that an expression reads.
use Rattle.std.specs.Prelude.{Bool, true, false, not, ◌&&◌, if◌then◌else◌, List, [], ◌∷◌, ◌++◌}
use Rattle.std.specs.List.{filter}
use Rattle.civl_tree.specs.declared.name.Name.{Name}
use Rattle.civl_tree.specs.declared.expr.Expr.{Expr}
use Rattle.civl_tree.specs.declared.expr.Expr.TheFolds.{fold-Expr}
use Rattle.civl_tree.specs.declared.expr.Expr.TheOpen as expr
use Rattle.civl_tree.specs.rules.Names.{same_name}

-- a name as it is read: as `name`, or as `old(name)`
pub record ReadName : Type 0 where
  pub name : Name
  pub is_old : Bool

-- one layer of an expression, with what each part reads in its place
abbrev pub reads_step : expr.Expr-F (List ReadName) → List ReadName
reads_step (expr.Name name) = record { name = name; is_old = false } ∷ []
reads_step (expr.Old name) = record { name = name; is_old = true } ∷ []
reads_step (expr.One op a) = a
reads_step (expr.Two op a b) = a ++ b
reads_step (expr.Pick test a b) = test ++ (a ++ b)
reads_step (expr.Get row at) = row ++ at
reads_step (expr.Set row at cell) = row ++ (at ++ cell)
reads_step (expr.Fill index cell) = cell
reads_step (expr.Slice a high low) = a
reads_step (expr.Widen a width) = a
reads_step (expr.Join a b) = a ++ b
reads_step _ = []

-- each reading of a name, in the order of the text; `done` and `old(done)` are words and no names
abbrev pub reads_of : Expr → List ReadName
reads_of = fold-Expr (List ReadName) reads_step

abbrev pub same_bool : Bool → Bool → Bool
same_bool a b = if a then b else not b

-- whether two readings are of one name, and both of its old value or neither
abbrev pub same_read : ReadName → ReadName → Bool
same_read r s = same_name r.name s.name && same_bool r.is_old s.is_old

-- each once, where it stands first
abbrev pub each_once : List ReadName → List ReadName
each_once [] = []
each_once (r ∷ rs) = r ∷ filter (λ s. not (same_read r s)) (each_once rs)

-- the names that an expression reads, each once, in the order of the text; a name that is read both as `name` and as
-- `old(name)` is there in both ways
abbrev pub read_names : Expr → List ReadName
read_names e = each_once (reads_of e)
