-- Serves private functions: names in scope, and expressions, without sorts.
use Rattle.std.specs.Prelude.{Bool, true, not, ◌&&◌, List, ◌++◌}
use Rattle.std.specs.List.{list_any}
use Rattle.civl_tree.specs.declared.name.Name.{Name}
use Rattle.civl_tree.specs.declared.expr.Expr.{Expr}
use Rattle.civl_tree.specs.declared.expr.Expr.TheOpen as expr
use Rattle.civl_tree.specs.declared.expr.Expr.TheFolds.{fold-Expr}
use Rattle.civl_tree.specs.rules.Names.{has_name}
use Rattle.civl_names.specs.inner.NameSets.{names_in}
use Rattle.civl_names.specs.declared.known.Scope.{Scope}
use Rattle.civl_names.specs.declared.known.Scope.TheVariants.{Globals, Body, Note}

-- the names that an expression may use
abbrev pub names_of : Scope → List Name
names_of (Globals globals) = names_in globals.now
names_of (Body globals own) = names_in own.now.names
names_of (Note globals own) = names_in globals.now ++ names_in own.now.names

-- those that may stand in `old(name)`
abbrev pub olds_of : Scope → List Name
olds_of (Globals globals) = names_in globals.now
olds_of (Body globals own) = names_in globals.now ++ names_in own.now.outs
olds_of (Note globals own) = names_in globals.now ++ names_in own.now.outs

-- one layer of an expression: whether its own name is one of these, and those of its parts are
abbrev pub known_step : List Name → List Name → expr.Expr-F Bool → Bool
known_step names olds (expr.Name name) = has_name names name
known_step names olds (expr.Literal value width) = true
known_step names olds expr.True = true
known_step names olds expr.False = true
known_step names olds expr.Done = true
known_step names olds (expr.Old name) = has_name olds name
known_step names olds expr.OldDone = true
known_step names olds (expr.One op part) = part
known_step names olds (expr.Two op first second) = first && second
known_step names olds (expr.Pick test first second) = test && (first && second)
known_step names olds (expr.Get row at) = row && at
known_step names olds (expr.Set row at cell) = row && (at && cell)
known_step names olds (expr.Fill index cell) = cell
known_step names olds (expr.Slice word high low) = word
known_step names olds (expr.Widen word wider) = word
known_step names olds (expr.Join first second) = first && second

-- all names of an expression are among `names`, and those in `old(name)` among `olds`
abbrev pub all_known : List Name → List Name → Expr → Bool
all_known names olds = fold-Expr Bool (known_step names olds)

-- one of these expressions has others
abbrev pub any_strange : List Name → List Name → List Expr → Bool
any_strange names olds exprs = list_any (λ expression. not (all_known names olds expression)) exprs
