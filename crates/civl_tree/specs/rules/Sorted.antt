-- E21, Sort: an expression or a result that hasn't the sort which its place needs.
use Rattle.std.specs.Prelude.{Bool, false, not, ◌||◌, List, [], ◌∷◌}
use Rattle.std.specs.List.{list_any}
use Rattle.civl_tree.specs.declared.name.Name.{Name}
use Rattle.civl_tree.specs.declared.expr.Sort.{Sort}
use Rattle.civl_tree.specs.declared.stmt.Stmt.{Stmt, out-Stmt}
use Rattle.civl_tree.specs.declared.stmt.Stmt.TheOpen.{Stmt-F, Call}
use Rattle.civl_tree.specs.declared.program.Proc.{Proc}
use Rattle.civl_tree.specs.declared.program.Program.{Program}
use Rattle.civl_tree.specs.rules.Names.{callee_signature}
use Rattle.civl_tree.specs.rules.Sorts.{sort_of}
use Rattle.civl_tree.specs.rules.Uses.{Use, Only, serves, place_sort, given_sorts, stmt_uses}

-- one of these expressions hasn't the sort that its place needs
abbrev pub any_missorted : List Use → Bool
any_missorted uses = list_any (λ use_of. not (serves (sort_of use_of.scope use_of.expression) use_of.need)) uses

-- a result hasn't the sort of the output in its place, where there is one
abbrev pub results_missorted : Proc → List Name → List Sort → Bool
results_missorted proc [] outs = false
results_missorted proc (result ∷ results) [] = false
results_missorted proc (result ∷ results) (out ∷ outs) = not (serves (place_sort proc result) (Only out)) || results_missorted proc results outs

abbrev pub form_missorted : Program → Proc → Stmt-F Stmt → Bool
form_missorted program proc (Call callee args results) = results_missorted proc results (given_sorts (callee_signature program callee))
form_missorted program proc _ = false

abbrev pub stmt_missorted : Program → Proc → Stmt → Bool
stmt_missorted program proc stmt = any_missorted (stmt_uses program proc stmt) || form_missorted program proc (out-Stmt stmt)
