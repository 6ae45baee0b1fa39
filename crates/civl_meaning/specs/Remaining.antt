-- Statements with their numbers.
use Rattle.std.specs.Prelude.{ℕ, List, map}
use Rattle.civl_tree.specs.declared.stmt.Stmt.{Stmt}
use Rattle.civl_meaning.specs.Rest.{Rest}
use Rattle.civl_meaning.specs.declared.remaining.Numbered.{Numbered}

abbrev pub rest_of : List Numbered → Rest
rest_of items = map {B = ℕ × Stmt} (λ q. (q.number, q.stmt.now)) items
