-- The statement with a number, in a list of all statements.
use Rattle.std.specs.Prelude.{ℕ, zero, suc, List, [], ◌∷◌}
use Rattle.civl_tree.specs.declared.stmt.Stmt.{Stmt}
use Rattle.civl_places.specs.declared.search.Search.{Search}
use Rattle.civl_places.specs.declared.search.Search.TheVariants as search

-- a statement, or what is left of its number
pub data Searched : Type 0 where
  Here : Stmt → Searched
  Past : ℕ → Searched

-- the statement at this place, or what is left of the number behind all
abbrev pub searched : List Stmt → ℕ → Searched
searched [] number = Past number
searched (stmt ∷ stmts) zero = Here stmt
searched (stmt ∷ stmts) (suc number) = searched stmts number

-- the same of two searches, the second where the first comes to no end
abbrev pub search_on : Searched → List Stmt → Searched
search_on (Here stmt) stmts = Here stmt
search_on (Past number) stmts = searched stmts number

-- what code comes to
abbrev pub told : Search → Searched
told (search.Found stmt) = Here stmt.now
told (search.Left number) = Past number
