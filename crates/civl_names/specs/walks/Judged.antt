-- Each of the statements that stand beside notes is judged with its own note.
use Rattle.std.specs.Prelude.{ℕ, ◌≡◌, ◌↔◌, Bool, true, List, length, Some, slice_get, Contains}
use Rattle.civl_tree.specs.declared.stmt.Stmt.{Stmt}
use Rattle.civl_names.specs.walks.Walks.{numbers_with}

-- where there are as many notes as statements, the statement at a place has the note at that place, and its number is
-- among those found exactly where the two break the rule
abbrev pub EachIsJudged : Type 0 → Type 0
EachIsJudged A =
    (breaks : Stmt → A → Bool) (stmts : List Stmt) (notes : List A) → length notes ≡ length stmts → (place : ℕ) (stmt : Stmt) → slice_get stmts place ≡ Some stmt
    → (note : A) × (slice_get notes place ≡ Some note) × ((breaks stmt note ≡ true) ↔ Contains (numbers_with breaks 0 stmts notes) place)
