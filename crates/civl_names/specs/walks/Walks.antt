-- Statements in text order, each with its number, and with what is known of it.
use Rattle.std.specs.Prelude.{ℕ, ◌+◌, Bool, List, [], ◌∷◌, ◌++◌, if◌then◌else◌}
use Rattle.civl_tree.specs.declared.stmt.Stmt.{Stmt}

-- the numbers of the statements that break a rule, where the first has this number; each stands with a note, which says
-- what is known of it
unfoldable pub numbers_with : {A : Type 0} → (Stmt → A → Bool) → ℕ → List Stmt → List A → List ℕ
numbers_with breaks number [] notes = []
numbers_with breaks number (stmt ∷ stmts) [] = []
numbers_with breaks number (stmt ∷ stmts) (note ∷ notes) = (if breaks stmt note then number ∷ [] else []) ++ numbers_with breaks (number + 1) stmts notes
