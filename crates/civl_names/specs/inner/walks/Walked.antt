-- Serves private functions: what comes of going over statements in text order.
use Rattle.std.specs.Prelude.{ℕ, ◌≡◌, ◌+◌, Bool, List, [], length, Some}
use Rattle.civl_tree.specs.declared.stmt.Stmt.{Stmt}
use Rattle.civl_tree.specs.rules.Rules.{numbers_where, first_of}
use Rattle.civl_names.specs.declared.walks.walk.Walk.{Walk}
use Rattle.civl_names.specs.declared.walks.walk.Walk.TheVariants.{Broken, Next}

-- over all statements of a text, in text order, where the first has this number: the number of the first that doesn't
-- pass; or none does so, and the number behind them
abbrev pub IsWalked : (Stmt → Bool) → ℕ → List Stmt → Walk → Type 0
IsWalked breaks number stmts (Broken found) = first_of (numbers_where breaks number stmts) ≡ Some found
IsWalked breaks number stmts (Next next) = (numbers_where breaks number stmts ≡ []) × (next ≡ number + length stmts)
