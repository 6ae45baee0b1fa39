-- For private functions alone: what stands at a place, without its number. The place then counts from where the statements
-- begin.
use Rattle.std.specs.Prelude.{ℕ, List, Option, None, Some}
use Rattle.civl_tree.specs.declared.stmt.Stmt.{Stmt}
use Rattle.civl_meaning.specs.Places.{Spot, first_in, spot_among, inside_of}

-- the statement of a spot
abbrev pub stmt_of : Option Spot → Option Stmt
stmt_of None = None
stmt_of (Some s) = Some s.stmt

-- a statement as a spot
abbrev pub alone : Option Stmt → Option Spot
alone None = None
alone (Some s) = Some (record { number = 0; stmt = s; next = 0 })

-- the first statement of a plain program among these, or what comes after them
unfoldable pub first_left : List Stmt → Option Stmt → Option Stmt
first_left ss after = stmt_of (first_in ss 0 0 (alone after))

-- what stands among these statements, so many places behind where they begin
unfoldable pub among_left : List Stmt → Option Stmt → ℕ → Option Stmt
among_left ss after left = stmt_of (spot_among ss 0 0 (alone after) left)

-- what stands inside a statement, so many places behind it
unfoldable pub inside_left : Stmt → Option Stmt → ℕ → Option Stmt
inside_left s after left = stmt_of (inside_of s s 0 0 (alone after) left)
