-- The statements around a statement: the `if`s and the loops in which it stands. Statements are numbered in text order, each before those
-- in it, and so one stands in another just where its number is behind that of the other and before that of the statement behind this
-- (preorder: Knuth, The Art of Computer Programming, volume 1, section 2.3.2).
use Rattle.std.specs.Prelude.{ℕ, ◌+◌, Bool, ◌&&◌, nat_lt, if◌then◌else◌, List, [], ◌∷◌, ◌++◌}
use Rattle.civl_tree.specs.declared.stmt.Stmt.{Stmt, out-Stmt}
use Rattle.civl_tree.specs.declared.stmt.Stmt.TheOpen.{Stmt-F, If}
use Rattle.civl_tree.specs.Numbering.{next_number, second_number, statements_of}
use Rattle.civl_path_stories.specs.declared.around.Around.{Around}
use Rattle.civl_path_stories.specs.declared.around.Branch.{Branch}
use Rattle.civl_path_stories.specs.declared.around.Branch.TheVariants.{Body, First, Second}

-- whether the statement with the number `inner` stands in this one
abbrev pub stands_in : ℕ → ℕ → Stmt → Bool
stands_in inner number stmt = nat_lt number inner && nat_lt inner (next_number number stmt)

-- in which part of this one it stands, if in any
abbrev pub branch_of : ℕ → ℕ → Stmt-F Stmt → Branch
branch_of inner number (If test first second) = if nat_lt inner (second_number number first) then First else Second
branch_of inner number _ = Body

-- this statement, if it is around that one
abbrev pub around_at : ℕ → ℕ → Stmt → List Around
around_at inner number stmt =
    if stands_in inner number stmt
    then record { statement = number; branch = branch_of inner number (out-Stmt stmt) } ∷ []
    else []

-- those of these statements that are around it, where the first has this number
unfoldable pub around_among : ℕ → ℕ → List Stmt → List Around
around_among inner number [] = []
around_among inner number (stmt ∷ stmts) = around_at inner number stmt ++ around_among inner (number + 1) stmts

-- the statements around the one with this number in a body, from the outermost to the innermost
abbrev pub around : List Stmt → ℕ → List Around
around body inner = around_among inner 0 (statements_of body)
