-- What the code finds at a place, as a spot; `places_of` cites it.
use Rattle.std.specs.Prelude.{ℕ, ◌≡◌, Option, None, Some, ◌+◌, ◌^◌, ◌<◌, ⊤}
use Rattle.civl_tree.specs.declared.stmt.Stmt.{Stmt, out-Stmt}
use Rattle.civl_tree.specs.declared.stmt.Stmt.TheOpen.{Stmt-F, If}
use Rattle.civl_meaning.specs.declared.found.Found.{Found}
use Rattle.civl_meaning.specs.Places.{Spot}
use Rattle.civl_tree.specs.Numbering.{size_of, sizes_of}

abbrev pub spot : Option Found → Option Spot
spot None = None
spot (Some f) = Some (record { number = f.number; stmt = f.stmt.now; next = f.next })

-- where the second branch of an `if` with this number begins; of other statements nothing is said
abbrev pub IsSecond : ℕ → ℕ → Stmt-F Stmt → Type 0
IsSecond second at (If e a b) = second ≡ at + 1 + sizes_of a
IsSecond second at _ = ⊤

-- the places inside what is found are numbers, and its second branch begins there
abbrev pub Fits : Option Found → Type 0
Fits None = ⊤
Fits (Some f) = (f.number + size_of f.stmt.now < 2 ^ 64) × IsSecond f.second f.number (out-Stmt f.stmt.now)
