-- The statements that are still to run from a place of a body on, with their numbers. Those that a plain program hasn't
-- are among them, and are passed over.
use Rattle.std.specs.Prelude.{ℕ, ◌+◌, ◌≡◌, nat_lt, nat_eq, if◌then◌else◌, Option, None, Some, List, [], ◌∷◌, ◌++◌, map}
use Rattle.civl_tree.specs.declared.stmt.Stmt.{Stmt}
use Rattle.civl_tree.specs.declared.stmt.Stmt.TheOpen.{Stmt-F, If, While, YieldLoop, RankLoop}
use Rattle.civl_tree.specs.declared.stmt.Stmt.TheFolds.{para-Stmt}
use Rattle.civl_tree.specs.Numbering.{size_of, sizes_of, numbered}
use Rattle.civl_meaning.specs.Places.{Spot, is_skipped, spot_at}

-- statements with their numbers
abbrev pub Rest : Type 0
Rest = List (ℕ × Stmt)

-- what is still to run from a place inside a statement: the statement, its number, what comes behind it, the place
abbrev pub Inner : Type 0
Inner = Stmt → ℕ → Rest → ℕ → Rest

abbrev pub firsts : List (Stmt × Inner) → List Stmt
firsts ps = map (λ p. p.0) ps

-- from a place among statements that are numbered from `at`
abbrev pub rest_in : List (Stmt × Inner) → ℕ → Rest → ℕ → Rest
rest_in [] at k wanted = k
rest_in (p ∷ ps) at k wanted =
    if nat_lt wanted (at + size_of p.0)
    then (if nat_eq wanted at
    then numbered at (p.0 ∷ firsts ps) ++ k
    else p.1 p.0 at (numbered (at + size_of p.0) (firsts ps) ++ k) wanted)
    else rest_in ps (at + size_of p.0) k wanted

-- behind a loop's body the loop comes again
abbrev pub rest_step : Stmt-F (Stmt × Inner) → Inner
rest_step (If e a b) s at k wanted =
    if nat_lt wanted (at + 1 + sizes_of (firsts a)) then rest_in a (at + 1) k wanted
    else rest_in b (at + 1 + sizes_of (firsts a)) k wanted
rest_step (While e a) s at k wanted = rest_in a (at + 1) ((at, s) ∷ k) wanted
rest_step (YieldLoop e i a) s at k wanted = rest_in a (at + 1) ((at, s) ∷ k) wanted
rest_step (RankLoop e r i a) s at k wanted = rest_in a (at + 1) ((at, s) ∷ k) wanted
rest_step _ s at k wanted = k

unfoldable pub rest_inside : Stmt → Inner
rest_inside = para-Stmt Inner rest_step

unfoldable pub with_rest : Stmt → Stmt × Inner
unfolding rest_inside
with_rest s = (s, rest_inside s)

unfoldable pub rest_among : List Stmt → ℕ → Rest → ℕ → Rest
unfolding with_rest
rest_among ss at k wanted = rest_in (map with_rest ss) at k wanted

-- from a place of a body on
abbrev pub rest_at : List Stmt → ℕ → Rest
rest_at body wanted = rest_among body 0 [] wanted

-- the place at which a rest begins, `end` being the exit
abbrev pub place_in : ℕ → Rest → ℕ
place_in end [] = end
place_in end (q ∷ k) = q.0

-- the first statement of a plain program in a rest
abbrev pub head_of : ℕ → Rest → Option Spot
head_of end [] = None
head_of end (q ∷ k) = if is_skipped q.1 then head_of end k else Some (record { number = q.0; stmt = q.1; next = place_in end k })

-- what stands at a place is the first of what is still to run from it
abbrev pub SpotOfRest : Type 0
SpotOfRest = (body : List Stmt) (wanted : ℕ) → spot_at body wanted ≡ head_of (sizes_of body) (rest_at body wanted)
