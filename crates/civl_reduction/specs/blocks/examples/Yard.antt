-- Where a thread stands in the lowest program of a yard: with a right mover R, a left mover L, an atomic action A, one that moves
-- both ways, B, a procedure P of layer 1 with this body, one of layer 1 with no statements, Q, and a root M.
use Rattle.std.specs.Prelude.{ℕ, ◌≡◌, false, true, List, [], ◌∷◌, codes}
use Rattle.civl_tree.specs.declared.expr.Expr as expr
use Rattle.civl_tree.specs.declared.stmt.Stmt as stmt
use Rattle.civl_tree.specs.declared.stmt.Stmt.{Stmt}
use Rattle.civl_meaning.specs.declared.config.State.{State}
use Rattle.civl_meaning.specs.declared.config.State.TheVariants.{Before, Inside, After}
use Rattle.civl_meaning.specs.declared.config.Running.{Running}
use Rattle.civl_yields.specs.examples.Yard.{with_p, calls, pause, yield_loop, rank_loop}
use Rattle.civl_reduction.specs.interleavings.Reduction.{Place, Between, Early, Late}
use Rattle.civl_reduction.specs.blocks.Blocks.{inside}
use Rattle.civl_reduction.specs.blocks.Stands.{stands}

abbrev pub thread_in : State → Running
thread_in state = record { callee = 2; args = []; state = state }

-- in a frame of the procedure with this number, at this place
abbrev pub framed : ℕ → ℕ → Running
framed number place = thread_in (Inside [] (record { procedure = number; place = place; locals = [] }))

-- in P with this body, at this place
abbrev pub in_p : List Stmt → ℕ → Place
in_p body place = stands (with_p body) 0 (framed 0 place)

-- call R; call B; call L; commit; yield true; call A; call L;
abbrev pub straight : List Stmt
straight = calls (codes "R") ∷ calls (codes "B") ∷ calls (codes "L") ∷ stmt.Commit ∷ pause ∷ calls (codes "A") ∷ calls (codes "L") ∷ []

-- before R; behind R, where no right or atomic action is ahead in the block; before the commit and the yield; behind the yield;
-- behind A; and behind all statements
abbrev pub Straight : Type 0
Straight =
    (in_p straight 0 ≡ Early)
    × (in_p straight 1 ≡ Late)
    × (in_p straight 2 ≡ Late)
    × (in_p straight 3 ≡ Between)
    × (in_p straight 4 ≡ Between)
    × (in_p straight 5 ≡ Early)
    × (in_p straight 6 ≡ Late)
    × (in_p straight 7 ≡ Late)

-- if true { call R; } else { call L; } call B;
abbrev pub branches : List Stmt
branches = stmt.If expr.True (calls (codes "R") ∷ []) (calls (codes "L") ∷ []) ∷ calls (codes "B") ∷ []

abbrev pub Branches : Type 0
Branches = (in_p branches 0 ≡ Early) × (in_p branches 1 ≡ Early) × (in_p branches 2 ≡ Late) × (in_p branches 3 ≡ Late)

-- a loop with a rank, { call R; call B; } and then call L;
abbrev pub again : List Stmt
again = rank_loop (calls (codes "R") ∷ calls (codes "B") ∷ []) ∷ calls (codes "L") ∷ []

-- inside the loop it may come again to R
abbrev pub Again : Type 0
Again = (in_p again 0 ≡ Early) × (in_p again 1 ≡ Early) × (in_p again 2 ≡ Early) × (in_p again 3 ≡ Late)

-- call B; and a yield loop { call A; }
abbrev pub pausing : List Stmt
pausing = calls (codes "B") ∷ yield_loop (calls (codes "A") ∷ []) ∷ []

-- before the loop and at its head a block ends; inside it another one is open, and so behind it
abbrev pub Pausing : Type 0
Pausing = (in_p pausing 0 ≡ Late) × (in_p pausing 1 ≡ Between) × (in_p pausing 2 ≡ Early) × (in_p pausing 3 ≡ Late)

-- before its first step and behind its last a thread is in no block, nor in a root, nor at an entry with a yield; a call of a
-- procedure with no statements opens a block, which ends with the return. In the program of layer 1 P is called no more
abbrev pub Others : Type 0
Others =
    (stands (with_p straight) 0 (thread_in Before) ≡ Between)
    × (stands (with_p straight) 0 (thread_in After) ≡ Between)
    × (stands (with_p straight) 0 (framed 2 0) ≡ Between)
    × (in_p (pause ∷ straight) 0 ≡ Between)
    × (stands (with_p straight) 0 (framed 1 0) ≡ Late)
    × (stands (with_p straight) 1 (framed 0 0) ≡ Between)

-- inside and outside
abbrev pub InsideOrNot : Type 0
InsideOrNot = (inside (with_p straight) 0 (framed 0 0) ≡ true) × (inside (with_p straight) 0 (framed 0 3) ≡ false) × (inside (with_p straight) 0 (framed 0 7) ≡ true)
