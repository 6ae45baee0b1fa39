-- The phase at the head of a loop that doesn't yield is the least one that is right on each way to the head.
use Rattle.std.specs.Prelude.{◌≡◌, Bool, true, ◌||◌, List, map}
use Rattle.civl_tree.specs.declared.stmt.Stmt.{Stmt}
use Rattle.civl_tree.specs.declared.program.Program.{Program}
use Rattle.civl_yields.specs.Phases.{passed, passed_all, head_phase}

-- the phase at the head of a loop with this body, where there is this phase before it
abbrev pub head_of : Program → List Stmt → Bool → Bool
head_of program body left = head_phase (map (passed program) body) left

-- it is left exactly where it may be left before the loop or at the body's end, entered with this phase; and any phase
-- that may be left wherever one of these two may be is left where it is
abbrev pub HeadIsLeast : Type 0
HeadIsLeast =
    (program : Program) (body : List Stmt) (left : Bool)
    → (head_of program body left ≡ (left || (passed_all program body (head_of program body left)).after))
    × ((phase : Bool) → (left ≡ true → phase ≡ true) → ((passed_all program body phase).after ≡ true → phase ≡ true) → head_of program body left ≡ true → phase ≡ true)
