-- What stands around the statements of this body:
--
--     0 if p { 1 commit; } else {
--       2 while p {
--         3 if p { 4 commit; 5 yield p; } else { 6 yield p; }
--       }
--     }
--     7 yield p;
use Rattle.std.specs.Prelude.{ℕ, ◌≡◌, List, [], ◌∷◌, codes}
use Rattle.civl_tree.specs.declared.stmt.Stmt.{Stmt}
use Rattle.civl_tree.specs.declared.stmt.Stmt as stmt
use Rattle.civl_path_stories.specs.declared.around.Around.{Around}
use Rattle.civl_path_stories.specs.declared.around.Branch.{Branch}
use Rattle.civl_path_stories.specs.declared.around.Branch.TheVariants.{Body, First, Second}
use Rattle.civl_path_stories.specs.Around.{around}
use Rattle.civl_path_stories.specs.examples.Gates.{p}

abbrev inner_if : Stmt
inner_if = stmt.If p (stmt.Commit ∷ stmt.Yield p ∷ []) (stmt.Yield p ∷ [])

abbrev pub body : List Stmt
body = stmt.If p (stmt.Commit ∷ []) (stmt.While p (inner_if ∷ []) ∷ []) ∷ stmt.Yield p ∷ []

abbrev inside : ℕ → Branch → Around
inside statement branch = record { statement = statement; branch = branch }

abbrev pub WorkedAround : Type 0
WorkedAround =
    (around body 0 ≡ [])
    × (around body 1 ≡ inside 0 First ∷ [])
    × (around body 2 ≡ inside 0 Second ∷ [])
    × (around body 5 ≡ inside 0 Second ∷ inside 2 Body ∷ inside 3 First ∷ [])
    × (around body 6 ≡ inside 0 Second ∷ inside 2 Body ∷ inside 3 Second ∷ [])
    × (around body 7 ≡ [])
