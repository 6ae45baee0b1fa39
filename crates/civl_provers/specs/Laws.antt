-- What the provers answer, on examples.
use Rattle.std.specs.Prelude.{◌≡◌, List, [], ◌∷◌, true, false}
use Rattle.civl_cnf.specs.Literal.{Literal}
use Rattle.civl_cdcl.specs.Laws.{half, square}
use Rattle.civl_portfolio.specs.declared.attempt.Attempt.TheVariants.{Sat, GaveUp}
use Rattle.civl_provers.specs.Probe.{first_true}
use Rattle.civl_provers.specs.Branch.{IsUndecided}

-- On a or b, and a or not b: the first try makes a clause false, the second is too short, and the third is right.
pub record TriesInOrder : Type 0 where
  pub third : first_true half ((false ∷ true ∷ []) ∷ (true ∷ []) ∷ (true ∷ false ∷ []) ∷ (true ∷ true ∷ []) ∷ []) ≡ Sat (true ∷ false ∷ [])
  pub none : first_true half ((false ∷ true ∷ []) ∷ (true ∷ []) ∷ []) ≡ GaveUp

-- On all four clauses over two variables: propagation alone settles nothing, and one choice settles all, so a splitter of depth 1 or more never gives up there.
pub record SquareWantsOneChoice : Type 0 where
  pub without : IsUndecided square 0 []
  pub one : (falses : List Literal) → IsUndecided square 1 falses → ⊥
