-- What stands among statements, one statement at a time.
use Rattle.std.proofs.Common.{◌≡◌, ℕ, ◌+◌, ◌<◌, List, ◌∷◌, refl, ap, ◌∙◌, Option}
use Rattle.std.proofs.lemmas.Bool.{lt-ltb, eq-eqb, ne_eqb}
use Rattle.std.specs.Prelude.{nat_lt, nat_eq, if◌then◌else◌}
use Rattle.civl_tree.specs.declared.stmt.Stmt.{Stmt, the_lemmas as of_stmt}
use Rattle.civl_meaning.specs.Places.{Spot, inside_of, spot_among, first_in, start_of}
use Rattle.civl_tree.specs.Numbering.{size_of}
use Rattle.civl_meaning.proofs.Placing.{statements_with, inside_is}

-- among statements of which s is the first
abbrev pub among_more : Stmt → List Stmt → ℕ → ℕ → Option Spot → ℕ → Option Spot
among_more s ss at next after wanted =
    if nat_lt wanted (at + size_of s)
    then (if nat_eq wanted at
    then first_in (s ∷ ss) at next after
    else inside_of s s at (start_of ss (at + size_of s) next) (first_in ss (at + size_of s) next after) wanted)
    else spot_among ss (at + size_of s) next after wanted

pub among_is : (s : Stmt) (ss : List Stmt) (at next : ℕ) (after : Option Spot) (wanted : ℕ) → spot_among (s ∷ ss) at next after wanted ≡ among_more s ss at next after wanted
among_is s ss at next after wanted =
    ap (λ (r : List Stmt). if nat_lt wanted (at + size_of s)
    then (if nat_eq wanted at
    then first_in (s ∷ r) at next after
    else inside_of s s at (start_of r (at + size_of s) next) (first_in r (at + size_of s) next after) wanted)
    else spot_among ss (at + size_of s) next after wanted) (statements_with ss)

-- at the number of the statement itself
pub among_here : (s : Stmt) (ss : List Stmt) (at next : ℕ) (after : Option Spot) (wanted : ℕ) → wanted < at + size_of s → wanted ≡ at → spot_among (s ∷ ss) at next after wanted ≡ first_in (s ∷ ss) at next after
among_here s ss at next after wanted h e = among_is s ss at next after wanted ∙ rw (lt-ltb wanted (at + size_of s) h, eq-eqb wanted at e) refl

-- inside it
pub among_inside : (s : Stmt) (ss : List Stmt) (at next : ℕ) (after : Option Spot) (wanted : ℕ) → wanted < at + size_of s → (wanted ≡ at → ⊥) → spot_among (s ∷ ss) at next after wanted ≡ inside_of s s at (start_of ss (at + size_of s) next) (first_in ss (at + size_of s) next after) wanted
among_inside s ss at next after wanted h e = among_is s ss at next after wanted ∙ rw (lt-ltb wanted (at + size_of s) h, ne_eqb wanted at e) refl

pub ruleset finding = (inside_is, of_stmt)
