-- What stands at a place, one layer or one statement at a time.
use Rattle.std.proofs.Common.{◌≡◌, ℕ, ◌+◌, List, [], ◌∷◌, map, refl, sym, ap, ◌∙◌, Option}
use Rattle.std.specs.Prelude.{nat_lt, if◌then◌else◌}
use Rattle.civl_tree.specs.declared.stmt.Stmt.{Stmt, out-Stmt, roll-out-Stmt, map-Stmt, the_lemmas as of_stmt}
use Rattle.civl_tree.specs.declared.stmt.Stmt.TheOpen.{Stmt-F, Assign, Assert, If, While, YieldLoop, RankLoop, Call, Yield, Commit, Intro, Spawn}
use Rattle.civl_tree.specs.declared.stmt.Stmt.TheFolds.{para-roll-Stmt}
use Rattle.civl_meaning.specs.Places.{Inside, Spot, statements, with_inside, inside_of, inside_step, spot_among, loop_spot}
use Rattle.civl_tree.specs.Numbering.{sizes_of}

pub statements_with : (ss : List Stmt) → statements (map with_inside ss) ≡ ss
statements_with [] = refl
statements_with (s ∷ ss) = ap (λ (r : List Stmt). s ∷ r) (statements_with ss)

-- what stands inside a statement, by its layer
abbrev pub inside_layer : Stmt-F Stmt → Stmt → ℕ → ℕ → Option Spot → ℕ → Option Spot
inside_layer (If e a b) s at next after wanted =
    if nat_lt wanted (at + 1 + sizes_of a) then spot_among a (at + 1) next after wanted
    else spot_among b (at + 1 + sizes_of a) next after wanted
inside_layer (While e a) s at next after wanted = spot_among a (at + 1) at (loop_spot s at next) wanted
inside_layer (YieldLoop e i a) s at next after wanted = spot_among a (at + 1) at (loop_spot s at next) wanted
inside_layer (RankLoop e r i a) s at next after wanted = spot_among a (at + 1) at (loop_spot s at next) wanted
inside_layer _ s at next after wanted = after

inside_step_is : (d : Stmt-F Stmt) (s : Stmt) (at next : ℕ) (after : Option Spot) (wanted : ℕ) → inside_step (map-Stmt Stmt (Stmt × Inside) with_inside d) s at next after wanted ≡ inside_layer d s at next after wanted
inside_step_is (If e a b) s at next after wanted = simp (statements_with)
inside_step_is (While e a) s at next after wanted = refl
inside_step_is (YieldLoop e i a) s at next after wanted = refl
inside_step_is (RankLoop e r i a) s at next after wanted = refl
inside_step_is (Assign x e) s at next after wanted = refl
inside_step_is (Assert e) s at next after wanted = refl
inside_step_is (Call f xs rs) s at next after wanted = refl
inside_step_is (Yield e) s at next after wanted = refl
inside_step_is Commit s at next after wanted = refl
inside_step_is (Intro x e) s at next after wanted = refl
inside_step_is (Spawn f xs) s at next after wanted = refl

pub inside_is : (s t : Stmt) (at next : ℕ) (after : Option Spot) (wanted : ℕ) → inside_of s t at next after wanted ≡ inside_layer (out-Stmt s) t at next after wanted
inside_is s t at next after wanted =
    let e : inside_of s ≡ inside_step (map-Stmt Stmt (Stmt × Inside) with_inside (out-Stmt s)) = ap inside_of (sym (roll-out-Stmt s)) ∙ para-roll-Stmt Inside inside_step (out-Stmt s) in
    ap (λ (f : Inside). f t at next after wanted) e ∙ inside_step_is (out-Stmt s) t at next after wanted

pub ruleset placing = (inside_is, of_stmt)
