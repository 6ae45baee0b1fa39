-- What a clause with reverse unit propagation says of the assignments that satisfy the clauses.
use Rattle.std.proofs.Common.{◌≡◌, ℕ, List, [], ◌∷◌, get_or, refl, sym, ◌∙◌, subst, inl, inr, arith, Bool, true, false, not, ◌||◌, cond, zero, suc}
use Rattle.std.specs.Prelude.{IsTrue}
use Rattle.std.specs.List.{list_any}
use Rattle.std.proofs.lemmas.List.Elements.{All-contains}
use Rattle.std.proofs.lemmas.List.Folds.{Any-from_list_any}
use Rattle.std.proofs.lemmas.Bool.{or_parts}
use Rattle.civl_cnf.specs.Literal.{Literal, truth_of}
use Rattle.civl_cnf.specs.ClauseSet.{SatisfiesClause, Satisfies}
use Rattle.civl_units.specs.Propagation.{Fails, IsFalsified, IsClosedAt, HasConflict}
use Rattle.civl_rup.specs.Rup.{HasRup}

-- the literals that an assignment makes true
abbrev pub true_set : (ℕ → Bool) → ℕ → Bool → Bool
true_set v x b = cond b (v x) (not (v x))

-- a literal is not true and false
never_both : (b p : Bool) → cond p b (not b) ≡ true → cond (not p) b (not b) ≡ true → ⊥
never_both true true e f = cc
never_both true false e f = cc
never_both false true e f = cc
never_both false false e f = cc

pub fails_untrue : (v : ℕ → Bool) (l : Literal) → Fails (true_set v) l → IsTrue (truth_of v l) → ⊥
fails_untrue v l f t = never_both (v l.variable) l.positive t f

untrue_not : (b p : Bool) → cond p b (not b) ≡ false → cond (not p) b (not b) ≡ true
untrue_not true true e = cc
untrue_not true false e = refl
untrue_not false true e = refl
untrue_not false false e = cc

or_left : (a b : Bool) → (a || b) ≡ false → a ≡ false
or_left true b e = cc
or_left false b e = refl

-- a clause with no true literal is falsified
all_fail : (v : ℕ → Bool) (clause : List Literal) → list_any (truth_of v) clause ≡ false → IsFalsified (true_set v) clause
all_fail v [] e k d low = absurd (omega arith)
all_fail v (l ∷ ls) e zero d low = untrue_not (v l.variable) l.positive (or_left _ _ e)
all_fail v (l ∷ ls) e (suc k) d low = all_fail v ls (or_parts _ _ e).1 k d (omega arith)

-- the set of an assignment is closed under the clauses that it satisfies
closed_under : (v : ℕ → Bool) (clause : List Literal) → SatisfiesClause v clause → IsClosedAt (true_set v) clause
closed_under v clause some l unit =
    let is = unit.1 some.0 some.1 some.2 in
    elim is [
      | inl e ↦ subst (λ (m : Literal). IsTrue (truth_of v m)) (sym some.3 ∙ e) some.4
      | inr f ↦ absurd (fails_untrue v some.1 (subst (λ (m : Literal). Fails (true_set v) m) some.3 f) some.4)
    ]

-- and falsifies none of them
no_conflict : (v : ℕ → Bool) (clauses : List (List Literal)) → Satisfies v clauses → HasConflict (true_set v) clauses → ⊥
no_conflict v clauses sat f =
    let some : SatisfiesClause v f.1 = All-contains (SatisfiesClause v) clauses f.1 sat (f.0, f.2, f.3) in
    fails_untrue v some.1 (subst (λ (m : Literal). Fails (true_set v) m) some.3 (f.4 some.0 some.1 some.2)) some.4

entailed_by : (v : ℕ → Bool) (variables : ℕ) (clauses : List (List Literal)) (clause : List Literal) (b : Bool) → list_any (truth_of v) clause ≡ b → HasRup variables clauses clause → Satisfies v clauses → SatisfiesClause v clause
entailed_by v variables clauses clause true e rup sat = Any-from_list_any (truth_of v) clause e
entailed_by v variables clauses clause false e rup sat =
    absurd (no_conflict v clauses sat (rup.conflict (true_set v) (all_fail v clause e) (λ k d low. closed_under v (get_or clauses k d) (sat k d low))))

-- a clause with reverse unit propagation is true wherever the clauses are
pub rup_entails : (variables : ℕ) (clauses : List (List Literal)) (clause : List Literal) → HasRup variables clauses clause → (v : ℕ → Bool) → Satisfies v clauses → SatisfiesClause v clause
rup_entails variables clauses clause rup v sat = entailed_by v variables clauses clause (list_any (truth_of v) clause) refl rup sat
