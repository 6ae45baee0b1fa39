-- All four clauses over two variables, by one choice.
use Rattle.std.proofs.Common.{◌≡◌, ◌⊎◌, ℕ, zero, suc, ◌<◌, List, [], ◌∷◌, refl, inl, inr, arith, Bool, true, false}
use Rattle.std.proofs.lemmas.List.Elements.{All-nil}
use Rattle.civl_cnf.specs.Literal.{Literal}
use Rattle.civl_units.specs.Propagation.{Holds, Fails, GivesConflict}
use Rattle.civl_cdcl.specs.Laws.{variable, negation, square}
use Rattle.civl_cdcl.proofs.Examples.{none, all_two, square_closed, square_refuted}
use Rattle.civl_provers.specs.Branch.{IsTrueBy, IsUndecided}
use Rattle.civl_provers.specs.Laws.{TriesInOrder, SquareWantsOneChoice}

pub tries : TriesInOrder
tries = record { third = refl; none = refl }

root_unrefuted : GivesConflict square.clauses [] → ⊥
root_unrefuted conflict = square_refuted.spent.spends.unrefuted (record {
  below = All-nil (λ l. l.variable < 2);
  once = λ i j d less low. absurd (omega arith);
  conflict = conflict;
})

false_true : false ≡ true → ⊥
false_true e = cc

root_untrue : IsTrueBy square.clauses [] → ⊥
root_untrue all =
    let some = all 0 [] (omega arith) in
    false_true (some.4 none (All-nil (Fails none)) square_closed)

-- with one literal false, propagation gives a conflict
by_one : (v : ℕ) (positive : Bool) → v < 2 → GivesConflict square.clauses (record { variable = v; positive = positive } ∷ [])
by_one zero true low = λ set fails closed.
    let no_a : Fails set (variable 0) = fails 0 (variable 0) (omega arith) in
    let b : Holds set (variable 1) = closed 0 [] (omega arith) (variable 1) ((1, omega arith, refl), all_two (λ m. (m ≡ variable 1) ⊎ Fails set m) (variable 0) (variable 1) (inr no_a) (inl refl)) in
    (1, variable 0 ∷ negation 1 ∷ [], omega arith, refl, all_two (Fails set) (variable 0) (negation 1) no_a b)
by_one zero false low = λ set fails closed.
    let a : Holds set (variable 0) = fails 0 (variable 0) (omega arith) in
    let b : Holds set (variable 1) = closed 2 [] (omega arith) (variable 1) ((1, omega arith, refl), all_two (λ m. (m ≡ variable 1) ⊎ Fails set m) (negation 0) (variable 1) (inr a) (inl refl)) in
    (3, negation 0 ∷ negation 1 ∷ [], omega arith, refl, all_two (Fails set) (negation 0) (negation 1) a b)
by_one (suc zero) true low = λ set fails closed.
    let no_b : Fails set (variable 1) = fails 0 (variable 0) (omega arith) in
    let a : Holds set (variable 0) = closed 0 [] (omega arith) (variable 0) ((0, omega arith, refl), all_two (λ m. (m ≡ variable 0) ⊎ Fails set m) (variable 0) (variable 1) (inl refl) (inr no_b)) in
    (2, negation 0 ∷ variable 1 ∷ [], omega arith, refl, all_two (Fails set) (negation 0) (variable 1) a no_b)
by_one (suc zero) false low = λ set fails closed.
    let b : Holds set (variable 1) = fails 0 (variable 0) (omega arith) in
    let a : Holds set (variable 0) = closed 1 [] (omega arith) (variable 0) ((0, omega arith, refl), all_two (λ m. (m ≡ variable 0) ⊎ Fails set m) (variable 0) (negation 1) (inl refl) (inr b)) in
    (3, negation 0 ∷ negation 1 ∷ [], omega arith, refl, all_two (Fails set) (negation 0) (negation 1) a b)
by_one (suc (suc v)) positive low = absurd (omega arith)

one_decides : (falses : List Literal) → IsUndecided square 1 falses → ⊥
one_decides [] h = let size = h.size in absurd (omega arith)
one_decides (l ∷ []) h = h.unsettled.unrefuted (by_one l.variable l.positive (h.branch 0 l (omega arith)).0)
one_decides (l ∷ m ∷ falses) h = let size = h.size in absurd (omega arith)

pub square_choice : SquareWantsOneChoice
square_choice = record {
  without = record {
    size = refl;
    branch = λ i d low. absurd (omega arith);
    unsettled = record { unrefuted = root_unrefuted; untrue = root_untrue };
  };
  one = one_decides;
}
