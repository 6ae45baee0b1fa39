-- The outcomes on an example.
use Rattle.std.proofs.Common.{◌≡◌, ◌⊎◌, ℕ, suc, zero, ◌<◌, List, [], ◌∷◌, ◌++◌, length, get_or, take, refl, sym, ap, subst, inl, inr, arith, Bool, true, false, ◌∙◌}
use Rattle.std.specs.Prelude.{All, ◌≢◌}
use Rattle.std.proofs.lemmas.List.Elements.{All-nil, All-cons}
use Rattle.civl_cnf.specs.Literal.{Literal, truth_of}
use Rattle.civl_cnf.specs.ClauseSet.{SatisfiesClause, assignment}
use Rattle.civl_units.specs.Propagation.{Holds, Fails, IsClosed}
use Rattle.civl_rup.specs.Rup.{HasRup}
use Rattle.civl_units.specs.Marks.{IsQuiet}
use Rattle.civl_rup.proofs.Replays.{refuted}
use Rattle.civl_cdcl.specs.Outcome.{IsModel, IsLearned}
use Rattle.civl_cdcl.specs.Laws.{ModelExcludesRefutation, variable, negation, half, square, HalfHasModels, SquareIsRefuted}
use Rattle.civl_cdcl.proofs.Analysing.{quiet_unfalsified}

pub model_excludes : ModelExcludesRefutation
model_excludes set bits budget log model refutation = refuted set log refutation.refutes (assignment bits) model.truth

-- claims on lists that are written out
all_one : (P : Literal → Type 0) (a : Literal) → P a → All P (a ∷ [])
all_one P a p = All-cons P a [] p (All-nil P)

pub all_two : (P : Literal → Type 0) (a b : Literal) → P a → P b → All P (a ∷ b ∷ [])
all_two P a b p q = All-cons P a (b ∷ []) p (all_one P b q)

half_by : (bits : List Bool) → length bits ≡ 2 → SatisfiesClause (assignment bits) (variable 0 ∷ variable 1 ∷ []) → SatisfiesClause (assignment bits) (variable 0 ∷ negation 1 ∷ []) → IsModel half bits
half_by bits size p q = record {
  size = size;
  truth = All-cons (SatisfiesClause (assignment bits)) (variable 0 ∷ variable 1 ∷ []) ((variable 0 ∷ negation 1 ∷ []) ∷ []) p
      (All-cons (SatisfiesClause (assignment bits)) (variable 0 ∷ negation 1 ∷ []) [] q (All-nil (SatisfiesClause (assignment bits))));
}

first_true : (bits : List Bool) (b : Literal) → assignment bits 0 ≡ true → SatisfiesClause (assignment bits) (variable 0 ∷ b ∷ [])
first_true bits b e = (0, variable 0, omega arith, refl, e)

none_true : (k : ℕ) (x : Literal) → k < 2 → get_or (variable 0 ∷ negation 1 ∷ []) k x ≡ x → (x ≡ variable 0) ⊎ (x ≡ negation 1)
none_true zero x low is = inl (sym is)
none_true (suc zero) x low is = inr (sym is)
none_true (suc (suc k)) x low is = absurd (omega arith)

pub half_models : HalfHasModels
half_models = record {
  both = half_by (true ∷ true ∷ []) refl (first_true (true ∷ true ∷ []) (variable 1) refl) (first_true (true ∷ true ∷ []) (negation 1) refl);
  one = half_by (true ∷ false ∷ []) refl (first_true (true ∷ false ∷ []) (variable 1) refl) (first_true (true ∷ false ∷ []) (negation 1) refl);
  other = λ m.
      let some = m.truth 1 [] (omega arith) in
      let holds = some.4 in
      let v = assignment (false ∷ true ∷ []) in
      elim (none_true some.0 some.1 some.2 some.3) [
        | inl is ↦ let no : truth_of v (variable 0) ≡ true = subst (λ (l : Literal). truth_of v l ≡ true) is holds in cc
        | inr is ↦ let no : truth_of v (negation 1) ≡ true = subst (λ (l : Literal). truth_of v l ≡ true) is holds in cc
      ];
  short = λ m. let size = m.size in absurd (omega arith);
}

-- the set of no literals
abbrev pub none : ℕ → Bool → Bool
none v b = false

false_true : false ≡ true → ⊥
false_true e = cc

zero_one : zero ≡ suc zero → ⊥
zero_one e = cc

apart : (a b : Literal) → (a.variable ≡ b.variable → ⊥) → a ≢ b
apart a b differ e = differ (ap (λ (l : Literal). l.variable) e)

-- under it two literals of different variables force nothing
quiet_of_two : (a b : Literal) → (a.variable ≡ b.variable → ⊥) → IsQuiet none (a ∷ b ∷ [])
quiet_of_two a b differ = (
  λ l unit.
      let first : a ≡ l = elim (unit.1 0 a (omega arith)) [ inl is ↦ is | inr f ↦ absurd (false_true f) ] in
      let second : b ≡ l = elim (unit.1 1 a (omega arith)) [ inl is ↦ is | inr f ↦ absurd (false_true f) ] in
      absurd (apart a b differ (first ∙ sym second)),
  λ falsified. false_true (falsified 0 a (omega arith)),
)

square_quiet : All (IsQuiet none) square.clauses
square_quiet =
    let P : List Literal → Type 0 = IsQuiet none in
    let fourth = negation 0 ∷ negation 1 ∷ [] in
    let third = negation 0 ∷ variable 1 ∷ [] in
    let second = variable 0 ∷ negation 1 ∷ [] in
    All-cons P (variable 0 ∷ variable 1 ∷ []) (second ∷ third ∷ fourth ∷ []) (quiet_of_two (variable 0) (variable 1) zero_one)
    (All-cons P second (third ∷ fourth ∷ []) (quiet_of_two (variable 0) (negation 1) zero_one)
    (All-cons P third (fourth ∷ []) (quiet_of_two (negation 0) (variable 1) zero_one)
    (All-cons P fourth [] (quiet_of_two (negation 0) (negation 1) zero_one) (All-nil P))))

pub square_closed : IsClosed none square.clauses
square_closed k d low = (square_quiet k d low).0

-- the clause a is learned
square_learned : IsLearned 2 square.clauses (variable 0 ∷ [])
square_learned = record {
  rup = record {
    below = all_one (λ l. l.variable < 2) (variable 0) (omega arith);
    once = λ i j d less low. absurd (omega arith);
    conflict = λ set fails closed.
        let no_a : Fails set (variable 0) = fails 0 (variable 0) (omega arith) in
        let b : Holds set (variable 1) = closed 0 [] (omega arith) (variable 1) ((1, omega arith, refl), all_two (λ m. (m ≡ variable 1) ⊎ Fails set m) (variable 0) (variable 1) (inr no_a) (inl refl)) in
        (1, variable 0 ∷ negation 1 ∷ [], omega arith, refl, all_two (Fails set) (variable 0) (negation 1) no_a b);
  };
  fresh = (
    variable 0,
    record {
      there = (0, omega arith, refl);
      set = none;
      others = all_one (λ m. (m ≡ variable 0) ⊎ Fails none m) (variable 0) (inl refl);
      closed = square_closed;
      quiet = quiet_unfalsified none square.clauses square_quiet;
      free = false_true;
    },
  );
  some = λ e. let size = ap length e in absurd (omega arith);
}

-- the empty clause isn't yet, and then is
square_unrefuted : HasRup 2 square.clauses [] → ⊥
square_unrefuted rup = quiet_unfalsified none square.clauses square_quiet (rup.conflict none (All-nil (Fails none)) square_closed)

square_rup : HasRup 2 (square.clauses ++ (variable 0 ∷ []) ∷ []) []
square_rup = record {
  below = All-nil (λ l. l.variable < 2);
  once = λ i j d less low. absurd (omega arith);
  conflict = λ set fails closed.
      let a : Holds set (variable 0) = closed 4 [] (omega arith) (variable 0) ((0, omega arith, refl), all_one (λ m. (m ≡ variable 0) ⊎ Fails set m) (variable 0) (inl refl)) in
      let b : Holds set (variable 1) = closed 2 [] (omega arith) (variable 1) ((1, omega arith, refl), all_two (λ m. (m ≡ variable 1) ⊎ Fails set m) (negation 0) (variable 1) (inr a) (inl refl)) in
      (3, negation 0 ∷ negation 1 ∷ [], omega arith, refl, all_two (Fails set) (negation 0) (negation 1) a b);
}

abbrev square_log : List (List Literal)
square_log = (variable 0 ∷ []) ∷ [] ∷ []

square_have : (i : ℕ) → i < 2 → HasRup 2 (square.clauses ++ take i square_log) (get_or square_log i [])
square_have zero low = square_learned.rup
square_have (suc zero) low = square_rup
square_have (suc (suc i)) low = absurd (omega arith)

square_first : (i : ℕ) → i < 1 → IsLearned 2 (square.clauses ++ take i ((variable 0 ∷ []) ∷ [])) (get_or ((variable 0 ∷ []) ∷ []) i [])
square_first zero low = square_learned
square_first (suc i) low = absurd (omega arith)

one_empty : (k : ℕ) → k < 1 → get_or ((variable 0 ∷ []) ∷ []) k [] ≡ [] → ⊥
one_empty zero low is = let size = ap length is in absurd (omega arith)
one_empty (suc k) low is = absurd (omega arith)

pub square_refuted : SquareIsRefuted
square_refuted = record {
  by_one = record {
    refutes = record { rup = square_have; empty = (1, omega arith, refl) };
    earlier = (variable 0 ∷ []) ∷ [];
    last = refl;
    few = omega arith;
    learned = square_first;
  };
  at_once = λ r. square_unrefuted (r.refutes.rup 0 (omega arith));
  unfinished = λ r. one_empty r.refutes.empty.0 r.refutes.empty.1 r.refutes.empty.2;
  spent = record {
    spends = record {
      size = refl;
      none = λ there. let low = there.1 in absurd (omega arith);
      rup = λ i low. absurd (omega arith);
      fresh = λ i low. absurd (omega arith);
      unrefuted = square_unrefuted;
    };
    clause = variable 0 ∷ [];
    more = square_learned;
  };
  unspent = λ s. s.spends.unrefuted square_rup;
}
