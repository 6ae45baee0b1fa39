-- Two watched literals.
use Rattle.std.proofs.Common.{◌≡◌, ◌⊎◌, ℕ, ◌+◌, ◌-◌, ◌<◌, ◌≤◌, List, [], ◌∷◌, ◌++◌, length, get_or, take, refl, sym, ◌∙◌, ap, ap₂, subst, inl, inr, arith, Bool, true, false, not}
use Rattle.std.specs.Prelude.{All, Contains, Option, None, Some, ◌≢◌}
use Rattle.std.specs.List.{swap_remove}
use Rattle.std.proofs.Math.ListN.{set, length-set}
use Rattle.std.proofs.lemmas.Bool.Decides.{eqb_tells}
use Rattle.std.proofs.lemmas.List.{get_or-set_same, get_or-set_other, get_or_default, get_or-take, length-take-le}
use Rattle.std.proofs.lemmas.List.Elements.{All-contains}
use Rattle.civl_cnf.specs.Literal.{Literal}
use Rattle.civl_units.specs.Propagation.{Holds, Fails}
use Rattle.civl_units.specs.Marks.{marked, IsIncluded}
use Rattle.civl_units.specs.Occurrences.{BothSigns, nowhere, of_sign, with_number}
use Rattle.civl_units.proofs.MarkLemmas.{lt_or_eq, not_both as not_both_by}
use Rattle.civl_propagation.specs.Propagation.{IsServed}
use Rattle.civl_propagation.specs.Watches.{watchers, without_number, with_listed, with_unlisted, IsListed, IsUnlisted, IsWatched, Answers, KeepsUp, IsPair}
use Rattle.civl_propagation.specs.declared.watches.Pair.{Pair}

-- the element that goes out, and where the others are
pub removed_keeps : (xs : List ℕ) (i d j : ℕ) → i < length xs → j < length xs → (j ≡ i → ⊥) → (k : ℕ) × (k < length (swap_remove xs i d)) × (get_or (swap_remove xs i d) k 0 ≡ get_or xs j 0) × (i ≤ j → i ≤ k)
removed_keeps xs i d j low below apart =
    let n = length xs - 1 in
    let ys = set xs i (get_or xs n d) in
    let whole : length ys ≡ length xs = length-set xs i (get_or xs n d) in
    let size : length (take n ys) ≡ n = length-take-le n ys (omega arith) in
    elim (lt_or_eq j n (omega arith)) [
      | inl less ↦ (j, omega arith, get_or-take n ys j 0 less ∙ get_or-set_other xs i j (get_or xs n d) 0 apart, λ h. h)
      | inr is ↦
          let here : i < n = omega arith in
          (i, omega arith, get_or-take n ys i 0 here ∙ get_or-set_same xs i (get_or xs n d) 0 low ∙ get_or_default xs n d 0 (omega arith) ∙ ap (λ (k : ℕ). get_or xs k 0) (sym is), λ h. omega arith)
    ]

pub removed_size : (xs : List ℕ) (i d : ℕ) → i < length xs → length (swap_remove xs i d) + 1 ≡ length xs
removed_size xs i d low =
    let n = length xs - 1 in
    let ys = set xs i (get_or xs n d) in
    let whole : length ys ≡ length xs = length-set xs i (get_or xs n d) in
    let size : length (take n ys) ≡ n = length-take-le n ys (omega arith) in
    omega arith

pub removed_all : (P : ℕ → Type 0) (xs : List ℕ) (i d : ℕ) → i < length xs → All P xs → All P (swap_remove xs i d)
removed_all P xs i d low h k e below =
    let n = length xs - 1 in
    let ys = set xs i (get_or xs n d) in
    let whole : length ys ≡ length xs = length-set xs i (get_or xs n d) in
    let size : length (take n ys) ≡ n = length-take-le n ys (omega arith) in
    let here : k < n = omega arith in
    elim (eqb_tells k i) [
      | inl is ↦
          subst P (sym (get_or-take n ys k e here ∙ ap (λ (j : ℕ). get_or ys j e) is.1 ∙ get_or-set_same xs i (get_or xs n d) e low)) (h n d (omega arith))
      | inr other ↦
          subst P (sym (get_or-take n ys k e here ∙ get_or-set_other xs i k (get_or xs n d) e other.1)) (h k e (omega arith))
    ]

-- lists of literals, one of them changed
sign_same : (p : Bool) (both : BothSigns) (number : ℕ) → of_sign p (with_number p number both) ≡ of_sign p both ++ number ∷ []
sign_same true both number = refl
sign_same false both number = refl

sign_other : (p q : Bool) (both : BothSigns) (number : ℕ) → (q ≡ p → ⊥) → of_sign q (with_number p number both) ≡ of_sign q both
sign_other true true both number other = absurd (other refl)
sign_other true false both number other = refl
sign_other false true both number other = refl
sign_other false false both number other = absurd (other refl)

gone_same : (p : Bool) (both : BothSigns) (at : ℕ) → of_sign p (without_number p at both) ≡ swap_remove (of_sign p both) at (get_or (of_sign p both) at 0)
gone_same true both at = refl
gone_same false both at = refl

gone_other : (p q : Bool) (both : BothSigns) (at : ℕ) → (q ≡ p → ⊥) → of_sign q (without_number p at both) ≡ of_sign q both
gone_other true true both at other = absurd (other refl)
gone_other true false both at other = refl
gone_other false true both at other = refl
gone_other false false both at other = absurd (other refl)

-- what a change of one variable's lists changes
changed_same : (lists : List BothSigns) (l : Literal) (both : BothSigns) → l.variable < length lists → watchers (set lists l.variable both) l ≡ of_sign l.positive both
changed_same lists l both low = ap (of_sign l.positive) (get_or-set_same lists l.variable both nowhere low)

changed_other : (lists : List BothSigns) (l m : Literal) (both : BothSigns) → l.variable < length lists → m ≢ l → ((m.positive ≡ l.positive → ⊥) → of_sign m.positive both ≡ of_sign m.positive (get_or lists l.variable nowhere)) → watchers (set lists l.variable both) m ≡ watchers lists m
changed_other lists l m both low apart same = elim (eqb_tells m.variable l.variable) [
  | inl is ↦
      let sign : m.positive ≡ l.positive → ⊥ = λ e. apart (ap₂ (λ (v : ℕ) (b : Bool). record { variable = v; positive = b }) is.1 e) in
      ap (λ (v : ℕ). of_sign m.positive (get_or (set lists l.variable both) v nowhere)) is.1
      ∙ ap (of_sign m.positive) (get_or-set_same lists l.variable both nowhere low)
      ∙ same sign
      ∙ ap (λ (v : ℕ). of_sign m.positive (get_or lists v nowhere)) (sym is.1)
  | inr other ↦ ap (of_sign m.positive) (get_or-set_other lists l.variable m.variable both nowhere other.1)
]

pub listed_by : (lists : List BothSigns) (l : Literal) (number : ℕ) → l.variable < length lists → IsListed lists (with_listed lists l number) l number
listed_by lists l number low =
    let both = get_or lists l.variable nowhere in
    record {
      size = length-set lists l.variable (with_number l.positive number both);
      here = changed_same lists l (with_number l.positive number both) low ∙ sign_same l.positive both number;
      others = λ m apart. changed_other lists l m (with_number l.positive number both) low apart (λ sign. sign_other l.positive m.positive both number sign);
    }

pub unlisted_by : (lists : List BothSigns) (l : Literal) (at : ℕ) → l.variable < length lists → IsUnlisted lists (with_unlisted lists l at) l at
unlisted_by lists l at low =
    let both = get_or lists l.variable nowhere in
    record {
      size = length-set lists l.variable (without_number l.positive at both);
      here = changed_same lists l (without_number l.positive at both) low ∙ gone_same l.positive both at;
      others = λ m apart. changed_other lists l m (without_number l.positive at both) low apart (λ sign. gone_other l.positive m.positive both at sign);
    }

-- no literal is both true and false
pub not_both : (marks : List (Option Bool)) (l : Literal) → Holds (marked marks) l → Fails (marked marks) l → ⊥
not_both marks l holds fails = not_both_by (get_or marks l.variable None) l.positive holds fails

-- what keeps up is served
pub keeps_served : (marks : List (Option Bool)) (small large : ℕ → Bool → Bool) (clause : List Literal) (number : ℕ) (lists : List BothSigns) (pair : Option Pair) → IsIncluded small (marked marks) → IsIncluded large (marked marks) → IsWatched clause number lists pair → KeepsUp small large clause pair → IsServed small large clause
keeps_served marks small large clause number lists None less more single keeps =
    let lit = keeps.0 in
    let there : Contains clause lit = keeps.1 in
    let holds = keeps.2 in
    let never : Fails small lit → ⊥ = λ f. not_both marks lit (more lit.variable lit.positive holds) (less lit.variable (not lit.positive) f) in
    record {
      forced = λ l unit. subst (λ (m : Literal). Holds large m) (single lit l there unit.0) holds;
      quiet = λ all. never (All-contains (Fails small) clause lit all there);
    }
keeps_served marks small large clause number lists (Some pair) less more w keeps =
    let never : (m : Literal) → Holds large m → Fails small m → ⊥ = λ m holds f. not_both marks m (more m.variable m.positive holds) (less m.variable (not m.positive) f) in
    record {
      forced = λ l unit. elim (All-contains (λ m. (m ≡ l) ⊎ Fails small m) clause pair.first unit.1 w.first) [
        | inl e ↦ elim (All-contains (λ m. (m ≡ l) ⊎ Fails small m) clause pair.second unit.1 w.second) [
          | inl f ↦ absurd (w.apart (e ∙ sym f))
          | inr f ↦ subst (λ (m : Literal). Holds large m) e (keeps.second f)
        ]
        | inr f ↦ elim (All-contains (λ m. (m ≡ l) ⊎ Fails small m) clause pair.second unit.1 w.second) [
          | inl e ↦ subst (λ (m : Literal). Holds large m) e (keeps.first f)
          | inr g ↦ absurd (never pair.second (keeps.first f) g)
        ]
      ];
      quiet = λ all. never pair.second (keeps.first (All-contains (Fails small) clause pair.first all w.first)) (All-contains (Fails small) clause pair.second all w.second);
    }

-- what keeps up stays so where more is true
pub keeps_grow : (small large more : ℕ → Bool → Bool) (clause : List Literal) (pair : Option Pair) → IsIncluded large more → KeepsUp small large clause pair → KeepsUp small more clause pair
keeps_grow small large more clause None within keeps = (keeps.0, keeps.1, within keeps.0.variable keeps.0.positive keeps.2)
keeps_grow small large more clause (Some pair) within keeps = record {
  first = λ f. within pair.second.variable pair.second.positive (keeps.first f);
  second = λ f. within pair.first.variable pair.first.positive (keeps.second f);
}

pub pair_answers : (small large : ℕ → Bool → Bool) (pair : Pair) (a b : Literal) → IsPair pair a b → Answers small large pair → Fails small b → Holds large a
pair_answers small large pair a b (inl is) w f = subst (λ (m : Literal). Holds large m) is.0 (w.second (subst (λ (m : Literal). Fails small m) (sym is.1) f))
pair_answers small large pair a b (inr is) w f = subst (λ (m : Literal). Holds large m) is.1 (w.first (subst (λ (m : Literal). Fails small m) (sym is.0) f))

-- the other one is true
pub answers_true : (marks : List (Option Bool)) (small : ℕ → Bool → Bool) (pair : Pair) (a b : Literal) → IsPair pair a b → IsIncluded small (marked marks) → Holds (marked marks) b → Answers small (marked marks) pair
answers_true marks small pair a b (inl is) within holds = record {
  first = λ f. subst (λ (m : Literal). Holds (marked marks) m) (sym is.1) holds;
  second = λ f. absurd (not_both marks b holds (within b.variable (not b.positive) (subst (λ (m : Literal). Fails small m) is.1 f)));
}
answers_true marks small pair a b (inr is) within holds = record {
  first = λ f. absurd (not_both marks b holds (within b.variable (not b.positive) (subst (λ (m : Literal). Fails small m) is.0 f)));
  second = λ f. subst (λ (m : Literal). Holds (marked marks) m) (sym is.0) holds;
}

-- the watch on a literal that is false was moved to one that isn't: neither it nor the other one is false in a set below which the old pair kept up
pub answers_moved : (marks : List (Option Bool)) (small large : ℕ → Bool → Bool) (pair : Pair) (a b t : Literal) → IsPair pair a b → IsIncluded small (marked marks) → (Fails small b → Holds (marked marks) a) → Fails (marked marks) a → (Fails (marked marks) t → ⊥) → Answers small large (record { first = t; second = b })
answers_moved marks small large pair a b t is within back fails free = record {
  first = λ f. absurd (free (within t.variable (not t.positive) f));
  second = λ f. absurd (not_both marks a (back f) fails);
}

-- neither watched literal became false by a step
pub answers_older : (small older large : ℕ → Bool → Bool) (pair : Pair) → (Fails small pair.first → Fails older pair.first) → (Fails small pair.second → Fails older pair.second) → Answers older large pair → Answers small large pair
answers_older small older large pair first second w = record { first = λ f. w.first (first f); second = λ f. w.second (second f) }
