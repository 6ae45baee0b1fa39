-- Occurrence lists that grow by a clause.
use Rattle.std.proofs.Common.{◌≡◌, ◌⊎◌, ℕ, zero, suc, ◌+◌, ◌<◌, ◌≤◌, List, [], ◌∷◌, ◌++◌, length, get_or, replicate, take, append_assoc, refl, sym, ◌∙◌, ap, ap₂, subst, inl, inr, arith, Bool, true, false, not, ◌&&◌, cond}
use Rattle.std.specs.Prelude.{All, Contains, ◌↔◌, ◌≢◌, nat_eq}
use Rattle.std.proofs.lemmas.Bool.{eqb-true, and_parts}
use Rattle.std.proofs.lemmas.Bool.Decides.{eqb_tells}
use Rattle.std.proofs.lemmas.List.{take_more, take_all, length-take-le, length-append, get_or_append_left, get_or_push, length_push, length-replicate, get_or-replicate}
use Rattle.std.proofs.lemmas.List.Elements.{All-cons, All-head, All-tail, All-contains, All-replicate, Contains-get_or, Contains-append_left, Contains-append_right, Contains-append_cases, Contains-push, Contains-push_cases}
use Rattle.std.proofs.lemmas.List.Sums.{sum_by-cons}
use Rattle.civl_cnf.specs.Literal.{Literal}
use Rattle.civl_units.specs.Occurrences.{OccurrenceLists, numbers_of, is_literal, times, AreListed, IsSingle, IsUnitListed, AreOccurrences}
use Rattle.civl_units.proofs.MarkLemmas.{lt_or_eq}
use Rattle.civl_units.proofs.LawLemmas.{same_sign}

literal_is : (l m : Literal) → is_literal l m ≡ true → m ≡ l
literal_is l m e =
    let both = and_parts (nat_eq m.variable l.variable) (cond l.positive m.positive (not m.positive)) e in
    let variable : m.variable ≡ l.variable = eqb-true m.variable l.variable both.0 in
    let sign : l.positive ≡ m.positive = same_sign l.positive m.positive both.1 in
    ap₂ (λ (v : ℕ) (b : Bool). record { variable = v; positive = b }) variable (sym sign)

pub own_sign : (b : Bool) → cond b b (not b) ≡ true
own_sign true = refl
own_sign false = refl

literal_self : (l : Literal) → is_literal l l ≡ true
literal_self l = elim (eqb_tells l.variable l.variable) [
  | inl e ↦ ap (λ (b : Bool). b && cond l.positive l.positive (not l.positive)) e.0 ∙ own_sign l.positive
  | inr differ ↦ absurd (differ.1 refl)
]

same_by : (l m : Literal) (b : Bool) → is_literal l m ≡ b → (m ≡ l) ⊎ (m ≢ l)
same_by l m true e = inl (literal_is l m e)
same_by l m false e = inr (λ is. let yes : is_literal l m ≡ true = subst (λ (x : Literal). is_literal l x ≡ true) (sym is) (literal_self l) in cc)

same_or_not : (l m : Literal) → (m ≡ l) ⊎ (m ≢ l)
same_or_not l m = same_by l m (is_literal l m) refl

times_cons : (l m : Literal) (clause : List Literal) → times l (m ∷ clause) ≡ cond (is_literal l m) 1 0 + times l clause
times_cons l m clause = sum_by-cons (λ (x : Literal). cond (is_literal l x) 1 0) m clause

-- a literal that is counted stands there
there_by : (l m : Literal) (clause : List Literal) (b : Bool) → is_literal l m ≡ b → (0 < times l clause → Contains clause l) → 0 < times l (m ∷ clause) → Contains (m ∷ clause) l
there_by l m clause true e rest low = (0, omega arith, literal_is l m e)
there_by l m clause false e rest low =
    let fewer : times l (m ∷ clause) ≡ 0 + times l clause = times_cons l m clause ∙ ap (λ (b : Bool). cond b 1 0 + times l clause) e in
    Contains-append_right (m ∷ []) clause l (rest (omega arith))

counted_there : (l : Literal) (clause : List Literal) → 0 < times l clause → Contains clause l
counted_there l [] low = absurd (omega arith)
counted_there l (m ∷ clause) low = there_by l m clause (is_literal l m) refl (λ less. counted_there l clause less) low

-- and one that stands there is counted
counted_at : (l : Literal) (clause : List Literal) (k : ℕ) → k < length clause → get_or clause k l ≡ l → 0 < times l clause
counted_at l [] k low is = absurd (omega arith)
counted_at l (m ∷ clause) zero low is =
    let yes : is_literal l m ≡ true = subst (λ (x : Literal). is_literal l x ≡ true) (sym is) (literal_self l) in
    let more : times l (m ∷ clause) ≡ 1 + times l clause = times_cons l m clause ∙ ap (λ (b : Bool). cond b 1 0 + times l clause) yes in
    omega arith
counted_at l (m ∷ clause) (suc k) low is =
    let less : 0 < times l clause = counted_at l clause k (omega arith) is in
    let more = times_cons l m clause in
    omega arith

pub contains_or_not : (clause : List Literal) (l : Literal) → Contains clause l ⊎ (Contains clause l → ⊥)
contains_or_not clause l = elim (eqb_tells (times l clause) 0) [
  | inl e ↦
      let none = e.1 in
      inr (λ there. let low = counted_at l clause there.0 there.1 there.2 in absurd (omega arith))
  | inr e ↦
      let some = e.1 in
      inl (counted_there l clause (omega arith))
]

-- what is in a list of one number, so often
in_replicate : (count n m : ℕ) → Contains (replicate count n) m → (m ≡ n) × (0 < count)
in_replicate count n m there =
    let low = there.1 in
    let size : length (replicate count n) ≡ count = length-replicate count n in
    (All-contains (λ (x : ℕ). x ≡ n) (replicate count n) m (All-replicate (λ (x : ℕ). x ≡ n) count n refl) there, omega arith)

replicate_there : (count n : ℕ) → 0 < count → Contains (replicate count n) n
replicate_there count n low =
    let size : length (replicate count n) ≡ count = length-replicate count n in
    (0, omega arith, get_or-replicate count 0 n n low)

-- numbers of clauses with a property, and one clause more
numbers_more : (P : List Literal → Type 0) (clauses : List (List Literal)) (clause : List Literal) (old new : List ℕ) →
    ((n : ℕ) → Contains old n ↔ ((n < length clauses) × P (get_or clauses n []))) →
    ((n : ℕ) → Contains new n ↔ (Contains old n ⊎ ((n ≡ length clauses) × P clause))) →
    (n : ℕ) → Contains new n ↔ ((n < length (clauses ++ clause ∷ [])) × P (get_or (clauses ++ clause ∷ []) n []))
numbers_more P clauses clause old new before grown n =
    let size : length (clauses ++ clause ∷ []) ≡ length clauses + 1 = length_push clauses clause in (
      λ there. elim ((grown n).0 there) [
        | inl earlier ↦
            let at = (before n).0 earlier in
            let low = at.0 in
            (omega arith, subst P (sym (get_or_append_left clauses (clause ∷ []) [] n at.0)) at.1)
        | inr last ↦
            let is = last.0 in
            (omega arith, subst P (sym (get_or_push clauses clause [] n (sym last.0))) last.1)
      ],
      λ at.
          let low = at.0 in
          elim (lt_or_eq n (length clauses) (omega arith)) [
            | inl less ↦ (grown n).1 (inl ((before n).1 (less, subst P (get_or_append_left clauses (clause ∷ []) [] n less) at.1)))
            | inr is ↦ (grown n).1 (inr (is, subst P (get_or_push clauses clause [] n (sym is)) at.1))
          ],
    )

-- a literal's list
listed_cases : (old new : OccurrenceLists) (clause : List Literal) (number : ℕ) → AreListed old new clause number → (l : Literal) (n : ℕ) → Contains (numbers_of new l) n ↔ (Contains (numbers_of old l) n ⊎ ((n ≡ number) × Contains clause l))
listed_cases old new clause number listed l n =
    let is : numbers_of new l ≡ numbers_of old l ++ replicate (times l clause) number = listed l in (
      λ there. elim (Contains-append_cases (numbers_of old l) (replicate (times l clause) number) n (subst (λ (ns : List ℕ). Contains ns n) is there)) [
        | inl earlier ↦ inl earlier
        | inr last ↦ let at = in_replicate (times l clause) number n last in inr (at.0, counted_there l clause at.1)
      ],
      λ some. subst (λ (ns : List ℕ). Contains ns n) (sym is) (elim some [
        | inl earlier ↦ Contains-append_left (numbers_of old l) (replicate (times l clause) number) n earlier
        | inr last ↦
            let there = last.1 in
            let counted = counted_at l clause there.0 there.1 there.2 in
            Contains-append_right (numbers_of old l) (replicate (times l clause) number) n (subst (λ (m : ℕ). Contains (replicate (times l clause) number) m) (sym last.0) (replicate_there (times l clause) number counted))
      ]),
    )

-- whether a clause is single
all_same : (l : Literal) (clause : List Literal) → All (λ m. m ≡ l) clause ⊎ (All (λ m. m ≡ l) clause → ⊥)
all_same l [] = inl (λ k d low. absurd (omega arith))
all_same l (m ∷ clause) = elim (same_or_not l m) [
  | inl is ↦ elim (all_same l clause) [ inl all ↦ inl (All-cons (λ x. x ≡ l) m clause is all) | inr some ↦ inr (λ all. some (All-tail (λ x. x ≡ l) m clause all)) ]
  | inr differ ↦ inr (λ all. differ (All-head (λ x. x ≡ l) m clause all))
]

pub single_or_not : (clause : List Literal) → IsSingle clause ⊎ (IsSingle clause → ⊥)
single_or_not [] = inl (λ l m there also. let low = there.1 in absurd (omega arith))
single_or_not (l ∷ clause) = elim (all_same l clause) [
  | inl all ↦
      let whole = All-cons (λ x. x ≡ l) l clause refl all in
      inl (λ m n there also. All-contains (λ x. x ≡ l) (l ∷ clause) m whole there ∙ sym (All-contains (λ x. x ≡ l) (l ∷ clause) n whole also))
  | inr some ↦ inr (λ single. some (λ k d low. single (get_or clause k d) l (Contains-append_right (l ∷ []) clause (get_or clause k d) (Contains-get_or clause k d low)) (0, omega arith, refl)))
]

-- the units
unit_cases : (old new : OccurrenceLists) (clause : List Literal) (number : ℕ) → IsUnitListed old new clause number → (n : ℕ) → Contains new.units n ↔ (Contains old.units n ⊎ ((n ≡ number) × IsSingle clause))
unit_cases old new clause number listed n = elim (single_or_not clause) [
  | inl single ↦
      let is = listed.single single in (
        λ there. elim (Contains-push_cases old.units number n (subst (λ (ns : List ℕ). Contains ns n) is there)) [ inl earlier ↦ inl earlier | inr last ↦ inr (sym last, single) ],
        λ some. subst (λ (ns : List ℕ). Contains ns n) (sym is) (elim some [
          | inl earlier ↦ Contains-append_left old.units (number ∷ []) n earlier
          | inr last ↦ subst (Contains (old.units ++ number ∷ [])) (sym last.0) (Contains-push old.units number)
        ]),
      )
  | inr other ↦
      let is = listed.other other in (
        λ there. inl (subst (λ (ns : List ℕ). Contains ns n) is there),
        λ some. subst (λ (ns : List ℕ). Contains ns n) (sym is) (elim some [ inl earlier ↦ earlier | inr last ↦ absurd (other last.1) ]),
      )
]

-- one clause more
pub occurrences_more : (clauses : List (List Literal)) (clause : List Literal) (old new : OccurrenceLists) (number : ℕ) → number ≡ length clauses → AreOccurrences clauses old → AreListed old new clause number → IsUnitListed old new clause number → AreOccurrences (clauses ++ clause ∷ []) new
occurrences_more clauses clause old new number size are listed unit = record {
  numbers = λ l n. numbers_more (λ (c : List Literal). Contains c l) clauses clause (numbers_of old l) (numbers_of new l) (are.numbers l) (subst (λ (k : ℕ). (m : ℕ) → Contains (numbers_of new l) m ↔ (Contains (numbers_of old l) m ⊎ ((m ≡ k) × Contains clause l))) size (listed_cases old new clause number listed l)) n;
  singles = λ n. numbers_more IsSingle clauses clause old.units new.units are.singles (subst (λ (k : ℕ). (m : ℕ) → Contains new.units m ↔ (Contains old.units m ⊎ ((m ≡ k) × IsSingle clause))) size (unit_cases old new clause number unit)) n;
}

-- the next clause of a log
pub next_listed : (set log : List (List Literal)) (at : ℕ) (clause : List Literal) (old new : OccurrenceLists) (number : ℕ) → at < length log → clause ≡ get_or log at [] → number ≡ length set + at → AreOccurrences (set ++ take at log) old → AreListed old new clause number → IsUnitListed old new clause number → AreOccurrences (set ++ take (at + 1) log) new
next_listed set log at clause old new number low is place are listed unit =
    let front : length (take at log) ≡ at = length-take-le at log (omega arith) in
    let size : number ≡ length (set ++ take at log) = omega (arith, length-append set (take at log)) in
    let more = occurrences_more (set ++ take at log) clause old new number size are listed unit in
    let same : (set ++ take at log) ++ clause ∷ [] ≡ set ++ take (at + 1) log = append_assoc set (take at log) (clause ∷ []) ∙ ap (λ (c : List Literal). set ++ (take at log ++ c ∷ [])) is ∙ ap (λ (cs : List (List Literal)). set ++ cs) (sym (take_more log at [] low)) in
    subst (λ (all : List (List Literal)). AreOccurrences all new) same more

-- the whole log
pub all_listed : (set log : List (List Literal)) (at : ℕ) (lists : OccurrenceLists) → length log ≤ at → AreOccurrences (set ++ take at log) lists → AreOccurrences (set ++ log) lists
all_listed set log at lists above are = subst (λ (cs : List (List Literal)). AreOccurrences (set ++ cs) lists) (take_all at log above) are
