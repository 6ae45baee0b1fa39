-- Logs that are replayed.
use Rattle.std.proofs.Common.{◌≡◌, ℕ, ◌+◌, ◌<◌, ◌≤◌, List, [], ◌++◌, length, get_or, take, refl, sym, ◌∙◌, ap, subst, inl, inr, arith, Bool, true, false, not, zero, suc}
use Rattle.std.specs.Prelude.{IsTrue, All, Option, ◌↔◌}
use Rattle.std.proofs.lemmas.List.Elements.{All-append, All-more}
use Rattle.std.proofs.lemmas.List.{get_or_default, length-take-le, get_or-take}
use Rattle.std.proofs.lemmas.Bool.{cases_lt}
use Rattle.civl_cnf.specs.Literal.{Literal}
use Rattle.civl_cnf.specs.ClauseSet.{ClauseSet, IsBelow, AreBelow, SatisfiesClause, Satisfies}
use Rattle.civl_units.specs.Propagation.{Fails, HasConflict}
use Rattle.civl_rup.specs.Rup.{HasRup, HasEachOnce, HaveRup, Refutes, HasRupAndNoEmpty, IsFirstWithoutRup, IsUnsatisfiable}
use Rattle.civl_units.specs.Marks.{marked, EndsBy, AreAssumed, IsQuiet, Propagates}
use Rattle.civl_rup.specs.inner.Standing.{ScanSays}
use Rattle.civl_rup.specs.declared.answer.Replay.{Replay}
use Rattle.civl_rup.specs.declared.answer.Replay.TheVariants.{Refutes as Refuting, NotRup, NoEmpty}
use Rattle.civl_units.proofs.MarkLemmas.{lt_or_eq}
use Rattle.civl_rup.proofs.Entailing.{rup_entails}
use Rattle.civl_units.proofs.Propagating.{conflict_grows}

-- RUP by propagation, and the other way round
pub rup_by : (first last : List (Option Bool)) (variables : ℕ) (clauses : List (List Literal)) (clause : List Literal) (r : Bool) → IsBelow variables clause → HasEachOnce clause → AreAssumed first clause → Propagates first last clauses → EndsBy last clauses r → (IsTrue r → HasRup variables clauses clause) × (HasRup variables clauses clause → IsTrue r)
rup_by first last variables clauses clause true below once assumed reached ends =
    (λ t. record { below = below; once = once; conflict = λ s fails closed. conflict_grows (marked last) s clauses (reached.sound s (assumed.no_more s fails) closed) ends }, λ h. refl)
rup_by first last variables clauses clause false below once assumed reached ends = (
  λ t. cc,
  λ h.
      let fails : All (Fails (marked last)) clause = λ k d low. reached.stay (get_or clause k d).variable (not (get_or clause k d).positive) (assumed.hold k d low) in
      let found : HasConflict (marked last) clauses = h.conflict (marked last) fails (λ k d low. (ends k d low).0) in
      let quiet = subst (IsQuiet (marked last)) found.3 (ends found.0 found.1 found.2) in
      absurd (quiet.1 found.4),
)

-- the clauses before a place have known variables
pub earlier_below : (set : ClauseSet) (log : List (List Literal)) (n : ℕ) → n ≤ length log → HaveRup set log n → AreBelow set.variables (take n log)
earlier_below set log n fits have k d low =
    let size : length (take n log) ≡ n = length-take-le n log fits in
    let here : k < n = omega arith in
    let inside : k < length log = omega arith in
    let e : get_or (take n log) k d ≡ get_or log k [] = get_or-take n log k d here ∙ get_or_default log k d [] inside in
    subst (IsBelow set.variables) (sym e) (have k here).below

pub rup_moved : (n m : ℕ) (xs ys : List (List Literal)) (c d : List Literal) → n ≡ m → xs ≡ ys → c ≡ d → HasRup n xs c → HasRup m ys d
rup_moved n m xs ys c d e f g h = subst (λ (k : ℕ). HasRup k ys d) e (subst (λ (zs : List (List Literal)). HasRup n zs d) f (subst (HasRup n xs) g h))

-- one more clause has RUP
pub have_next : (set : ClauseSet) (log : List (List Literal)) (n : ℕ) → HaveRup set log n → HasRup set.variables (set.clauses ++ take n log) (get_or log n []) → HaveRup set log (n + 1)
have_next set log n have last k low = elim (lt_or_eq k n low) [
  | inl less ↦ have k less
  | inr same ↦
      let P : ℕ → Type 0 = λ j. HasRup set.variables (set.clauses ++ take j log) (get_or log j []) in
      subst P (sym same) last
]

-- each clause of the log is true where the clause set is
all_entailed : (v : ℕ → Bool) (set : ClauseSet) (log : List (List Literal)) (n : ℕ) → n ≤ length log → HaveRup set log n → Satisfies v set.clauses → (i : ℕ) → i ≤ n → Satisfies v (take i log)
all_entailed v set log n fits have sat zero low = λ k d below. absurd (omega arith)
all_entailed v set log n fits have sat (suc i) low =
    let before : Satisfies v (take i log) = all_entailed v set log n fits have sat i (omega arith) in
    let both : Satisfies v (set.clauses ++ take i log) = All-append (SatisfiesClause v) set.clauses (take i log) sat before in
    let last : SatisfiesClause v (get_or log i []) = rup_entails set.variables (set.clauses ++ take i log) (get_or log i []) (have i (omega arith)) v both in
    let more : Satisfies v (take (i + 1) log) = All-more (SatisfiesClause v) log i [] (omega arith) before last in
    let e : i + 1 ≡ suc i = omega arith in
    subst (λ (j : ℕ). Satisfies v (take j log)) e more

-- a log that refutes leaves no assignment
pub refuted : (set : ClauseSet) (log : List (List Literal)) → Refutes set log → IsUnsatisfiable set.clauses
refuted set log r v sat =
    let empty = r.empty in
    let all : Satisfies v (take (length log) log) = all_entailed v set log (length log) (omega arith) r.rup sat (length log) (omega arith) in
    let e : get_or (take (length log) log) empty.0 [] ≡ [] = get_or-take (length log) log empty.0 [] empty.1 ∙ empty.2 in
    let size : length (take (length log) log) ≡ length log = length-take-le (length log) log (omega arith) in
    let inside = empty.1 in
    let one : SatisfiesClause v [] = subst (SatisfiesClause v) e (all empty.0 [] (omega arith)) in
    let low = one.2 in
    absurd (omega arith)

-- causes exclude one another
first_once : (set : ClauseSet) (log : List (List Literal)) (i j : ℕ) → IsFirstWithoutRup set log i → IsFirstWithoutRup set log j → i < j → ⊥
first_once set log i j p q less = p.refused (q.before i less)

first_same : (set : ClauseSet) (log : List (List Literal)) (i j : ℕ) → IsFirstWithoutRup set log i → IsFirstWithoutRup set log j → i ≡ j
first_same set log i j p q = elim (cases_lt i j) [
  | inl less ↦ absurd (first_once set log i j p q less)
  | inr more ↦ elim (cases_lt j i) [ inl less ↦ absurd (first_once set log j i q p less) | inr most ↦ omega arith ]
]

first_or_all : (set : ClauseSet) (log : List (List Literal)) (i : ℕ) → IsFirstWithoutRup set log i → HaveRup set log (length log) → ⊥
first_or_all set log i p have = p.refused (have i p.place)

pub exactly_not_rup : (set : ClauseSet) (log : List (List Literal)) (r : Replay) → ScanSays set log r → (i : ℕ) → (r ≡ NotRup i) ↔ IsFirstWithoutRup set log i
exactly_not_rup set log (NotRup j) says i =
    (λ e. let is : j ≡ i = cc in subst (IsFirstWithoutRup set log) is says, λ p. ap NotRup (first_same set log j i says p))
exactly_not_rup set log NoEmpty says i = (λ e. cc, λ p. absurd (first_or_all set log i p says.rup))
exactly_not_rup set log Refuting says i = (λ e. cc, λ p. absurd (first_or_all set log i p says.rup))

pub exactly_no_empty : (set : ClauseSet) (log : List (List Literal)) (r : Replay) → ScanSays set log r → (r ≡ NoEmpty) ↔ HasRupAndNoEmpty set log
exactly_no_empty set log (NotRup j) says = (λ e. cc, λ p. absurd (first_or_all set log j says p.rup))
exactly_no_empty set log NoEmpty says = (λ e. says, λ p. refl)
exactly_no_empty set log Refuting says = (λ e. cc, λ p. absurd (p.none says.empty))

pub exactly_refutes : (set : ClauseSet) (log : List (List Literal)) (r : Replay) → ScanSays set log r → (r ≡ Refuting) ↔ Refutes set log
exactly_refutes set log (NotRup j) says = (λ e. cc, λ p. absurd (first_or_all set log j says p.rup))
exactly_refutes set log NoEmpty says = (λ e. cc, λ p. absurd (says.none p.empty))
exactly_refutes set log Refuting says = (λ e. says, λ p. refl)
