-- The entry of a call among those whose numbers rise.
use Rattle.std.specs.Prelude.{map, slice_index, get_or, nat_eq, if◌then◌else◌, MatchResult}
use Rattle.std.proofs.lemmas.Bool.{cases_lt}
use Rattle.std.specs.List.Sorted.{IsStrictlyIncreasing, IsSearchInRange, IsBinarySearchResult}
use Rattle.std.specs.Ordering.{nat_cmp, ordering_index}
use Rattle.std.proofs.Common.{◌≡◌, ◌∙◌, ℕ, zero, suc, ◌+◌, ◌≤◌, ◌<◌, Bool, true, false, List, [], ◌∷◌, length, refl, sym, arith, Result, Ok, Err, inl, inr}
use Rattle.std.proofs.lemmas.Bool.{false≢true, eq-eqb, eqb-true}
use Rattle.std.proofs.lemmas.Bool.Decides.{nat_tests}
use Rattle.std.proofs.lemmas.Cmp.{ranked}
use Rattle.civl_tree.proofs.Lists.{rises_tail}
use Rattle.civl_states.specs.declared.choices.Chosen.{Chosen}
use Rattle.civl_states.specs.Beginnings.{chosen_at}

-- each number is this one or behind it, and behind those before
abbrev Rising : ℕ → List Chosen → Type 0
Rising low [] = Unit {0}
Rising low (c ∷ cs) = (low ≤ c.statement) × Rising (c.statement + 1) cs

abbrev numbers : List Chosen → List ℕ
numbers cs = map (λ c. c.statement) cs

rises : (low : ℕ) (cs : List Chosen) → IsStrictlyIncreasing (numbers cs) → (0 < length cs → low ≤ slice_index (numbers cs) 0) → Rising low cs
rises low [] h first = tt
rises low (c ∷ []) h first = (first (omega arith), tt)
rises low (c ∷ (d ∷ ds)) h first = (first (omega arith), rises (c.statement + 1) (d ∷ ds) (rises_tail c.statement (numbers (d ∷ ds)) h) (λ l. let x = h 0 (omega arith) in omega (arith, x)))

at_least : (low : ℕ) (cs : List Chosen) (i : ℕ) (d : Chosen) → Rising low cs → i < length cs → low ≤ (get_or cs i d).statement
at_least low [] i d r l = absurd (omega arith)
at_least low (c ∷ cs) zero d r l = r.0
at_least low (c ∷ cs) (suc i) d r l = let x = at_least (c.statement + 1) cs i d r.1 (omega arith) in let y = r.0 in omega (arith, x, y)

never_falls : (low : ℕ) (cs : List Chosen) (i j : ℕ) (d : Chosen) → Rising low cs → i ≤ j → j < length cs → (get_or cs i d).statement ≤ (get_or cs j d).statement
never_falls low [] i j d r le l = absurd (omega arith)
never_falls low (c ∷ cs) zero zero d r le l = omega arith
never_falls low (c ∷ cs) zero (suc j) d r le l = let x = at_least (c.statement + 1) cs j d r.1 (omega arith) in omega (arith, x)
never_falls low (c ∷ cs) (suc i) zero d r le l = absurd (omega arith)
never_falls low (c ∷ cs) (suc i) (suc j) d r le l = never_falls (c.statement + 1) cs i j d r.1 (omega arith) (omega arith)

-- ---- what stands at a number

here : (k : ℕ) (c : Chosen) (cs : List Chosen) (b : Bool) → nat_eq c.statement k ≡ b → c.statement ≡ k → c.choices ≡ (if b then c.choices else chosen_at cs k)
here k c cs true e s = refl
here k c cs false e s = absurd (false≢true (sym e ∙ eq-eqb c.statement k s))

past : (k : ℕ) (c : Chosen) (cs : List Chosen) (b : Bool) → nat_eq c.statement k ≡ b → (c.statement ≡ k → ⊥) → chosen_at cs k ≡ (if b then c.choices else chosen_at cs k)
past k c cs true e n = absurd (n (eqb-true c.statement k e))
past k c cs false e n = refl

found : (k low : ℕ) (cs : List Chosen) (i : ℕ) (d : Chosen) → Rising low cs → i < length cs → (get_or cs i d).statement ≡ k → (get_or cs i d).choices ≡ chosen_at cs k
found k low [] i d r l e = absurd (omega arith)
found k low (c ∷ cs) zero d r l e = here k c cs (nat_eq c.statement k) refl e
found k low (c ∷ cs) (suc i) d r l e =
    let x = at_least (c.statement + 1) cs i d r.1 (omega arith) in
    found k (c.statement + 1) cs i d r.1 (omega arith) e ∙ past k c cs (nat_eq c.statement k) refl (λ s. omega (arith, x, e, s))

missing : (k : ℕ) (cs : List Chosen) (d : Chosen) → ((i : ℕ) → i < length cs → (get_or cs i d).statement ≡ k → ⊥) → [] ≡ chosen_at cs k
missing k [] d none = refl
missing k (c ∷ cs) d none = missing k cs d (λ i l e. none (suc i) (omega (arith, l)) e) ∙ past k c cs (nat_eq c.statement k) refl (λ s. none 0 (omega arith) s)

-- ---- a binary search

abbrev none_chosen : Chosen
none_chosen = record { statement = 0; choices = [] }

higher : (k a b : ℕ) → a ≤ b → ordering_index (nat_cmp a k) ≤ ordering_index (nat_cmp b k)
higher k a b le = grind (arith, nat_tests)

-- it ends at the call's entry, or where there is none
pub searched : (cs : List Chosen) (k : ℕ) (r : Result ℕ ℕ) → IsStrictlyIncreasing (numbers cs) → IsSearchInRange r (length cs) → IsBinarySearchResult (λ c. nat_cmp c.statement k) cs r
    → MatchResult r (λ i. (d : Chosen) → (get_or cs i d).choices ≡ chosen_at cs k) (λ i. [] ≡ chosen_at cs k)
searched cs k (Ok i) up within equal = λ d. found k 0 cs i d (rises 0 cs up (λ l. omega arith)) within (ranked _ k _ (sym (equal d)))
searched cs k (Err i) up within parted =
    let r = rises 0 cs up (λ l. omega arith) in
    let sides = parted (λ a b d le l. higher k (get_or cs a d).statement (get_or cs b d).statement (never_falls 0 cs a b d r le l)) in
    missing k cs none_chosen (λ j l e. elim (cases_lt j i) [
      | inl before ↦ let x = ranked _ k _ (sym (sides.0 j none_chosen (omega arith) before)) in omega (arith, x, e)
      | inr behind ↦ let x = ranked _ k _ (sym (sides.1 j none_chosen behind l)) in omega (arith, x, e)
    ])
