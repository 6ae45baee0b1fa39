-- The first try that makes a clause set true.
use Rattle.std.proofs.Common.{◌≡◌, ℕ, suc, zero, ◌+◌, ◌<◌, ◌≤◌, List, [], ◌∷◌, length, get_or, drop, add-one, drop-cons, refl, sym, ◌∙◌, ap, subst, arith, Bool, true, false, ◌&&◌, leb}
use Rattle.std.specs.Prelude.{All, if◌then◌else◌}
use Rattle.std.proofs.lemmas.Bool.{leb-true, le-leb, and_parts}
use Rattle.std.proofs.lemmas.List.Elements.{All-nil, All-cons}
use Rattle.std.specs.Cmp.{both_ways}
use Rattle.civl_cnf.specs.Literal.{Literal}
use Rattle.civl_cnf.specs.ClauseSet.{ClauseSet, Satisfies, assignment}
use Rattle.civl_cnf.proofs.Satisfying.{all_true, Satisfies-from_all_true, all_true-from_Satisfies}
use Rattle.civl_portfolio.specs.Attempt.{MakesTrue, Stands}
use Rattle.civl_portfolio.specs.declared.attempt.Attempt.TheVariants.{Unsat, Sat, GaveUp, Memory}
use Rattle.civl_provers.specs.Probe.{makes_true, first_true, IsFirstTrue}

pub truth_to : (set : ClauseSet) (bits : List Bool) → makes_true set bits ≡ true → MakesTrue set bits
truth_to set bits e =
    let both = and_parts (leb set.variables (length bits)) (all_true (assignment bits) set.clauses) e in
    record {
      enough = leb-true set.variables (length bits) both.0;
      truth = Satisfies-from_all_true (assignment bits) set.clauses both.1;
    }

pub truth_from : (set : ClauseSet) (bits : List Bool) → MakesTrue set bits → makes_true set bits ≡ true
truth_from set bits h =
    let first : leb set.variables (length bits) ≡ true = le-leb set.variables (length bits) h.enough in
    let second : all_true (assignment bits) set.clauses ≡ true = all_true-from_Satisfies (assignment bits) set.clauses h.truth in
    ap (λ b. b && all_true (assignment bits) set.clauses) first ∙ second

true_false : true ≡ false → ⊥
true_false e = cc

before_by : (P : ℕ → Type 0) → P 0 → ((j : ℕ) → P (suc j)) → (i : ℕ) → P i
before_by P z s zero = z
before_by P z s (suc j) = s j

first_by : (set : ClauseSet) (b : List Bool) (tries : List (List Bool)) (bits : List Bool) (value : Bool) → makes_true set b ≡ value → (if value then Sat b else first_true set tries) ≡ Sat bits → (first_true set tries ≡ Sat bits → IsFirstTrue set tries bits) → IsFirstTrue set (b ∷ tries) bits
first_by set b tries bits true is e f =
    let same : b ≡ bits = cc in
    record {
      place = 0;
      below = omega arith;
      is = same;
      truth = subst (MakesTrue set) same (truth_to set b is);
      earlier = λ i low. absurd (omega arith);
    }
first_by set b tries bits false is e f =
    let rest = f e in
    let low = rest.below in
    let P : ℕ → Type 0 = λ i. i < suc rest.place → MakesTrue set (get_or (b ∷ tries) i []) → ⊥ in
    record {
      place = suc rest.place;
      below = omega arith;
      is = rest.is;
      truth = rest.truth;
      earlier = λ i. before_by P (λ low h. true_false (sym (truth_from set b h) ∙ is)) (λ j less h. rest.earlier j (omega arith) h) i;
    }

pub first_is : (set : ClauseSet) (tries : List (List Bool)) (bits : List Bool) → first_true set tries ≡ Sat bits → IsFirstTrue set tries bits
first_is set [] bits e = cc
first_is set (b ∷ tries) bits e = first_by set b tries bits (makes_true set b) refl e (first_is set tries bits)

none_by : (set : ClauseSet) (b : List Bool) (tries : List (List Bool)) (value : Bool) → makes_true set b ≡ value → (if value then Sat b else first_true set tries) ≡ GaveUp → (first_true set tries ≡ GaveUp → All (λ bits. MakesTrue set bits → ⊥) tries) → All (λ bits. MakesTrue set bits → ⊥) (b ∷ tries)
none_by set b tries true is e f = cc
none_by set b tries false is e f = All-cons (λ bits. MakesTrue set bits → ⊥) b tries (λ h. true_false (sym (truth_from set b h) ∙ is)) (f e)

pub none_is : (set : ClauseSet) (tries : List (List Bool)) → first_true set tries ≡ GaveUp → All (λ bits. MakesTrue set bits → ⊥) tries
none_is set [] e = All-nil (λ bits. MakesTrue set bits → ⊥)
none_is set (b ∷ tries) e = none_by set b tries (makes_true set b) refl e (none_is set tries)

unsat_by : (set : ClauseSet) (b : List Bool) (tries : List (List Bool)) (log : List (List Literal)) (value : Bool) → (if value then Sat b else first_true set tries) ≡ Unsat log → (first_true set tries ≡ Unsat log → ⊥) → ⊥
unsat_by set b tries log true e f = cc
unsat_by set b tries log false e f = f e

pub never_unsat : (set : ClauseSet) (tries : List (List Bool)) (log : List (List Literal)) → first_true set tries ≡ Unsat log → ⊥
never_unsat set [] log e = cc
never_unsat set (b ∷ tries) log e = unsat_by set b tries log (makes_true set b) e (never_unsat set tries log)

memory_by : (set : ClauseSet) (b : List Bool) (tries : List (List Bool)) (value : Bool) → (if value then Sat b else first_true set tries) ≡ Memory → (first_true set tries ≡ Memory → ⊥) → ⊥
memory_by set b tries true e f = cc
memory_by set b tries false e f = f e

pub never_memory : (set : ClauseSet) (tries : List (List Bool)) → first_true set tries ≡ Memory → ⊥
never_memory set [] e = cc
never_memory set (b ∷ tries) e = memory_by set b tries (makes_true set b) e (never_memory set tries)

honest_by : (set : ClauseSet) (b : List Bool) (tries : List (List Bool)) (value : Bool) → makes_true set b ≡ value → Stands set (first_true set tries) → Stands set (if value then Sat b else first_true set tries)
honest_by set b tries true is h = truth_to set b is
honest_by set b tries false is h = h

pub first_stands : (set : ClauseSet) (tries : List (List Bool)) → Stands set (first_true set tries)
first_stands set [] = tt
first_stands set (b ∷ tries) = honest_by set b tries (makes_true set b) refl (first_stands set tries)

-- the test, where there are enough bits
pub made_by : (set : ClauseSet) (bits : List Bool) (value : Bool) → set.variables ≤ length bits → (value ≡ true → Satisfies (assignment bits) set.clauses) × (Satisfies (assignment bits) set.clauses → value ≡ true) → value ≡ makes_true set bits
made_by set bits value enough both =
    both_ways value (makes_true set bits) (λ e. truth_from set bits (record { enough = enough; truth = both.0 e })) (λ e. both.1 (truth_to set bits e).truth)

-- the next try decides, or the later ones
pub next_try : (set : ClauseSet) (tries : List (List Bool)) (i : ℕ) (x : List Bool) (value : Bool) → i < length tries → x ≡ get_or tries i x → makes_true set x ≡ value → first_true set (drop i tries) ≡ (if value then Sat x else first_true set (drop (i + 1) tries))
next_try set tries i x value low is e =
    let here : drop i tries ≡ x ∷ drop (i + 1) tries = drop-cons tries i x low ∙ ap (λ y. y ∷ drop (suc i) tries) (sym is) ∙ ap (λ n. x ∷ drop n tries) (sym (add-one i)) in
    ap (first_true set) here ∙ ap (λ b. if b then Sat x else first_true set (drop (i + 1) tries)) e
