-- Clauses with no variable twice, counted: by a digit of base three for each variable.
use Rattle.std.proofs.Common.{◌≡◌, ◌⊎◌, ℕ, suc, zero, ◌+◌, ◌*◌, ◌<◌, ◌≤◌, ◌^◌, List, [], ◌∷◌, ◌++◌, length, get_or, take, map, refl, sym, ◌∙◌, ap, subst, inl, inr, arith, Bool, true, false}
use Rattle.std.specs.Prelude.{All, AllPairs, Contains, ◌≢◌}
use Rattle.std.specs.List.{list_any}
use Rattle.std.proofs.Math.Dec.{eqb}
use Rattle.std.proofs.lemmas.Bool.{eqb-true, cases_lt}
use Rattle.std.proofs.lemmas.Bool.Decides.{Decides-eqb}
use Rattle.std.proofs.lemmas.List.{get_or_default, get_or-map, get_or-take, length-map, length-take-le}
use Rattle.std.proofs.lemmas.List.Elements.{All-cons, All-contains, Contains-get_or, Contains-append_right}
use Rattle.std.proofs.lemmas.List.Folds.{Any-from_list_any}
use Rattle.std.proofs.lemmas.List.Kept.{AllPairs-cons}
use Rattle.std.proofs.lemmas.Grind.{pow_more}
use Rattle.std.proofs.lemmas.Map.Made.{IsDistinct-from_AllPairs}
use Rattle.std.proofs.lemmas.Map.Steps.{length-le_from_distinct_below}
use Rattle.civl_cnf.specs.Literal.{Literal}
use Rattle.civl_cnf.specs.ClauseSet.{ClauseSet, IsBelow}
use Rattle.civl_rup.specs.Rup.{HasEachOnce, Spends}
use Rattle.civl_units.proofs.MarkLemmas.{lt_or_eq}
use Rattle.civl_rup.proofs.LawLemmas.{new_is_no_superset}
use Rattle.civl_units.proofs.Listing.{contains_or_not}
use Rattle.civl_cdcl.specs.Laws.{variable, negation, SpentBudgetIsSmall}

abbrev choice : {A B : Type 0} → A ⊎ (A → ⊥) → B ⊎ (B → ⊥) → ℕ
choice (inl a) n = 1
choice (inr p) (inl b) = 2
choice (inr p) (inr q) = 0

choice_small : {A B : Type 0} (p : A ⊎ (A → ⊥)) (n : B ⊎ (B → ⊥)) → choice p n < 3
choice_small (inl a) n = omega arith
choice_small (inr p) (inl b) = omega arith
choice_small (inr p) (inr q) = omega arith

choice_first : {A B : Type 0} (p : A ⊎ (A → ⊥)) (n : B ⊎ (B → ⊥)) → A → choice p n ≡ 1
choice_first (inl a) n x = refl
choice_first (inr p) n x = absurd (p x)

choice_second : {A B : Type 0} (p : A ⊎ (A → ⊥)) (n : B ⊎ (B → ⊥)) → (A → ⊥) → B → choice p n ≡ 2
choice_second (inl a) n x y = absurd (x a)
choice_second (inr p) (inl b) x y = refl
choice_second (inr p) (inr q) x y = absurd (q y)

choice_none : {A B : Type 0} (p : A ⊎ (A → ⊥)) (n : B ⊎ (B → ⊥)) → (A → ⊥) → (B → ⊥) → choice p n ≡ 0
choice_none (inl a) n x y = absurd (x a)
choice_none (inr p) (inl b) x y = absurd (y b)
choice_none (inr p) (inr q) x y = refl

choice_one : {A B : Type 0} (p : A ⊎ (A → ⊥)) (n : B ⊎ (B → ⊥)) → choice p n ≡ 1 → A
choice_one (inl a) n e = a
choice_one (inr p) (inl b) e = absurd (omega arith)
choice_one (inr p) (inr q) e = absurd (omega arith)

choice_two : {A B : Type 0} (p : A ⊎ (A → ⊥)) (n : B ⊎ (B → ⊥)) → choice p n ≡ 2 → B
choice_two (inl a) n e = absurd (omega arith)
choice_two (inr p) (inl b) e = b
choice_two (inr p) (inr q) e = absurd (omega arith)

-- 1 where the variable stands in the clause, else 2 where its negation does, else 0
abbrev digit : List Literal → ℕ → ℕ
digit clause v = choice (contains_or_not clause (variable v)) (contains_or_not clause (negation v))

code : List Literal → ℕ → ℕ
code clause zero = 0
code clause (suc v) = digit clause v + 3 * code clause v

digit_small : (clause : List Literal) (v : ℕ) → digit clause v < 3
digit_small clause v = choice_small (contains_or_not clause (variable v)) (contains_or_not clause (negation v))

code_small : (clause : List Literal) (v : ℕ) → code clause v < 3 ^ v
unfolding code
code_small clause zero = omega arith
code_small clause (suc v) =
    let small = digit_small clause v in
    let rest = code_small clause v in
    let next : v + 1 ≡ suc v = omega arith in
    let power : 3 ^ suc v ≡ 3 ^ v * 3 = subst (λ n. 3 ^ n ≡ 3 ^ v * 3) next (pow_more 3 v) in
    omega arith

code_none : (v : ℕ) → code [] v ≡ 0
unfolding code
code_none zero = refl
code_none (suc v) =
    let never : (l : Literal) → Contains [] l → ⊥ = λ l there. let low = there.1 in absurd (omega arith) in
    let here : digit [] v ≡ 0 = choice_none (contains_or_not [] (variable v)) (contains_or_not [] (negation v)) (never (variable v)) (never (negation v)) in
    let rest = code_none v in
    omega arith

code_same : (a b : List Literal) (v : ℕ) → code a v ≡ code b v → (i : ℕ) → i < v → digit a i ≡ digit b i
unfolding code
code_same a b zero e i low = absurd (omega arith)
code_same a b (suc v) e i low =
    let first = digit_small a v in
    let second = digit_small b v in
    let here : digit a v ≡ digit b v = omega arith in
    elim (lt_or_eq i v (omega arith)) [
      | inl less ↦ code_same a b v (omega arith) i less
      | inr is ↦ subst (λ (j : ℕ). digit a j ≡ digit b j) (sym is) here
    ]

-- a variable doesn't stand in a clause with both signs
one_sign : (a : List Literal) (i : ℕ) → HasEachOnce a → Contains a (variable i) → Contains a (negation i) → ⊥
one_sign a i once p n =
    let d = variable i in
    let other : get_or a n.0 d ≡ negation i = get_or_default a n.0 d (negation i) n.1 ∙ n.2 in
    let same : (get_or a p.0 d).variable ≡ (get_or a n.0 d).variable = ap (λ (l : Literal). l.variable) p.2 ∙ sym (ap (λ (l : Literal). l.variable) other) in
    elim (cases_lt p.0 n.0) [
      | inl less ↦ once p.0 n.0 d less n.1 same
      | inr above ↦ elim (lt_or_eq n.0 p.0 (omega arith)) [
        | inl less ↦ once n.0 p.0 d less p.1 (sym same)
        | inr is ↦
            let e : variable i ≡ negation i = sym p.2 ∙ ap (λ (k : ℕ). get_or a k d) (sym is) ∙ other in
            let sign : true ≡ false = ap (λ (l : Literal). l.positive) e in
            absurd cc
      ]
    ]

in_other_by : (a b : List Literal) (i : ℕ) (positive : Bool) → HasEachOnce a → digit a i ≡ digit b i → Contains a (record { variable = i; positive = positive }) → Contains b (record { variable = i; positive = positive })
in_other_by a b i true once e there =
    choice_one (contains_or_not b (variable i)) (contains_or_not b (negation i)) (sym e ∙ choice_first (contains_or_not a (variable i)) (contains_or_not a (negation i)) there)
in_other_by a b i false once e there =
    choice_two (contains_or_not b (variable i)) (contains_or_not b (negation i)) (sym e ∙ choice_second (contains_or_not a (variable i)) (contains_or_not a (negation i)) (λ p. one_sign a i once p there) there)

-- clauses of one code have the same literals
in_other : (a b : List Literal) (v : ℕ) → HasEachOnce a → IsBelow v a → code a v ≡ code b v → All (Contains b) a
in_other a b v once below e k d low =
    let l = get_or a k d in
    in_other_by a b l.variable l.positive once (code_same a b v e l.variable (below k d low)) (Contains-get_or a k d low)

not_zero : (a : List Literal) (v : ℕ) → HasEachOnce a → IsBelow v a → a ≢ [] → 0 ≢ code a v
not_zero [] v once below some e = some refl
not_zero (l ∷ ls) v once below some e =
    let all = in_other (l ∷ ls) [] v once below (sym e ∙ sym (code_none v)) in
    let there = all 0 l (omega arith) in
    let low = there.1 in
    absurd (omega arith)

-- no two clauses of a log that spends have one code
codes_differ : (set : ClauseSet) (log : List (List Literal)) (budget : ℕ) → Spends set log budget → (i j : ℕ) → i < j → j < length log → code (get_or log i []) set.variables ≢ code (get_or log j []) set.variables
codes_differ set log budget spends i j less low e =
    let first = spends.rup i (omega arith) in
    let subset = in_other (get_or log i []) (get_or log j []) set.variables first.once first.below e in
    let size : length (take j log) ≡ j = length-take-le j log (omega arith) in
    let there : Contains (take j log) (get_or log i []) = subst (Contains (take j log)) (get_or-take j log i [] less) (Contains-get_or (take j log) i [] (omega arith)) in
    All-contains (λ other. All (Contains (get_or log j [])) other → ⊥) (set.clauses ++ take j log) (get_or log i [])
    (new_is_no_superset (set.clauses ++ take j log) (get_or log j []) (spends.fresh j low)) (Contains-append_right set.clauses (take j log) (get_or log i []) there) subset

below_all : (n : ℕ) (xs : List ℕ) → All (λ x. x < n) xs → (q : ℕ) → list_any (eqb q) xs ≡ true → q < n
below_all n xs all q e =
    let some = Any-from_list_any (eqb q) xs e in
    let is : q ≡ some.1 = eqb-true q some.1 some.4 in
    let low : some.1 < n = All-contains (λ x. x < n) xs some.1 all (some.0, some.2, some.3) in
    omega arith

pub budget_small : SpentBudgetIsSmall
budget_small set budget log spends =
    let v = set.variables in
    let f : List Literal → ℕ = λ clause. code clause v in
    let codes = map f log in
    let count : length codes ≡ length log = length-map log f in
    let at : (k d : ℕ) → k < length codes → get_or codes k d ≡ f (get_or log k []) = λ k d low. get_or-map f log k [] d (omega arith) in
    let differ : AllPairs (λ x y. x ≢ y) codes = λ i j d less low e. codes_differ set log budget spends i j less (omega arith) (sym (at i d (omega arith)) ∙ e ∙ at j d low) in
    let some : All (λ x. 0 ≢ x) codes = λ k d low e.
    let rup = spends.rup k (omega arith) in
    not_zero (get_or log k []) v rup.once rup.below (λ is. spends.none (k, omega arith, is)) (e ∙ at k d low) in
    let all : AllPairs (λ x y. x ≢ y) (0 ∷ codes) = AllPairs-cons (λ x y. x ≢ y) 0 codes some differ in
    let power : 0 < 3 ^ v = let low = code_small [] v in omega arith in
    let small : All (λ x. x < 3 ^ v) (0 ∷ codes) = All-cons (λ x. x < 3 ^ v) 0 codes power (λ k d low. subst (λ x. x < 3 ^ v) (sym (at k d low)) (code_small (get_or log k []) v)) in
    let fits : length (0 ∷ codes) ≤ 3 ^ v = length-le_from_distinct_below (0 ∷ codes) (3 ^ v) (IsDistinct-from_AllPairs Decides-eqb (0 ∷ codes) all) (below_all (3 ^ v) (0 ∷ codes) small) in
    let size = spends.size in
    omega arith
