-- New clauses.
use Rattle.std.proofs.Common.{◌<◌, length, ◌≡◌, ◌⊎◌, ℕ, zero, suc, List, [], ◌∷◌, get_or, inl, inr, arith, Bool, ◌++◌, take}
use Rattle.std.specs.Prelude.{All, Contains, ◌↔◌}
use Rattle.std.proofs.lemmas.List.Elements.{All-nil, All-cons, All-head, All-tail, All-contains, Contains-get_or}
use Rattle.civl_cnf.specs.Literal.{Literal}
use Rattle.civl_cnf.specs.ClauseSet.{ClauseSet}
use Rattle.civl_cnf.proofs.Literals.{literal_or_not}
use Rattle.civl_units.specs.Propagation.{Holds, Fails, IsFalsified, HasConflict}
use Rattle.civl_rup.specs.Rup.{IsNew, IsNewBy, Spends}
use Rattle.civl_units.specs.Laws.{set_of, IsRun, IsComplete}
use Rattle.civl_rup.specs.Laws.{AreOthers}
use Rattle.civl_units.specs.Marks.{IsIncluded}
use Rattle.civl_units.proofs.LawLemmas.{run_sound}
use Rattle.civl_units.proofs.Propagating.{any_by, conflict_grows}

-- where the other literals fail
others_fail : (clause others : List Literal) (l : Literal) (s : ℕ → Bool → Bool) → AreOthers clause l others → All (λ m. (m ≡ l) ⊎ Fails s m) clause → All (Fails s) others
others_fail clause others l s are forms k d low =
    let m : Literal = get_or others k d in
    let in_clause = (are m).0 (Contains-get_or others k d low) in
    let form : (m ≡ l) ⊎ Fails s m = All-contains (λ n. (n ≡ l) ⊎ Fails s n) clause m forms in_clause.0 in
    elim form [ inl e ↦ absurd (in_clause.1 e) | inr f ↦ f ]

pub run_shows_new : (clauses : List (List Literal)) (clause : List Literal) (l : Literal) (others run : List Literal) → Contains clause l → AreOthers clause l others → IsRun clauses others run → IsComplete clauses others run → IsNewBy clauses clause l ↔ ((HasConflict (set_of run) clauses → ⊥) × (Holds (set_of run) l → ⊥))
run_shows_new clauses clause l others run there are steps complete = (
  λ n.
      let within : IsIncluded (set_of run) n.set = run_sound clauses others run steps n.set (others_fail clause others l n.set are n.others) n.closed in
      (λ found. n.quiet (conflict_grows (set_of run) n.set clauses within found), λ holds. n.free (within l.variable l.positive holds)),
  λ both. record {
    there = there;
    set = set_of run;
    others = λ k d low.
        let m : Literal = get_or clause k d in
        elim (literal_or_not m l) [
          | inl e ↦ inl e
          | inr differ ↦ inr (All-contains (Fails (set_of run)) others m complete.0 ((are m).1 (Contains-get_or clause k d low, differ)))
        ];
    closed = elim complete.1 [ inl found ↦ absurd (both.0 found) | inr closed ↦ closed ];
    quiet = both.0;
    free = both.1;
  },
)

-- a list whose literals fail but for one: the one is in it, or all fail
one_or_none : (s : ℕ → Bool → Bool) (l : Literal) (xs : List Literal) → All (λ m. (m ≡ l) ⊎ Fails s m) xs → Contains xs l ⊎ All (Fails s) xs
one_or_none s l [] h = inr (All-nil (Fails s))
one_or_none s l (x ∷ xs) h = elim (All-head (λ m. (m ≡ l) ⊎ Fails s m) x xs h) [
  | inl e ↦ inl (zero, omega arith, e)
  | inr f ↦ elim (one_or_none s l xs (All-tail (λ m. (m ≡ l) ⊎ Fails s m) x xs h)) [
    | inl there ↦ let low = there.1 in inl (suc there.0, omega arith, there.2)
    | inr all ↦ inr (All-cons (Fails s) x xs f all)
  ]
]

pub new_is_no_superset : (clauses : List (List Literal)) (clause : List Literal) → IsNew clauses clause → All (λ other. All (Contains clause) other → ⊥) clauses
new_is_no_superset clauses clause new k e low subset =
    let other : List Literal = get_or clauses k e in
    let l : Literal = new.0 in
    let n = new.1 in
    let forms : All (λ m. (m ≡ l) ⊎ Fails n.set m) other = λ i d small. All-contains (λ m. (m ≡ l) ⊎ Fails n.set m) clause (get_or other i d) n.others (subset i d small) in
    elim (one_or_none n.set l other forms) [
      | inl there ↦ n.free (n.closed k e low l (there, forms))
      | inr all ↦ n.quiet (any_by (IsFalsified n.set) clauses other (Contains-get_or clauses k e low) all)
    ]

pub spent_is_no_superset : (set : ClauseSet) (log : List (List Literal)) (count : ℕ) → Spends set log count → (i : ℕ) → i < length log → All (λ other. All (Contains (get_or log i [])) other → ⊥) (set.clauses ++ take i log)
spent_is_no_superset set log count spends i low = new_is_no_superset (set.clauses ++ take i log) (get_or log i []) (spends.fresh i low)
