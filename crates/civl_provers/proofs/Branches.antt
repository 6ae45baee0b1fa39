-- Branches, one choice more or less.
use Rattle.std.proofs.Common.{◌≡◌, ◌⊎◌, ℕ, ◌<◌, List, [], ◌∷◌, ◌++◌, length, get_or, take, refl, sym, ◌∙◌, subst, inl, inr, arith, Bool, true, false, not}
use Rattle.std.specs.Prelude.{Contains, IsFalse}
use Rattle.std.proofs.lemmas.List.{get_or_append_left, get_or_push, length_push, take-append-le, take_all, get_or-take, length-take-le}
use Rattle.std.proofs.lemmas.List.Elements.{All-push, All-contains, Contains-append_left, Contains-append_right, Contains-push}
use Rattle.std.proofs.Math.Bool.{not-not}
use Rattle.civl_cnf.specs.Literal.{Literal, opposite}
use Rattle.civl_cnf.specs.ClauseSet.{ClauseSet, IsBelow}
use Rattle.civl_cnf.proofs.Literals.{opposite_twice}
use Rattle.civl_units.specs.Propagation.{Holds, Fails, IsFalsified, IsUnit, IsClosedAt, GivesConflict}
use Rattle.civl_rup.specs.Rup.{HasRup, HasEachOnce, Refutes}
use Rattle.civl_rup.proofs.Standings.{conflict_more}
use Rattle.civl_units.proofs.MarkLemmas.{lt_or_eq}
use Rattle.civl_units.proofs.Propagating.{any_by}
use Rattle.civl_cdcl.proofs.Outcomes.{log_push}
use Rattle.civl_provers.specs.Branch.{IsImplied, IsLeftOpen, IsBranch}
use Rattle.civl_provers.specs.Splitter.{IsSplit, IsRefuted}

pub branch_below : (set : ClauseSet) (falses : List Literal) → IsBranch set falses → IsBelow set.variables falses
branch_below set falses b k d low = (b k d low).0

-- no variable is chosen twice, since propagation from the first choice gives it a value
pub branch_once : (set : ClauseSet) (falses : List Literal) → IsBranch set falses → HasEachOnce falses
branch_once set falses b i j d less low e =
    let first = get_or falses i d in
    let size : length (take j falses) ≡ j = length-take-le j falses (omega arith) in
    let at : get_or (take j falses) i d ≡ first = get_or-take j falses i d less in
    let implied : IsImplied set.clauses (take j falses) (opposite first) = λ s fails closed.
    subst (λ (l : Literal). Fails s l) at (fails i d (omega arith)) in
    (b j d low).1 (not first.positive) (subst (λ (v : ℕ). IsImplied set.clauses (take j falses) (record { variable = v; positive = not first.positive })) e implied)

-- a claim on each choice and those before it, for one more
pub choices_push : (P : List Literal → Literal → Type 0) (rest : List Literal) (l : Literal) → ((i : ℕ) (d : Literal) → i < length rest → P (take i rest) (get_or rest i d)) → P rest l → (i : ℕ) (d : Literal) → i < length (rest ++ l ∷ []) → P (take i (rest ++ l ∷ [])) (get_or (rest ++ l ∷ []) i d)
choices_push P rest l have last i d low =
    let longer = length_push rest l in
    elim (lt_or_eq i (length rest) (omega arith)) [
      | inl less ↦
          subst (λ x. P x (get_or (rest ++ l ∷ []) i d)) (sym (take-append-le i rest (l ∷ []) (omega arith)))
          (subst (P (take i rest)) (sym (get_or_append_left rest (l ∷ []) d i less)) (have i d less))
      | inr is ↦
          let whole : take i rest ≡ rest = take_all i rest (omega arith) in
          subst (λ x. P x (get_or (rest ++ l ∷ []) i d)) (sym (take-append-le i rest (l ∷ []) (omega arith) ∙ whole))
          (subst (P rest) (sym (get_or_push rest l d i (sym is))) last)
    ]

-- and for one less
pub choices_left : (P : List Literal → Literal → Type 0) (rest : List Literal) (l : Literal) → ((i : ℕ) (d : Literal) → i < length (rest ++ l ∷ []) → P (take i (rest ++ l ∷ [])) (get_or (rest ++ l ∷ []) i d)) → (i : ℕ) (d : Literal) → i < length rest → P (take i rest) (get_or rest i d)
choices_left P rest l have i d low =
    let longer = length_push rest l in
    subst (λ x. P x (get_or rest i d)) (take-append-le i rest (l ∷ []) (omega arith))
    (subst (P (take i (rest ++ l ∷ []))) (get_or_append_left rest (l ∷ []) d i low) (have i d (omega arith)))

pub choices_last : (P : List Literal → Literal → Type 0) (rest : List Literal) (l : Literal) → ((i : ℕ) (d : Literal) → i < length (rest ++ l ∷ []) → P (take i (rest ++ l ∷ [])) (get_or (rest ++ l ∷ []) i d)) → P rest l
choices_last P rest l have =
    let longer = length_push rest l in
    let n = length rest in
    let whole : take n (rest ++ l ∷ []) ≡ rest = take-append-le n rest (l ∷ []) (omega arith) ∙ take_all n rest (omega arith) in
    subst (λ x. P x l) whole (subst (P (take n (rest ++ l ∷ []))) (get_or_push rest l l n refl) (have n l (omega arith)))

-- what a branch says of a choice and those before it
abbrev pub IsChoice : ClauseSet → List Literal → Literal → Type 0
IsChoice set before l = (l.variable < set.variables) × IsLeftOpen set.clauses before l.variable

-- and what the log has of it
abbrev pub IsTurned : List (List Literal) → List Literal → Literal → Type 0
IsTurned log before l = IsFalse l.positive → Contains log (before ++ opposite l ∷ [])

-- where both sides of a choice are learned, propagation refutes what is before it
pub both_sides : (clauses : List (List Literal)) (rest : List Literal) (l : Literal) → Contains clauses (rest ++ l ∷ []) → Contains clauses (rest ++ opposite l ∷ []) → GivesConflict clauses rest
both_sides clauses rest l one other s fails closed =
    let first = rest ++ l ∷ [] in
    let unit : IsUnit s first l = (Contains-push rest l, All-push (λ m. (m ≡ l) ⊎ Fails s m) rest l (λ k d low. inr (fails k d low)) (inl refl)) in
    let holds : Holds s l = All-contains (IsClosedAt s) clauses first closed one l unit in
    let last : Fails s (opposite l) = subst (λ (b : Bool). s l.variable b ≡ true) (sym (not-not l.positive)) holds in
    any_by (IsFalsified s) clauses (rest ++ opposite l ∷ []) other (All-push (Fails s) rest (opposite l) fails last)

-- the branch's clause was learned
pub learned : (set : ClauseSet) (falses : List Literal) (log new : List (List Literal)) → new ≡ log ++ falses ∷ [] → IsRefuted set falses log → IsSplit set falses new
learned set falses log new is h =
    let b = h.split.branch in
    subst (IsSplit set falses) (sym is) (record {
      branch = b;
      rup = log_push (HasRup set.variables) set.clauses log falses h.split.rup (record { below = branch_below set falses b; once = branch_once set falses b; conflict = h.conflict });
      turned = λ i d low f. Contains-append_left log (falses ∷ []) (take i falses ++ opposite (get_or falses i d) ∷ []) (h.split.turned i d low f);
    })

pub learned_there : (falses : List Literal) (log new : List (List Literal)) → new ≡ log ++ falses ∷ [] → Contains new falses
learned_there falses log new is = subst (λ (x : List (List Literal)). Contains x falses) (sym is) (Contains-push log falses)

-- no choice is left
pub all_refuted : (set : ClauseSet) (falses : List Literal) (log : List (List Literal)) → falses ≡ [] → IsSplit set falses log → Contains log falses → Refutes set log
all_refuted set falses log none h there = record {
  rup = h.rup;
  empty = subst (Contains log) none there;
}

-- the last choice is turned
pub turned_last : (set : ClauseSet) (rest : List Literal) (l : Literal) (log : List (List Literal)) → IsSplit set (rest ++ l ∷ []) log → Contains log (rest ++ l ∷ []) → IsSplit set (rest ++ opposite l ∷ []) log
turned_last set rest l log h there = record {
  branch = choices_push (IsChoice set) rest (opposite l) (choices_left (IsChoice set) rest l h.branch) (choices_last (IsChoice set) rest l h.branch);
  rup = h.rup;
  turned = choices_push (IsTurned log) rest (opposite l) (choices_left (IsTurned log) rest l h.turned)
      (λ f. subst (λ (m : Literal). Contains log (rest ++ m ∷ [])) (sym (opposite_twice l)) there);
}

-- the last choice, which was turned, is taken back
pub taken_back : (set : ClauseSet) (rest : List Literal) (l : Literal) (log : List (List Literal)) → IsFalse l.positive → IsSplit set (rest ++ l ∷ []) log → Contains log (rest ++ l ∷ []) → IsRefuted set rest log
taken_back set rest l log negative h there =
    let other = choices_last (IsTurned log) rest l h.turned negative in
    record {
      split = record {
        branch = choices_left (IsChoice set) rest l h.branch;
        rup = h.rup;
        turned = choices_left (IsTurned log) rest l h.turned;
      };
      conflict = both_sides (set.clauses ++ log) rest l (Contains-append_right set.clauses log (rest ++ l ∷ []) there) (Contains-append_right set.clauses log (rest ++ opposite l ∷ []) other);
    }

never : true ≡ false → ⊥
never e = cc

-- one more choice, on its first side
pub chosen : (set : ClauseSet) (falses : List Literal) (v : ℕ) (log : List (List Literal)) → v < set.variables → IsLeftOpen set.clauses falses v → IsSplit set falses log → IsSplit set (falses ++ record { variable = v; positive = true } ∷ []) log
chosen set falses v log low free h =
    let l : Literal = record { variable = v; positive = true } in
    record {
      branch = choices_push (IsChoice set) falses l h.branch (low, free);
      rup = h.rup;
      turned = choices_push (IsTurned log) falses l h.turned (λ f. absurd (never f));
    }

-- propagation refutes the branch
pub refuted_by : (set : ClauseSet) (falses : List Literal) (log : List (List Literal)) → IsSplit set falses log → GivesConflict set.clauses falses → IsRefuted set falses log
refuted_by set falses log split conflict = record { split = split; conflict = conflict_more set.clauses log falses conflict }
