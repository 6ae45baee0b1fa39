-- Satisfied clauses, and the test that computes it.
use Rattle.std.proofs.Common.{◌≡◌, ℕ, List, get_or, Bool, true}
use Rattle.std.specs.List.{list_any, list_all}
use Rattle.std.proofs.lemmas.List.Folds.{Any-from_list_any, list_any-from_Any}
use Rattle.std.proofs.lemmas.List.Sums.{AllPass-from_list_all, list_all-from_AllPass}
use Rattle.civl_cnf.specs.Literal.{Literal, truth_of}
use Rattle.civl_cnf.specs.ClauseSet.{Satisfies}

-- whether an assignment makes all clauses true
abbrev pub all_true : (ℕ → Bool) → List (List Literal) → Bool
all_true v clauses = list_all (list_any (truth_of v)) clauses

pub Satisfies-from_all_true : (v : ℕ → Bool) (clauses : List (List Literal)) → all_true v clauses ≡ true → Satisfies v clauses
Satisfies-from_all_true v clauses h k d low =
    Any-from_list_any (truth_of v) (get_or clauses k d) (AllPass-from_list_all (list_any (truth_of v)) clauses h k d low)

pub all_true-from_Satisfies : (v : ℕ → Bool) (clauses : List (List Literal)) → Satisfies v clauses → all_true v clauses ≡ true
all_true-from_Satisfies v clauses h =
    list_all-from_AllPass (list_any (truth_of v)) clauses (λ k d low. list_any-from_Any (truth_of v) (get_or clauses k d) (h k d low))
