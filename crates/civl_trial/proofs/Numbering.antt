-- How many declarations a trial program has, and that they have numbers of 32 bits.
use Rattle.std.proofs.Common.{◌≡◌, ℕ, zero, suc, ◌+◌, ◌*◌, ◌<◌, ◌≤◌, List, [], ◌∷◌, ◌++◌, length, map, refl, ◌∙◌, ap, arith}
use Rattle.std.proofs.lemmas.List.{length-append, map-append}
use Rattle.std.proofs.lemmas.List.Sums.{sum_by-append}
use Rattle.std.proofs.lemmas.List.Elements.{All-nil, All-push, All-from_recursion}
use Rattle.std.specs.Prelude.{◌^◌, sum}
use Rattle.std.specs.List.{All}
use Rattle.civl_tree.proofs.Trees.{of_trees}
use Rattle.civl_tree.specs.declared.program.Proc.{Proc}
use Rattle.civl_tree.specs.declared.stmt.Stmt.{Stmt}
use Rattle.civl_tree.specs.Numbering.{item_count, size_of, sizes_of}
use Rattle.civl_trial.specs.Copies.{acquire, release, read, write, incr, globals_of, invariants_of, actions_of, procs_of}
use Rattle.civl_trial.specs.Trial.{IsTrialNumber, copies, increment, main, trial}
use Rattle.civl_trial.specs.Laws.{DeclarationsAreCounted, TrialsAreNumbered}
use Rattle.civl_trial.proofs.Copying.{all_have, all_counted}

globals_counted : (n : ℕ) → length (copies globals_of n) ≡ n * 3
globals_counted n = all_counted globals_of 3 (λ m. m * 3) n refl (λ m. omega arith) (λ copy. refl)

invariants_counted : (n : ℕ) → length (copies invariants_of n) ≡ n
invariants_counted n = all_counted invariants_of 1 (λ m. m) n refl (λ m. omega arith) (λ copy. refl)

actions_counted : (n : ℕ) → length (copies actions_of n) ≡ n * 9
actions_counted n = all_counted actions_of 9 (λ m. m * 9) n refl (λ m. omega arith) (λ copy. refl)

procs_counted : (n : ℕ) → length (trial n).procs ≡ n * 5 + 1
procs_counted n = length-append (copies procs_of n) (main n ∷ []) ∙ omega (arith, all_counted procs_of 5 (λ m. m * 5) n refl (λ m. omega arith) (λ copy. refl))

increments_counted : (n : ℕ) → length (main n).body ≡ n
increments_counted n = all_counted increment 1 (λ m. m) n refl (λ m. omega arith) (λ copy. refl)

pub declarations_are_counted : DeclarationsAreCounted
declarations_are_counted n = (globals_counted n, invariants_counted n, actions_counted n, procs_counted n, increments_counted n)

-- ---- statements

abbrev HasFewStatements : Proc → Type 0
HasFewStatements proc = sizes_of proc.body < 2 ^ 32

sizes_joined : (xs ys : List Stmt) → sizes_of (xs ++ ys) ≡ sizes_of xs + sizes_of ys
sizes_joined xs ys = ap sum (map-append size_of xs ys) ∙ sum_by-append (λ (n : ℕ). n) (map size_of xs) (map size_of ys)

increment_size : (copy : ℕ) → sizes_of (increment copy) ≡ 1
increment_size copy = simp (of_trees)

increments_size : (n : ℕ) → sizes_of (copies increment n) ≡ n
increments_size zero = refl
increments_size (suc n) = sizes_joined (copies increment n) (increment n) ∙ omega (arith, increments_size n, increment_size n)

few : (body : List Stmt) (size : ℕ) → sizes_of body ≡ size → size ≤ 8 → sizes_of body < 2 ^ 32
few body size e l = omega (arith, e, l)

few_in_copy : (copy : ℕ) → All HasFewStatements (procs_of copy)
few_in_copy copy =
    All-from_recursion HasFewStatements (procs_of copy) (
      few (acquire copy).body 5 (simp (of_trees)) (omega arith),
      (
        few (release copy).body 3 (simp (of_trees)) (omega arith),
        (
          few (read copy).body 2 (simp (of_trees)) (omega arith),
          (
            few (write copy).body 2 (simp (of_trees)) (omega arith),
            (few (incr copy).body 5 (simp (of_trees)) (omega arith), tt),
          ),
        ),
      ),
    )

few_in_all : (n : ℕ) → IsTrialNumber n → All HasFewStatements (trial n).procs
few_in_all n h =
    All-push HasFewStatements (copies procs_of n) (main n)
    (all_have HasFewStatements procs_of n (All-nil HasFewStatements) few_in_copy)
    (few (main n).body n (increments_size n) h.1)

items_counted : (n : ℕ) → item_count (trial n) ≡ n * 18 + 4
items_counted n = omega (arith, globals_counted n, invariants_counted n, actions_counted n, procs_counted n)

pub trials_are_numbered : TrialsAreNumbered
trials_are_numbered n h = record { items = omega (arith, items_counted n, h.1); statements = few_in_all n h }
