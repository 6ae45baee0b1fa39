-- The names of a trial program are names, so it has a spelling.
use Rattle.std.proofs.Common.{◌≡◌, ℕ, zero, suc, ◌-◌, ◌<◌, ◌≤◌, true, false, ◌&&◌, [], ◌∷◌, refl, ◌∙◌, arith}
use Rattle.std.proofs.lemmas.List.Folds.{list_all-append}
use Rattle.std.proofs.lemmas.Bool.{and_from}
use Rattle.std.specs.Prelude.{IsTrue, decimal}
use Rattle.std.specs.Fmt.{digits}
use Rattle.std.specs.List.{list_all}
use Rattle.civl_tree.proofs.Trees.{of_trees}
use Rattle.civl_tree.specs.Token.{is_name_byte}
use Rattle.civl_tree.specs.declared.expr.Expr.{Expr}
use Rattle.civl_tree.specs.SpellingDomain.{allows_expr, allows_global, allows_invariant, allows_action, allows_stmt, allows_proc, allows_thread}
use Rattle.civl_trial.specs.Phrases.{both}
use Rattle.civl_trial.specs.Copies.{starts, globals_of, invariants_of, actions_of, procs_of}
use Rattle.civl_trial.specs.Trial.{copies, starts_to, increment, main, main_thread, trial}
use Rattle.civl_trial.specs.Laws.{TrialsHaveSpelling}
use Rattle.civl_trial.proofs.Copying.{all_pass}

-- the digits of a copy's number may stand in a name
abbrev HasNameBytes : ℕ → Type 0
HasNameBytes copy = IsTrue (list_all is_name_byte (decimal copy))

digits_fit : (copy : ℕ) → copy < 8 → HasNameBytes copy
unfolding digits
digits_fit zero l = refl
digits_fit (suc zero) l = refl
digits_fit (suc (suc zero)) l = refl
digits_fit (suc (suc (suc zero))) l = refl
digits_fit (suc (suc (suc (suc zero)))) l = refl
digits_fit (suc (suc (suc (suc (suc zero))))) l = refl
digits_fit (suc (suc (suc (suc (suc (suc zero)))))) l = refl
digits_fit (suc (suc (suc (suc (suc (suc (suc zero))))))) l = refl
digits_fit (suc (suc (suc (suc (suc (suc (suc (suc copy)))))))) l = absurd (omega (arith, l))

globals_fit : (copy : ℕ) → HasNameBytes copy → IsTrue (list_all allows_global (globals_of copy))
globals_fit copy h = simp (h)

starts_fit : (copy : ℕ) → HasNameBytes copy → IsTrue (allows_expr false (starts copy))
starts_fit copy h = simp (of_trees, h)

invariants_fit : (copy : ℕ) → HasNameBytes copy → IsTrue (list_all (allows_invariant false) (invariants_of copy))
invariants_fit copy h = simp (of_trees, h)

actions_fit : (copy : ℕ) → HasNameBytes copy → IsTrue (list_all (allows_action false) (actions_of copy))
actions_fit copy h = simp (of_trees, h)

procs_fit : (copy : ℕ) → HasNameBytes copy → IsTrue (list_all (allows_proc false) (procs_of copy))
procs_fit copy h = simp (of_trees, h)

increment_fits : (copy : ℕ) → HasNameBytes copy → IsTrue (list_all (allows_stmt false) (increment copy))
increment_fits copy h = simp (of_trees, h)

-- ---- of all copies

both_fit : (a b : Expr) → IsTrue (allows_expr false a) → IsTrue (allows_expr false b) → IsTrue (allows_expr false (both a b))
both_fit a b h k = both_is a b ∙ and_from (allows_expr false a) (allows_expr false b) h k
  where
    both_is : (a b : Expr) → allows_expr false (both a b) ≡ (allows_expr false a && allows_expr false b)
    both_is a b = simp (of_trees)

starts_to_fit : (last : ℕ) → last < 8 → IsTrue (allows_expr false (starts_to last))
starts_to_fit zero l = starts_fit 0 (digits_fit 0 l)
starts_to_fit (suc last) l = both_fit (starts_to last) (starts (suc last)) (starts_to_fit last (omega (arith, l))) (starts_fit (suc last) (digits_fit (suc last) l))

main_fits : (n : ℕ) → n ≤ 8 → IsTrue (allows_proc false (main n))
main_fits n l = all_pass (allows_stmt false) increment n (λ copy inside. increment_fits copy (digits_fit copy (omega (arith, inside, l))))

procs_of_all_fit : (n : ℕ) → n ≤ 8 → IsTrue (list_all (allows_proc false) (trial n).procs)
procs_of_all_fit n l =
    list_all-append (allows_proc false) (copies procs_of n) (main n ∷ [])
    ∙ and_from _ _
    (all_pass (allows_proc false) procs_of n (λ copy inside. procs_fit copy (digits_fit copy (omega (arith, inside, l)))))
    (and_from (allows_proc false (main n)) true (main_fits n l) refl)

threads_fit : IsTrue (list_all (allows_thread false) (main_thread 1 ∷ main_thread 2 ∷ []))
threads_fit = simp (of_trees)

pub trials_have_spelling : TrialsHaveSpelling
trials_have_spelling n h =
    let fit : (copy : ℕ) → copy < n → HasNameBytes copy = λ copy inside. digits_fit copy (omega (arith, inside, h.1)) in
    and_from _ _ (all_pass allows_global globals_of n (λ copy inside. globals_fit copy (fit copy inside)))
    (and_from _ _ (starts_to_fit (n - 1) (omega (arith, h.0, h.1)))
    (and_from _ _ (all_pass (allows_invariant false) invariants_of n (λ copy inside. invariants_fit copy (fit copy inside)))
    (and_from _ _ (all_pass (allows_action false) actions_of n (λ copy inside. actions_fit copy (fit copy inside)))
    (and_from _ _ (procs_of_all_fit n h.1) threads_fit))))
