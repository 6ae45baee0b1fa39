-- Each token of a trial program may stand in a text.
use Rattle.std.proofs.Common.{◌≡◌, ℕ, zero, suc, ◌-◌, Bool, true, List, [], ◌∷◌, ◌++◌, map, refl, sym, ◌∙◌, ap, subst, append_assoc, codes}
use Rattle.std.proofs.lemmas.List.{map-append}
use Rattle.std.proofs.lemmas.List.Folds.{list_all-append}
use Rattle.std.proofs.lemmas.Bool.{and_parts, ltb-true, and_from}
use Rattle.std.specs.Prelude.{IsTrue, ◌^◌, nat_lt}
use Rattle.std.specs.List.{AllByRecursion, list_all}
use Rattle.civl_tree.proofs.Trees.{of_trees}
use Rattle.civl_tree.proofs.Raising.{raised_has_spelling}
use Rattle.civl_tree.proofs.Standing.{tokens_may_stand}
use Rattle.civl_tree.specs.declared.expr.Expr.{Expr}
use Rattle.civl_tree.specs.Token.{Token, Named, Reserved, Sign, Number, IsToken}
use Rattle.civl_tree.specs.Spelling.{joined, spell_expr}
use Rattle.civl_tree.specs.SpellingStmt.{spell_stmt}
use Rattle.civl_tree.specs.SpellingProgram.{spell_global, spell_init, spell_invariant, spell_action, spell_proc, spell_thread, spell_program}
use Rattle.civl_tree.specs.SpellingLaws.{may_stand}
use Rattle.civl_tree.specs.Raised.{raised}
use Rattle.civl_trial.specs.Phrases.{both}
use Rattle.civl_trial.specs.Copies.{starts, globals_of, invariants_of, actions_of, procs_of}
use Rattle.civl_trial.specs.Trial.{copies, starts_to, increment, main, main_thread, trial}
use Rattle.civl_trial.specs.Laws.{TrialTokensMayStand}
use Rattle.civl_trial.proofs.Naming.{trials_have_spelling}

-- ---- numbers of 32 bits

abbrev is_small : Token → Bool
is_small (Named bytes) = true
is_small (Reserved bytes) = true
is_small (Sign bytes) = true
is_small (Number value) = nat_lt value (2 ^ 32)

abbrev AreSmall : List Token → Type 0
AreSmall tokens = IsTrue (list_all is_small tokens)

chain : (xs ys : List Token) → AreSmall xs → AreSmall ys → AreSmall (xs ++ ys)
chain xs ys h k = list_all-append is_small xs ys ∙ and_from (list_all is_small xs) (list_all is_small ys) h k

joined_both : (xs ys : List (List Token)) → joined (xs ++ ys) ≡ joined xs ++ joined ys
joined_both [] ys = refl
joined_both (x ∷ xs) ys = ap (λ (l : List Token). x ++ l) (joined_both xs ys) ∙ sym (append_assoc x (joined xs) (joined ys))

spelled_both : {X : Type 0} (spell : X → List Token) (xs ys : List X) → AreSmall (joined (map spell xs)) → AreSmall (joined (map spell ys)) → AreSmall (joined (map spell (xs ++ ys)))
spelled_both spell xs ys h k =
    subst AreSmall (sym (ap joined (map-append spell xs ys) ∙ joined_both (map spell xs) (map spell ys)))
    (chain (joined (map spell xs)) (joined (map spell ys)) h k)

all_small : {X : Type 0} (spell : X → List Token) (parts : ℕ → List X) (n : ℕ) → ((copy : ℕ) → AreSmall (joined (map spell (parts copy)))) → AreSmall (joined (map spell (copies parts n)))
all_small spell parts zero h = refl
all_small spell parts (suc n) h = spelled_both spell (copies parts n) (parts n) (all_small spell parts n h) (h n)

globals_small : (copy : ℕ) → AreSmall (joined (map spell_global (globals_of copy)))
globals_small copy = refl

invariants_small : (copy : ℕ) → AreSmall (joined (map spell_invariant (invariants_of copy)))
invariants_small copy = simp (of_trees)

actions_small : (copy : ℕ) → AreSmall (joined (map spell_action (actions_of copy)))
actions_small copy = simp (of_trees)

procs_small : (copy : ℕ) → AreSmall (joined (map spell_proc (procs_of copy)))
procs_small copy = simp (of_trees)

increment_small : (copy : ℕ) → AreSmall (joined (map spell_stmt (increment copy)))
increment_small copy = simp (of_trees)

starts_small : (copy : ℕ) → AreSmall (spell_expr (starts copy))
starts_small copy = simp (of_trees)

both_small : (a b : Expr) → AreSmall (spell_expr a) → AreSmall (spell_expr b) → AreSmall (spell_expr (both a b))
both_small a b h k = subst AreSmall (sym (both_is a b)) (chain (spell_expr a) _ h (chain (spell_expr b) _ k refl))
  where
    both_is : (a b : Expr) → spell_expr (both a b) ≡ Sign (codes "(") ∷ spell_expr a ++ (Sign (codes "&&") ∷ spell_expr b ++ Sign (codes ")") ∷ [])
    both_is a b = simp (of_trees)

starts_to_small : (last : ℕ) → AreSmall (spell_expr (starts_to last))
starts_to_small zero = starts_small 0
starts_to_small (suc last) = both_small (starts_to last) (starts (suc last)) (starts_to_small last) (starts_small (suc last))

main_small : (n : ℕ) → AreSmall (spell_proc (main n))
main_small n = chain (joined (map spell_stmt (copies increment n))) _ (all_small spell_stmt increment n increment_small) refl

threads_small : AreSmall (joined (map spell_thread (main_thread 1 ∷ main_thread 2 ∷ [])))
threads_small = simp (of_trees)

procs_of_all_small : (n : ℕ) → AreSmall (joined (map spell_proc (trial n).procs))
procs_of_all_small n = spelled_both spell_proc (copies procs_of n) (main n ∷ []) (all_small spell_proc procs_of n procs_small) (chain (spell_proc (main n)) [] (main_small n) refl)

declarations_small : (n : ℕ) → AreSmall (joined (map spell_global (copies globals_of n)) ++ (spell_init (starts_to (n - 1)) ++ (joined (map spell_invariant (copies invariants_of n)) ++ (joined (map spell_action (copies actions_of n)) ++ (joined (map spell_proc (trial n).procs) ++ joined (map spell_thread (trial n).threads))))))
declarations_small n =
    chain (joined (map spell_global (copies globals_of n))) _ (all_small spell_global globals_of n globals_small)
    (chain (spell_init (starts_to (n - 1))) _ (chain (spell_expr (starts_to (n - 1))) _ (starts_to_small (n - 1)) refl)
    (chain (joined (map spell_invariant (copies invariants_of n))) _ (all_small spell_invariant invariants_of n invariants_small)
    (chain (joined (map spell_action (copies actions_of n))) _ (all_small spell_action actions_of n actions_small)
    (chain (joined (map spell_proc (trial n).procs)) _ (procs_of_all_small n) threads_small))))

-- ---- what may stand in a text, and has a number of 32 bits where it is one

stand : (tokens : List Token) → IsTrue (list_all may_stand tokens) → AreSmall tokens → AllByRecursion IsToken tokens
stand [] h k = tt
stand (token ∷ tokens) h k =
    let may = and_parts (may_stand token) (list_all may_stand tokens) h in
    let small = and_parts (is_small token) (list_all is_small tokens) k in
    (token_stands token may.0 small.0, stand tokens may.1 small.1)
  where
    token_stands : (token : Token) → IsTrue (may_stand token) → IsTrue (is_small token) → IsToken token
    token_stands (Named bytes) h k = h
    token_stands (Reserved bytes) h k = h
    token_stands (Sign bytes) h k = h
    token_stands (Number value) h k = ltb-true value (2 ^ 32) k

pub trial_tokens_may_stand : TrialTokensMayStand
trial_tokens_may_stand n h =
    let has = trials_have_spelling n h in (
      stand (spell_program (trial n)) (tokens_may_stand.0 (trial n) has) (declarations_small n),
      stand (spell_program (raised (trial n))) (tokens_may_stand.0 (raised (trial n)) (raised_has_spelling (trial n) has)) (declarations_small n),
    )
