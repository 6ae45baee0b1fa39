-- What each copy has, all copies have.
use Rattle.std.proofs.Common.{◌≡◌, ℕ, zero, suc, ◌+◌, ◌-◌, ◌<◌, ◌≤◌, Bool, List, [], ◌++◌, length, refl, sym, ap, ◌∙◌, arith}
use Rattle.std.proofs.lemmas.List.{length-append}
use Rattle.std.proofs.lemmas.List.Folds.{list_all-append}
use Rattle.std.proofs.lemmas.List.Elements.{All-append}
use Rattle.std.proofs.lemmas.Bool.{and_from}
use Rattle.std.specs.Prelude.{IsTrue}
use Rattle.std.specs.List.{All, list_all}
use Rattle.civl_trial.specs.Phrases.{both}
use Rattle.civl_trial.specs.Copies.{starts}
use Rattle.civl_trial.specs.Trial.{copies, starts_to}

-- one copy more
pub copies_more : {X : Type 0} (parts : ℕ → List X) (n : ℕ) → copies parts (n + 1) ≡ copies parts n ++ parts n
copies_more parts n = let next : n + 1 ≡ suc n = omega arith in ap (copies parts) next

pub starts_more : (last : ℕ) → 1 ≤ last → starts_to (last + 1 - 1) ≡ both (starts_to (last - 1)) (starts last)
starts_more zero l = absurd (omega (arith, l))
starts_more (suc last) l = let next : suc last + 1 - 1 ≡ suc last = omega arith in let here : suc last - 1 ≡ last = omega arith in ap starts_to next ∙ ap (λ (m : ℕ). both (starts_to m) (starts (suc last))) (sym here)

-- a test that each part of each copy passes
pub all_pass : {X : Type 0} (p : X → Bool) (parts : ℕ → List X) (n : ℕ) → ((copy : ℕ) → copy < n → IsTrue (list_all p (parts copy))) → IsTrue (list_all p (copies parts n))
all_pass p parts zero h = refl
all_pass p parts (suc n) h =
    list_all-append p (copies parts n) (parts n)
    ∙ and_from (list_all p (copies parts n)) (list_all p (parts n)) (all_pass p parts n (λ copy l. h copy (omega (arith, l)))) (h n (omega arith))

-- a property that each part of each copy has
pub all_have : {X : Type 0} (P : X → Type 0) (parts : ℕ → List X) (n : ℕ) → All P [] → ((copy : ℕ) → All P (parts copy)) → All P (copies parts n)
all_have P parts zero none h = none
all_have P parts (suc n) none h = All-append P (copies parts n) (parts n) (all_have P parts n none h) (h n)

-- how many parts all copies have, where the numbers rise by those of one copy
pub all_counted : {X : Type 0} (parts : ℕ → List X) (k : ℕ) (f : ℕ → ℕ) (n : ℕ) → f 0 ≡ 0 → ((m : ℕ) → f (suc m) ≡ f m + k) → ((copy : ℕ) → length (parts copy) ≡ k) → length (copies parts n) ≡ f n
all_counted parts k f zero none more h = sym none
all_counted parts k f (suc n) none more h = length-append (copies parts n) (parts n) ∙ omega (arith, all_counted parts k f n none more h, h n, more n)
