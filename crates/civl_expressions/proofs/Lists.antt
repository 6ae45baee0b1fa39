-- What holds of each of a list.
use Rattle.std.proofs.Common.{Bool, List, [], ◌∷◌, map, refl}
use Rattle.std.specs.Prelude.{IsTrue}
use Rattle.std.specs.List.{AllByRecursion, list_all}
use Rattle.std.proofs.lemmas.Bool.{and_from}
use Rattle.civl_tree.specs.SpellingDomain.{all_hold}
use Rattle.civl_phrases.proofs.Tables.{and_parts}

module _ {A : Type 0} (has : A → Bool) where
  pub all_from : (xs : List A) → AllByRecursion (λ x. IsTrue (has x)) xs → IsTrue (list_all has xs)
  all_from [] h = refl
  all_from (x ∷ xs) h = and_from (has x) (list_all has xs) h.0 (all_from xs h.1)

  pub all_to : (xs : List A) → IsTrue (list_all has xs) → AllByRecursion (λ x. IsTrue (has x)) xs
  all_to [] h = tt
  all_to (x ∷ xs) h = let k = and_parts (has x) (list_all has xs) h in (k.0, all_to xs k.1)

-- the same of tests that a fold has made
module _ {A : Type 0} (has : A → Bool) where
  pub held_from : (xs : List A) → AllByRecursion (λ x. IsTrue (has x)) xs → IsTrue (all_hold (map has xs))
  held_from [] h = refl
  held_from (x ∷ xs) h = and_from (has x) (all_hold (map has xs)) h.0 (held_from xs h.1)

  pub held_to : (xs : List A) → IsTrue (all_hold (map has xs)) → AllByRecursion (λ x. IsTrue (has x)) xs
  held_to [] h = tt
  held_to (x ∷ xs) h = let k = and_parts (has x) (all_hold (map has xs)) h in (k.0, held_to xs k.1)
