-- Names and numbers are read as they are spelled.
use Rattle.std.proofs.Common.{◌≡◌, ℕ, [], ◌∷◌, Some, refl, ap}
use Rattle.civl_tree.specs.Token.{Token, Named, Reserved, Sign, Number}
use Rattle.civl_phrases.specs.Phrase.{Any, IsReader, IsLeaf}
use Rattle.civl_tree.specs.declared.name.Name.{Name}
use Rattle.civl_tree.specs.Spelling.{name_token}
use Rattle.civl_phrases.specs.Leaf.{name_of, number_of, a_name, a_number}
use Rattle.civl_phrases.proofs.Tokens.{leaf_is}

name_leaf : IsLeaf (λ (n : Name). Unit {0}) name_of name_token
name_leaf = record { gets = λ n h. refl; puts = λ t n e. name_puts t n e; plain = λ n. refl }
  where
    name_puts : (t : Token) (n : Name) → name_of t ≡ Some n → (t ≡ name_token n) × Unit {0}
    name_puts (Named b) n e = (ap Named (ap (λ (m : Name). m.bytes) cc), tt)
    name_puts (Number k) n e = absurd cc
    name_puts (Reserved b) n e = absurd cc
    name_puts (Sign b) n e = absurd cc

pub name_is : (d : ℕ) → IsReader d d Any (λ n. name_token n ∷ []) (λ _. Unit {0}) a_name
unfolding a_name
name_is d = leaf_is d (λ _. Unit {0}) name_of name_token (record { bytes = [] }, tt) name_leaf

number_leaf : IsLeaf (λ (n : ℕ). Unit {0}) number_of Number
number_leaf = record { gets = λ n h. refl; puts = λ t n e. number_puts t n e; plain = λ n. refl }
  where
    number_puts : (t : Token) (n : ℕ) → number_of t ≡ Some n → (t ≡ Number n) × Unit {0}
    number_puts (Named b) n e = absurd cc
    number_puts (Number k) n e = (ap Number cc, tt)
    number_puts (Reserved b) n e = absurd cc
    number_puts (Sign b) n e = absurd cc

pub number_is : (d : ℕ) → IsReader d d Any (λ n. Number n ∷ []) (λ _. Unit {0}) a_number
unfolding a_number
number_is d = leaf_is d (λ _. Unit {0}) number_of Number (0, tt) number_leaf
