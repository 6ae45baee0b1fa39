-- Names are read as they are spelled.
use Rattle.std.proofs.Common.{◌≡◌, ℕ, Bool, true, false, cond, [], ◌∷◌, Some, None, refl, sym, ap, ◌∙◌}
use Rattle.std.specs.Prelude.{codes}
use Rattle.civl_tree.specs.Token.{Token, Named, Reserved, Sign, Number}
use Rattle.civl_tree.specs.Spelling.{name_token}
use Rattle.civl_tree.specs.SpellingDomain.{allows_name}
use Rattle.civl_tree.specs.declared.name.Name.{Name}
use Rattle.civl_phrases.specs.Phrase.{Any, IsReader, IsLeaf}
use Rattle.civl_phrases.proofs.Tokens.{leaf_is}
use Rattle.civl_expressions.specs.readers.Names.{proper_name, name_at, FitsName}

named_puts : (b : Bool) (m n : Name) → allows_name m ≡ b → cond b (Some m) None ≡ Some n → (Named m.bytes ≡ name_token n) × FitsName n
named_puts true m n h e = let same : m ≡ n = cc in (ap name_token same, ap allows_name (sym same) ∙ h)
named_puts false m n h e = absurd cc

name_puts : (t : Token) (n : Name) → proper_name t ≡ Some n → (t ≡ name_token n) × FitsName n
name_puts (Named b) n e = let m : Name = record { bytes = b } in named_puts (allows_name m) m n refl e
name_puts (Number k) n e = absurd cc
name_puts (Reserved b) n e = absurd cc
name_puts (Sign b) n e = absurd cc

name_leaf : IsLeaf FitsName proper_name name_token
name_leaf = record { gets = λ n h. ap (λ b. cond b (Some n) None) h; puts = λ t n e. name_puts t n e; plain = λ n. refl }

pub a_name : Name
a_name = record { bytes = codes "a" }

pub a_name_fits : FitsName a_name
unfolding a_name
a_name_fits = refl

pub name_is : (d : ℕ) → IsReader d d Any (λ n. name_token n ∷ []) FitsName name_at
unfolding name_at
name_is d = leaf_is d FitsName proper_name name_token (a_name, a_name_fits) name_leaf
