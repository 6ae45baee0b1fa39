-- Tables of words and signs.
use Rattle.std.proofs.Common.{◌≡◌, Bool, true, false, cond, List, [], ◌∷◌, Option, Some, None, refl, sym, ap, ◌∙◌}
use Rattle.std.specs.List.{AllByRecursion}
use Rattle.std.specs.Prelude.{IsTrue, ◌&&◌}
use Rattle.civl_tree.specs.Token.{Token}
use Rattle.civl_phrases.specs.Bracket.{Plain, side}
use Rattle.civl_phrases.specs.Reader.{is_same}
use Rattle.civl_phrases.specs.Table.{lookup, guarded, form_in}
use Rattle.civl_phrases.specs.Phrase.{IsLeaf}
use Rattle.civl_phrases.proofs.Tokens.{same_token}

-- ---- tables of words and signs

module _ {A : Type 0} (put : A → Token) (has : A → Bool) where
  lookup_go : (b : Bool) (k t : Token) (v a : A) (o : Option A) → is_same k t ≡ b → k ≡ put v → (o ≡ Some a → t ≡ put a) → cond b (Some v) o ≡ Some a → t ≡ put a
  lookup_go true k t v a o same is ih e = same_token k t same ∙ is ∙ ap put (some_of v a e)
    where
      some_of : (v a : A) → Some v ≡ Some a → v ≡ a
      some_of v a e = cc
  lookup_go false k t v a o same is ih e = ih e

  pub lookup_puts : (table : List (Token × A)) → AllByRecursion (λ p. p.0 ≡ put p.1) table → (t : Token) (a : A) → lookup table t ≡ Some a → t ≡ put a
  lookup_puts [] h t a e = absurd cc
  lookup_puts (p ∷ ps) h t a e = lookup_go (is_same p.0 t) p.0 t p.1 a (lookup ps t) refl h.0 (λ e. lookup_puts ps h.1 t a e) e

  guarded_gives : (o : Option A) (a : A) → guarded has o ≡ Some a → (o ≡ Some a) × IsTrue (has a)
  guarded_gives None a e = absurd cc
  guarded_gives (Some v) a e = go (has v) refl e
    where
      go : (b : Bool) → has v ≡ b → cond b (Some v) None ≡ Some a → (Some v ≡ Some a) × IsTrue (has a)
      go true h e = (e, ap has (some_of v a (sym e)) ∙ h)
        where
          some_of : (v a : A) → Some a ≡ Some v → a ≡ v
          some_of v a e = cc
      go false h e = absurd cc

  pub table_leaf : (table : List (Token × A)) → AllByRecursion (λ p. p.0 ≡ put p.1) table → ((a : A) → lookup table (put a) ≡ Some a) → ((a : A) → side (put a) ≡ Plain)
      → IsLeaf (λ a. IsTrue (has a)) (λ t. guarded has (lookup table t)) put
  table_leaf table all found plain = record {
    gets = λ a h. ap (guarded has) (found a) ∙ ap (λ b. cond b (Some a) None) h;
    puts = λ t a e. let g = guarded_gives (lookup table t) a e in (lookup_puts table all t a g.0, g.1);
    plain = plain;
  }

pub and_parts : (x y : Bool) → IsTrue (x && y) → IsTrue x × IsTrue y
and_parts true y h = (refl, h)
and_parts false y h = absurd cc

pub form_has : {K : Type 0} (has : K → Bool) (table : List (Token × K)) (o : Option Token) (k : K) → form_in has table o ≡ Some k → IsTrue (has k)
form_has {K} has table None k e = absurd cc
form_has {K} has table (Some t) k e = go (lookup table t) e
  where
    found : (b : Bool) (v : K) → has v ≡ b → cond b (Some v) None ≡ Some k → IsTrue (has k)
    found true v h e = let same : v ≡ k = cc in ap has (sym same) ∙ h
    found false v h e = absurd cc

    go : (o : Option K) → guarded has o ≡ Some k → IsTrue (has k)
    go None e = absurd cc
    go (Some v) e = found (has v) v refl e
