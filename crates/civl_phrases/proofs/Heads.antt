-- What the next token of a phrase tells.
use Rattle.std.proofs.Common.{◌≡◌, Bool, true, false, List, [], ◌∷◌, ◌++◌, map, Option, Some, None, refl, sym, ap, ◌∙◌, append_assoc, inl, inr, ◌⊎◌}
use Rattle.std.specs.List.{AllByRecursion}
use Rattle.civl_tree.specs.Token.{Token}
use Rattle.civl_phrases.specs.Reader.{lookahead, is_same, begins}
use Rattle.civl_tree.specs.Spelling.{joined}
use Rattle.civl_phrases.specs.List.{perhaps}
use Rattle.civl_phrases.specs.Phrase.{Any, AtEnd, PerhapsFits, Heads, Image}
use Rattle.civl_phrases.proofs.Tokens.{same_token}

-- ---- what stands first

pub heads_after : {A K : Type 0} {z : List Token → Type 0} {s : A → List Token} {f : A → Type 0} (t : Token) (test : Option Token → K) (k : K) → test (Some t) ≡ k → Heads z (λ a. t ∷ s a) f test k
heads_after t test k e = record { next = λ a rest fits ends. e }

pub heads_leaf : {A K : Type 0} {z : List Token → Type 0} {f : A → Type 0} (put : A → Token) (test : Option Token → K) (k : K) → ((a : A) → test (Some (put a)) ≡ k) → Heads z (λ a. put a ∷ []) f test k
heads_leaf put test k e = record { next = λ a rest fits ends. e a }

pub heads_both : {A B K : Type 0} (z : List Token → Type 0) {s1 : A → List Token} {f1 : A → Type 0} (s2 : A → B → List Token) (f2 : A → B → Type 0) (test : Option Token → K) (k : K)
    → Heads Any s1 f1 test k → Heads z (λ (p : A × B). s1 p.0 ++ s2 p.0 p.1) (λ p. f1 p.0 × f2 p.0 p.1) test k
heads_both z {s1} s2 f2 test k h = record { next = λ p rest fits ends. ap (λ w. test (lookahead w)) (append_assoc (s1 p.0) (s2 p.0 p.1) rest) ∙ h.next p.0 (s2 p.0 p.1 ++ rest) fits.0 tt }

pub heads_image : {A B K : Type 0} {z : List Token → Type 0} {s : A → List Token} {f : A → Type 0} (g : A → B) (s' : B → List Token) (test : Option Token → K) (k : K)
    → ((a : A) → s' (g a) ≡ s a) → Heads z s f test k → Heads z s' (Image g f) test k
heads_image g s' test k spells h = record { next = λ b rest fits ends. ap (λ v. test (lookahead (s' v ++ rest))) (sym fits.1) ∙ ap (λ w. test (lookahead (w ++ rest))) (spells fits.0) ∙ h.next fits.0 rest fits.2 ends }

-- a token that no form begins with
excludes_some : {K : Type 0} (form : Option Token → Option K) (t u : Token) → form (Some t) ≡ None → (k : K) → form (Some u) ≡ Some k → (b : Bool) → is_same t u ≡ b → b ≡ false
excludes_some form t u none k e false same = refl
excludes_some form t u none k e true same = absurd (some_none k (sym e ∙ ap (λ v. form (Some v)) (same_token t u same) ∙ none))
  where
    some_none : {K : Type 0} (k : K) → Some k ≡ None → ⊥
    some_none k e = cc

pub excludes : {K : Type 0} (form : Option Token → Option K) (t : Token) → form (Some t) ≡ None → (o : Option Token) (k : K) → form o ≡ Some k → begins t o ≡ false
excludes form t none None k e = refl
excludes form t none (Some u) k e = excludes_some form t u none k e (is_same t u) refl

-- ---- heads of what is made of parts

pub heads_refit : {A K : Type 0} {z : List Token → Type 0} {s : A → List Token} {f : A → Type 0} (f' : A → Type 0) (test : Option Token → K) (k : K) → ((a : A) → f' a → f a) → Heads z s f test k → Heads z s f' test k
heads_refit f' test k back h = record { next = λ a rest fits ends. h.next a rest (back a fits) ends }

pub heads_mapped : {A B K : Type 0} {z : List Token → Type 0} {s : A → List Token} {f : A → Type 0} (g : A → B) (s' : B → List Token) (f' : B → Type 0) (test : Option Token → K) (k : K)
    → ((a : A) → f a → s' (g a) ≡ s a) → ((b : B) → f' b → Image g f b) → Heads z s f test k → Heads z s' f' test k
heads_mapped {s} g s' f' test k spells back h = record {
  next = λ b rest fits ends. let i = back b fits in
      ap (λ v. test (lookahead (s' v ++ rest))) (sym i.1) ∙ ap (λ w. test (lookahead (w ++ rest))) (spells i.0 i.2) ∙ h.next i.0 rest i.2 ends;
}

pub heads_either : {A K : Type 0} {z : List Token → Type 0} {s : A → List Token} {f1 f2 : A → Type 0} (test : Option Token → K) (k : K) → Heads z s f1 test k → Heads z s f2 test k → Heads z s (λ a. f1 a ⊎ f2 a) test k
heads_either test k h1 h2 = record { next = λ a rest fits ends. elim fits [ inl h ↦ h1.next a rest h ends | inr h ↦ h2.next a rest h ends ] }

-- at the end of the tokens
pub heads_end : {K : Type 0} (test : Option Token → K) (k : K) → test None ≡ k → Heads AtEnd (λ (u : Unit {0}). []) (λ _. Unit {0}) test k
heads_end test k e = record { next = λ u rest fits ends. ap (λ w. test (lookahead w)) ends ∙ e }

-- a list that may be empty, and what follows
pub heads_repeated : {A B K : Type 0} {z : List Token → Type 0} {s1 : A → List Token} {f1 : A → Type 0} {s2 : B → List Token} {f2 : B → Type 0} (test : Option Token → K) (k : K)
    → Heads Any s1 f1 test k → Heads z s2 f2 test k → Heads z (λ (v : List A × B). joined (map s1 v.0) ++ s2 v.1) (λ v. AllByRecursion f1 v.0 × f2 v.1) test k
heads_repeated {A} {B} {z} {s1} {f1} {s2} {f2} test k h1 h2 = record { next = λ v rest fits ends. go v.0 v.1 rest fits.0 fits.1 ends }
  where
    go : (xs : List A) (b : B) (rest : List Token) → AllByRecursion f1 xs → f2 b → z rest → test (lookahead ((joined (map s1 xs) ++ s2 b) ++ rest)) ≡ k
    go [] b rest fits fits2 ends = h2.next b rest fits2 ends
    go (a ∷ xs) b rest fits fits2 ends = ap (λ w. test (lookahead w)) (ap (λ w. w ++ rest) (append_assoc (s1 a) (joined (map s1 xs)) (s2 b)) ∙ append_assoc (s1 a) (joined (map s1 xs) ++ s2 b) rest)
        ∙ h1.next a ((joined (map s1 xs) ++ s2 b) ++ rest) fits.0 tt

-- a part that may be absent, and what follows
pub heads_option : {A B K : Type 0} {z : List Token → Type 0} {s1 : A → List Token} {f1 : A → Type 0} {s2 : B → List Token} {f2 : B → Type 0} (test : Option Token → K) (k : K)
    → Heads Any s1 f1 test k → Heads z s2 f2 test k → Heads z (λ (v : Option A × B). perhaps s1 v.0 ++ s2 v.1) (λ v. PerhapsFits f1 v.0 × f2 v.1) test k
heads_option {A} {B} {z} {s1} {f1} {s2} {f2} test k h1 h2 = record { next = λ v rest fits ends. go v.0 v.1 rest fits.0 fits.1 ends }
  where
    go : (o : Option A) (b : B) (rest : List Token) → PerhapsFits f1 o → f2 b → z rest → test (lookahead ((perhaps s1 o ++ s2 b) ++ rest)) ≡ k
    go None b rest fits fits2 ends = h2.next b rest fits2 ends
    go (Some a) b rest fits fits2 ends = ap (λ w. test (lookahead w)) (append_assoc (s1 a) (s2 b) rest) ∙ h1.next a (s2 b ++ rest) fits tt
