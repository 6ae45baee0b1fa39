-- What a reader of whole texts says of the tokens that may stand at a place.
use Rattle.std.proofs.Common.{◌≡◌, ◌↔◌, ℕ, ◌+◌, Bool, true, false, IsTrue, nat_eq, filter, Result, Ok, Err, List, [], ◌∷◌, ◌++◌, length, refl, sym, subst, ◌∙◌, inl, inr}
use Rattle.civl_tree.specs.Token.{Token}
use Rattle.civl_phrases.specs.declared.halt.Stop.{Stop}
use Rattle.civl_phrases.specs.declared.halt.Stop.TheVariants.{NotHere, Deep}
use Rattle.civl_phrases.specs.Reader.{Reader}
use Rattle.civl_phrases.specs.Phrase.{AtEnd, IsReader}
use Rattle.civl_phrases.specs.Exact.{IsRight, placed}
use Rattle.civl_phrases.proofs.Exactly.{is_exact}
use Rattle.civl_expected.specs.Expected.{MayStand, MayEnd, AreThose}
use Rattle.civl_expected.proofs.Viable.{read_stands, not_here_stands, deep_stands, read_ends, not_here_goes_on, deep_goes_on}

-- what an answer to so many tokens says of the last
abbrev pub stands : {A : Type 0} → ℕ → Result A Stop → Bool
stands number (Ok a) = true
stands number (Err (NotHere place)) = nat_eq place number
stands number (Err (Deep place)) = nat_eq (place + 1) number

-- what an answer says of the end
abbrev pub ends : {A : Type 0} → Result A Stop → Bool
ends (Ok a) = true
ends (Err stop) = false

module _ {A : Type 0} {s : A → List Token} {f : A → Type 0} (r : Reader A) (p : IsReader 64 64 AtEnd s f r) where
  -- the reader's answer to some tokens
  abbrev pub answer : List Token → Result A Stop
  answer tokens = placed (length tokens) (r tokens)

  abbrev pub stands_by : List Token → Token → Bool
  stands_by front token = stands (length (front ++ token ∷ [])) (answer (front ++ token ∷ []))

  stands_is : (front : List Token) (token : Token) (y : Result A Stop) → IsRight 64 s f (front ++ token ∷ []) y
      → IsTrue (stands (length (front ++ token ∷ [])) y) ↔ MayStand s f front token
  stands_is front token (Ok a) h = (λ _. read_stands s f front token (front ++ token ∷ []) refl a h, λ _. refl)
  stands_is front token (Err (NotHere place)) h = not_here_stands s f front token (front ++ token ∷ []) refl (length (front ++ token ∷ [])) place refl h
  stands_is front token (Err (Deep place)) h = deep_stands s f front token (front ++ token ∷ []) refl (length (front ++ token ∷ [])) place refl h

  not_so : false ≡ true → ⊥
  not_so e = cc

  ends_is : (tokens : List Token) (y : Result A Stop) → IsRight 64 s f tokens y → IsTrue (ends y) ↔ MayEnd s f tokens
  ends_is tokens (Ok a) h = (λ _. read_ends s f tokens a h, λ _. refl)
  ends_is tokens (Err (NotHere place)) h = (λ e. absurd (not_so e), λ m. absurd (not_here_goes_on s f tokens place h m))
  ends_is tokens (Err (Deep place)) h = (λ e. absurd (not_so e), λ m. absurd (deep_goes_on s f tokens place h m))

  chosen_by : (holds : Token → Type 0) (test : Token → Bool) → ((token : Token) → IsTrue (test token) ↔ holds token) → (all : List Token) → AreThose holds all (filter test all)
  chosen_by holds test same [] = refl
  chosen_by holds test same (token ∷ all) = go (test token) refl (same token) (chosen_by holds test same all)
    where
      go : (b : Bool) → test token ≡ b → IsTrue (test token) ↔ holds token → AreThose holds all (filter test all) → AreThose holds (token ∷ all) (filter test (token ∷ all))
      go true e is rest = inl (is.0 e, (filter test all, rw e refl, rest))
      go false e is rest = inr (λ h. not_so (sym e ∙ is.1 h), rw e rest)

  pub expects : (front all chosen : List Token) → filter (stands_by front) all ≡ chosen → AreThose (MayStand s f front) all chosen
  expects front all chosen e =
      subst (AreThose (MayStand s f front) all) e
      (chosen_by (MayStand s f front) (stands_by front) (λ token. stands_is front token (answer (front ++ token ∷ [])) (is_exact p (front ++ token ∷ [])).0) all)

  pub ends_by : (tokens : List Token) (end : Bool) → ends (answer tokens) ≡ end → IsTrue end ↔ MayEnd s f tokens
  ends_by tokens end e = subst (λ b. IsTrue b ↔ MayEnd s f tokens) e (ends_is tokens (answer tokens) (is_exact p tokens).0)
