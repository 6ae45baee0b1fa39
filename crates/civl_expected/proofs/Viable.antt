-- What an answer to the tokens before a place and one more says of this one.
use Rattle.std.proofs.Common.{◌≡◌, ℕ, zero, suc, ◌+◌, ◌≤◌, ◌<◌, List, [], ◌∷◌, ◌++◌, length, take, drop, ◌⊎◌, ◌↔◌, IsTrue, nat_eq, refl, sym, ap, subst, ◌∙◌, append_assoc, arith, inl, inr}
use Rattle.std.proofs.lemmas.List.{append-nil, length-append, take-append-drop}
use Rattle.std.proofs.lemmas.Bool.{cases_lt, cases_eq, eq-eqb, eqb-true}
use Rattle.std.specs.List.{count_by}
use Rattle.civl_tree.specs.Token.{Token}
use Rattle.civl_phrases.specs.Bracket.{IsShallow, opens, closes}
use Rattle.civl_phrases.specs.Reader.{lookahead}
use Rattle.civl_phrases.specs.Exact.{IsPrefix, IsRead, IsNotHere, IsDeep}
use Rattle.civl_expected.specs.Expected.{MayStand, MayEnd}

-- ---- fronts

take_within : (tokens : List Token) (i k : ℕ) → i ≤ k → take i (take k tokens) ≡ take i tokens
take_within tokens zero k h = refl
take_within [] (suc i) zero h = refl
take_within [] (suc i) (suc k) h = refl
take_within (t ∷ tokens) (suc i) zero h = absurd (omega arith)
take_within (t ∷ tokens) (suc i) (suc k) h = ap (λ w. t ∷ w) (take_within tokens i k (omega arith))

take_beyond : (tokens : List Token) (i k : ℕ) → k ≤ i → take i (take k tokens) ≡ take k tokens
take_beyond tokens zero zero h = refl
take_beyond tokens zero (suc k) h = absurd (omega arith)
take_beyond tokens (suc i) zero h = refl
take_beyond [] (suc i) (suc k) h = refl
take_beyond (t ∷ tokens) (suc i) (suc k) h = ap (λ w. t ∷ w) (take_beyond tokens i k (omega arith))

take_whole : (tokens : List Token) (k : ℕ) → length tokens ≤ k → take k tokens ≡ tokens
take_whole [] zero h = refl
take_whole [] (suc k) h = refl
take_whole (t ∷ tokens) zero h = absurd (omega arith)
take_whole (t ∷ tokens) (suc k) h = ap (λ w. t ∷ w) (take_whole tokens k (omega arith))

take_before : (front : List Token) (token : Token) (i : ℕ) → i ≤ length front → take i (front ++ token ∷ []) ≡ take i front
take_before front token zero h = refl
take_before [] token (suc i) h = absurd (omega arith)
take_before (t ∷ front) token (suc i) h = ap (λ w. t ∷ w) (take_before front token i (omega arith))

lookahead_left : (tokens more : List Token) (i : ℕ) → i < length tokens → lookahead (drop i tokens ++ more) ≡ lookahead (drop i tokens)
lookahead_left [] more i h = absurd (omega arith)
lookahead_left (t ∷ tokens) more zero h = refl
lookahead_left (t ∷ tokens) more (suc i) h = lookahead_left tokens more i (omega arith)

-- these tokens have at most d brackets open at their end
abbrev AtMost : ℕ → List Token → Type 0
AtMost d tokens = count_by opens tokens ≤ count_by closes tokens + d

-- a front of shallow tokens is shallow
pub shallow_front : (d : ℕ) (tokens : List Token) (k : ℕ) → IsShallow d tokens → IsShallow d (take k tokens)
shallow_front d tokens k h i = go (cases_lt i k)
  where
    go : (i < k) ⊎ (k ≤ i) → AtMost d (take i (take k tokens))
    go (inl before) = subst (AtMost d) (sym (take_within tokens i k (omega arith))) (h i)
    go (inr behind) = subst (AtMost d) (sym (take_beyond tokens i k behind)) (h k)

-- ---- the last of some tokens

module _ {A : Type 0} (s : A → List Token) (f : A → Type 0) (front : List Token) (token : Token) (tokens : List Token) (e : tokens ≡ front ++ token ∷ []) where
  long : length tokens ≡ length front + 1
  long = ap length e ∙ length-append front (token ∷ [])

  shallow_before : (k : ℕ) → length front ≤ k → IsShallow 64 (take k tokens) → IsShallow 64 front
  shallow_before k h shallow =
      subst (IsShallow 64) (take_within tokens (length front) k h ∙ ap (take (length front)) e ∙ take_before front token (length front) (omega arith) ∙ take_whole front (length front) (omega arith))
      (shallow_front 64 (take k tokens) (length front) shallow)

  pub read_stands : (a : A) → IsRead 64 s f tokens a → MayStand s f front token
  read_stands a h = record {
    shallow = shallow_before (length tokens) (omega (arith, long)) (subst (IsShallow 64) (sym (take_whole tokens (length tokens) (omega arith))) h.shallow);
    begins = (a, [], h.fits, sym h.parts ∙ e ∙ sym (append-nil (front ++ token ∷ [])));
  }

  -- a place at the end
  not_here_end : (place : ℕ) → place ≡ length tokens → IsNotHere 64 s f tokens place → MayStand s f front token
  not_here_end place here h =
      let all : take place tokens ≡ tokens = take_whole tokens place (omega arith) in
      record {
        shallow = shallow_before place (omega (arith, long)) h.shallow;
        begins = subst (IsPrefix s f) (all ∙ e) h.begun;
      }

  not_here_before : (place : ℕ) → place < length tokens → IsNotHere 64 s f tokens place → MayStand s f front token → ⊥
  not_here_before place before h m =
      let a = m.begins.0 in
      let more = m.begins.1 in
      h.stops a (drop place tokens ++ more) m.begins.2
      (m.begins.3 ∙ ap (λ w. w ++ more) (sym e) ∙ ap (λ w. w ++ more) (sym (take-append-drop place tokens)) ∙ append_assoc (take place tokens) (drop place tokens) more)
      (lookahead_left tokens more place before)

  not_here_is : (place : ℕ) → IsNotHere 64 s f tokens place → IsTrue (nat_eq place (length tokens)) ↔ MayStand s f front token
  not_here_is place h = (λ t. not_here_end place (eqb-true place (length tokens) t) h, λ m. go m (cases_eq place (length tokens)))
    where
      go : MayStand s f front token → (place ≡ length tokens) ⊎ (place ≡ length tokens → ⊥) → IsTrue (nat_eq place (length tokens))
      go m (inl same) = eq-eqb place (length tokens) same
      go m (inr other) = absurd (not_here_before place (let within = h.within in omega arith) h m)

  deep_end : (place : ℕ) → place + 1 ≡ length tokens → IsDeep 64 s f tokens place → MayStand s f front token
  deep_end place here h =
      let all : take (place + 1) tokens ≡ tokens = take_whole tokens (place + 1) (omega arith) in
      record {
        shallow = shallow_before place (omega (arith, long)) h.shallow;
        begins = subst (IsPrefix s f) (all ∙ e) h.begun;
      }

  deep_before : (place : ℕ) → place + 1 ≤ length front → IsDeep 64 s f tokens place → MayStand s f front token → ⊥
  deep_before place before h m =
      h.deep (subst (IsShallow 64) (sym (ap (take (place + 1)) e ∙ take_before front token (place + 1) before)) (shallow_front 64 front (place + 1) m.shallow))

  deep_is : (place : ℕ) → IsDeep 64 s f tokens place → IsTrue (nat_eq (place + 1) (length tokens)) ↔ MayStand s f front token
  deep_is place h = (λ t. deep_end place (eqb-true (place + 1) (length tokens) t) h, λ m. go m (cases_eq (place + 1) (length tokens)))
    where
      go : MayStand s f front token → (place + 1 ≡ length tokens) ⊎ (place + 1 ≡ length tokens → ⊥) → IsTrue (nat_eq (place + 1) (length tokens))
      go m (inl same) = eq-eqb (place + 1) (length tokens) same
      go m (inr other) = absurd (deep_before place (let within = h.within in omega (arith, long)) h m)

  -- the same by another word for the number of tokens
  pub not_here_stands : (number place : ℕ) → length tokens ≡ number → IsNotHere 64 s f tokens place → IsTrue (nat_eq place number) ↔ MayStand s f front token
  not_here_stands number place long h = subst (λ n. IsTrue (nat_eq place n) ↔ MayStand s f front token) long (not_here_is place h)

  pub deep_stands : (number place : ℕ) → length tokens ≡ number → IsDeep 64 s f tokens place → IsTrue (nat_eq (place + 1) number) ↔ MayStand s f front token
  deep_stands number place long h = subst (λ n. IsTrue (nat_eq (place + 1) n) ↔ MayStand s f front token) long (deep_is place h)

-- ---- the end

module _ {A : Type 0} (s : A → List Token) (f : A → Type 0) (tokens : List Token) where
  pub read_ends : (a : A) → IsRead 64 s f tokens a → MayEnd s f tokens
  read_ends a h = record { shallow = h.shallow; whole = (a, h.fits, sym h.parts) }

  pub not_here_goes_on : (place : ℕ) → IsNotHere 64 s f tokens place → MayEnd s f tokens → ⊥
  not_here_goes_on place h m =
      h.stops m.whole.0 (drop place tokens) m.whole.1 (m.whole.2 ∙ sym (take-append-drop place tokens)) refl

  pub deep_goes_on : (place : ℕ) → IsDeep 64 s f tokens place → MayEnd s f tokens → ⊥
  deep_goes_on place h m = h.deep (shallow_front 64 tokens (place + 1) m.shallow)
