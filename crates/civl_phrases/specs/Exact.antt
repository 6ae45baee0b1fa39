-- What the answer to a whole text says of its tokens, by the spelling alone: s spells the values, f are those that have
-- a spelling, and d brackets may be open at once. The readers play no part in it.
use Rattle.std.specs.Prelude.{◌≡◌, ℕ, ◌+◌, ◌-◌, ◌<◌, ◌≤◌, List, ◌++◌, length, take, drop, Result, Ok, Err}
use Rattle.civl_tree.specs.Token.{Token}
use Rattle.civl_phrases.specs.declared.halt.Stop.{Stop}
use Rattle.civl_phrases.specs.declared.halt.Stop.TheVariants.{NotHere, Deep}
use Rattle.civl_phrases.specs.Bracket.{IsShallow}
use Rattle.civl_phrases.specs.Reader.{lookahead, Answer}

-- These tokens are a prefix of the spelling of a value that has one.
abbrev pub IsPrefix : {A : Type 0} → (A → List Token) → (A → Type 0) → List Token → Type 0
IsPrefix {A} s f tokens = (a : A) × (more : List Token) × f a × (s a ≡ tokens ++ more)

-- The tokens spell a, and nowhere are more than d brackets unclosed.
pub record IsRead {A : Type 0} (d : ℕ) (s : A → List Token) (f : A → Type 0) (tokens : List Token) (a : A) : Type 0 where
  pub fits : f a
  pub parts : tokens ≡ s a
  pub shallow : IsShallow d tokens

-- The tokens before the place i begin a spelling. None begins with them and the token at i, or, where i is the end, is
-- they alone.
pub record IsNotHere {A : Type 0} (d : ℕ) (s : A → List Token) (f : A → Type 0) (tokens : List Token) (i : ℕ) : Type 0 where
  pub within : i ≤ length tokens
  pub begun : IsPrefix s f (take i tokens)
  pub shallow : IsShallow d (take i tokens)
  pub stops : (a : A) (more : List Token) → f a → s a ≡ take i tokens ++ more → lookahead more ≡ lookahead (drop i tokens) → ⊥

-- The tokens up to the one at the place i begin a spelling, and this one opens the first bracket too many.
pub record IsDeep {A : Type 0} (d : ℕ) (s : A → List Token) (f : A → Type 0) (tokens : List Token) (i : ℕ) : Type 0 where
  pub within : i < length tokens
  pub begun : IsPrefix s f (take (i + 1) tokens)
  pub shallow : IsShallow d (take i tokens)
  pub deep : IsShallow d (take (i + 1) tokens) → ⊥

abbrev pub IsRight : {A : Type 0} → ℕ → (A → List Token) → (A → Type 0) → List Token → Result A Stop → Type 0
IsRight d s f tokens (Ok a) = IsRead d s f tokens a
IsRight d s f tokens (Err (NotHere i)) = IsNotHere d s f tokens i
IsRight d s f tokens (Err (Deep i)) = IsDeep d s f tokens i

-- a reader's answer to a text of n tokens, with the fault's place for the number of tokens left
abbrev pub placed : {A : Type 0} → ℕ → Answer A → Result A Stop
placed n (Ok x) = Ok x.0
placed n (Err (NotHere left)) = Err (NotHere (n - left))
placed n (Err (Deep left)) = Err (Deep (n - left))
