-- What is owed by the reader of a phrase, and what its parts owe for it.
--
-- Throughout, s spells the values, f are the values that have a spelling, z is what may follow a phrase; d more
-- brackets may be open before it, and e behind it.
--
-- That a fault comes at the first token with which what stands before it begins no phrase is the viable-prefix property
-- of A. Aho, M. Lam, R. Sethi and J. Ullman, "Compilers" (2nd edition, 4.1.3).
use Rattle.std.specs.Prelude.{◌≡◌, ℕ, suc, ◌<◌, Bool, true, false, List, [], ◌∷◌, ◌++◌, length, Option, Some, None, Ok, Err, ◌⊎◌}
use Rattle.civl_tree.specs.Token.{Token}
use Rattle.civl_phrases.specs.declared.halt.Halt.{Halt}
use Rattle.civl_phrases.specs.declared.halt.Stop.TheVariants.{NotHere, Deep}
use Rattle.civl_phrases.specs.Bracket.{Opens, Plain, side, room}
use Rattle.civl_phrases.specs.Reader.{lookahead, Answer, Reader, Fails, miss}
use Rattle.civl_phrases.specs.List.{repeated_by, repeated, front}

-- anything may follow
abbrev pub Any : List Token → Type 0
Any _ = Unit {0}

-- nothing may follow
abbrev pub AtEnd : List Token → Type 0
AtEnd tokens = tokens ≡ []

-- The phrase a is read. Whatever stands behind the next token, the same is read.
pub record Took {A : Type 0} (d e : ℕ) (z : List Token → Type 0) (s : A → List Token) (f : A → Type 0) (r : Reader A) (tokens : List Token) (a : A) (rest : List Token) : Type 0 where
  pub parts : tokens ≡ s a ++ rest
  pub fits : f a
  pub ends : z rest
  pub depth : room d (s a) ≡ Some e
  pub keeps : (other : List Token) → lookahead other ≡ lookahead rest → r (s a ++ other) ≡ Ok (a, other)

-- The phrase goes wrong where n tokens are left: those before begin a phrase, and whatever stands behind the next token,
-- it goes wrong there.
pub record Missed {A : Type 0} (d : ℕ) (s : A → List Token) (f : A → Type 0) (r : Reader A) (tokens : List Token) (n : ℕ) : Type 0 where
  pub before : List Token
  pub rest : List Token
  pub parts : tokens ≡ before ++ rest
  pub left : n ≡ length rest
  pub some : A
  pub more : List Token
  pub fits : f some
  pub viable : s some ≡ before ++ more
  pub at : ℕ
  pub depth : room d before ≡ Some at
  pub keeps : (other : List Token) → lookahead other ≡ lookahead rest → r (before ++ other) ≡ Err (NotHere (length other))

-- The phrase opens a bracket too many where n tokens are left: the tokens up to it begin a phrase.
pub record Sank {A : Type 0} (d : ℕ) (s : A → List Token) (f : A → Type 0) (tokens : List Token) (n : ℕ) : Type 0 where
  pub before : List Token
  pub token : Token
  pub rest : List Token
  pub parts : tokens ≡ before ++ token ∷ rest
  pub left : n ≡ length (token ∷ rest)
  pub some : A
  pub more : List Token
  pub fits : f some
  pub viable : s some ≡ before ++ token ∷ more
  pub opens : side token ≡ Opens
  pub depth : room d before ≡ Some 0

-- What an answer says.
abbrev pub Says : {A : Type 0} → ℕ → ℕ → (List Token → Type 0) → (A → List Token) → (A → Type 0) → Reader A → List Token → Answer A → Type 0
Says d e z s f r tokens (Ok x) = Took d e z s f r tokens x.0 x.1
Says d e z s f r tokens (Err (NotHere n)) = Missed d s f r tokens n
Says d e z s f r tokens (Err (Deep n)) = Sank d s f tokens n

-- A phrase that stands there is read, or has too many brackets.
abbrev pub Again : {A : Type 0} → Reader A → List Token → A → List Token → Type 0
Again r tokens a rest = (r tokens ≡ Ok (a, rest)) ⊎ ((n : ℕ) × (r tokens ≡ Err (Deep n)))

-- r reads the phrases that s spells: what it answers is so, and what stands there it answers; there is a phrase.
pub record IsReader {A : Type 0} (d e : ℕ) (z : List Token → Type 0) (s : A → List Token) (f : A → Type 0) (r : Reader A) : Type 0 where
  pub says : (tokens : List Token) → Says d e z s f r tokens (r tokens)
  pub again : (a : A) (rest : List Token) → f a → z rest → Again r (s a ++ rest) a rest
  pub example : (a : A) × f a

-- The next token of what is spelled tells k.
pub record Heads {A K : Type 0} (z : List Token → Type 0) (s : A → List Token) (f : A → Type 0) (test : Option Token → K) (k : K) : Type 0 where
  pub next : (a : A) (rest : List Token) → f a → z rest → test (lookahead (s a ++ rest)) ≡ k

-- The values that are made of others.
abbrev pub Image : {A B : Type 0} → (A → B) → (A → Type 0) → B → Type 0
Image {A} make f b = (a : A) × (make a ≡ b) × f a

-- A part that is absent, or one that has a spelling.
abbrev pub PerhapsFits : {A : Type 0} → (A → Type 0) → Option A → Type 0
PerhapsFits f None = Unit {0}
PerhapsFits f (Some a) = f a

-- A value stands for one token, which is no bracket.
pub record IsLeaf {A : Type 0} (f : A → Type 0) (value : Token → Option A) (put : A → Token) : Type 0 where
  pub gets : (a : A) → f a → value (put a) ≡ Some a
  pub puts : (token : Token) (a : A) → value token ≡ Some a → (token ≡ put a) × f a
  pub plain : (a : A) → side (put a) ≡ Plain

-- The steps of a loop that reads a list: xs is read, tokens are left, n more steps are allowed, and total is what all of
-- it gives.
pub record IsLoop {A : Type 0} (test : Option Token → Bool) (x : Reader A) : Type 0 where
  pub starts : (n : ℕ) (xs : List A) (tokens : List Token) → n ≡ suc (length tokens) → front xs (repeated_by test x n tokens) ≡ front xs (repeated test x tokens)
  pub from_none : (n : ℕ) (tokens : List Token) → n ≡ suc (length tokens) → front [] (repeated_by test x n tokens) ≡ repeated test x tokens
  pub goes_on : (n m : ℕ) (xs : List A) (tokens rest : List Token) (a : A) (total : Answer (List A)) → n ≡ suc m → test (lookahead tokens) ≡ true → x tokens ≡ Ok (a, rest) → front xs (repeated_by test x n tokens) ≡ total → front (xs ++ a ∷ []) (repeated_by test x m rest) ≡ total
  pub fails : (n : ℕ) (k : Halt) (xs : List A) (tokens : List Token) (total : Answer (List A)) → 0 < n → test (lookahead tokens) ≡ true → Fails k (x tokens) → front xs (repeated_by test x n tokens) ≡ total → Fails k total
  pub ends : (n : ℕ) (xs : List A) (tokens : List Token) (total : Answer (List A)) → 0 < n → test (lookahead tokens) ≡ false → front xs (repeated_by test x n tokens) ≡ total → total ≡ Ok (xs, tokens)
  pub spent : (n : ℕ) (xs : List A) (tokens : List Token) (total : Answer (List A)) → n ≡ 0 → front xs (repeated_by test x n tokens) ≡ total → total ≡ miss tokens
