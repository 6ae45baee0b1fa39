-- Tables of words and signs, and the forms that they tell, here and in parsers.
use Rattle.std.specs.Prelude.{Bool, true, false, if◌then◌else◌, List, [], ◌∷◌, Option, Some, None}
use Rattle.civl_tree.specs.Token.{Token}
use Rattle.civl_phrases.specs.Reader.{is_same}

-- what the table has for this word or sign, the first entry of it
abbrev pub lookup : {A : Type 0} → List (Token × A) → Token → Option A
lookup [] token = None
lookup (entry ∷ table) token = if is_same entry.0 token then Some entry.1 else lookup table token

-- only what passes the test
abbrev pub guarded : {A : Type 0} → (A → Bool) → Option A → Option A
guarded has None = None
guarded has (Some a) = if has a then Some a else None

-- the form of the table that the next token tells
abbrev pub form_in : {K : Type 0} → (K → Bool) → List (Token × K) → Option Token → Option K
form_in has table None = None
form_in has table (Some token) = guarded has (lookup table token)

abbrev pub is_form : {K : Type 0} → Option K → Bool
is_form None = false
is_form (Some form) = true
