-- Part of the claim: docs/CLAIM.md.
-- Which tokens begin at the front of some bytes, and which of them is the longest: the rule of "maximal munch" (as in
-- ISO C, 6.4, paragraph 4).
use Rattle.std.specs.Prelude.{◌≡◌, ℕ, ◌≤◌, Bool, false, not, IsTrue, List, [], ◌∷◌, ◌++◌, length}
use Rattle.std.specs.Char.{is_ascii_digit}
use Rattle.civl_tree.specs.Token.{Token, Named, Reserved, Sign, Number, text_of, IsToken}

-- a digit is next
abbrev pub opens_digit : List ℕ → Bool
opens_digit [] = false
opens_digit (byte ∷ bytes) = is_ascii_digit byte

-- A number ends only where no digit follows: it is a whole run of digits.
abbrev pub MayEnd : Token → List ℕ → Type 0
MayEnd (Named bytes) rest = Unit {0}
MayEnd (Reserved bytes) rest = Unit {0}
MayEnd (Sign bytes) rest = Unit {0}
MayEnd (Number value) rest = IsTrue (not (opens_digit rest))

-- The token may stand in a text, and stands at the front of these bytes.
pub record IsAtFront (token : Token) (bytes : List ℕ) : Type 0 where
  pub is_token : IsToken token
  pub rest : List ℕ
  pub parts : bytes ≡ text_of token ++ rest
  pub may_end : MayEnd token rest

-- The token begins here, and none that begins here has a longer text.
pub record IsLongest (token : Token) (bytes : List ℕ) : Type 0 where
  pub begins : IsAtFront token bytes
  pub longest : (other : Token) → IsAtFront other bytes → length (text_of other) ≤ length (text_of token)

-- no token begins here
abbrev pub NoneAtFront : List ℕ → Type 0
NoneAtFront bytes = (token : Token) → IsAtFront token bytes → ⊥
