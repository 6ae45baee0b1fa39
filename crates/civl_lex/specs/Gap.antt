-- Part of the claim: docs/CLAIM.md.
-- What may stand between the tokens of a text: blanks and comments.
use Rattle.std.specs.Prelude.{◌≡◌, ℕ, ◌||◌, ◌&&◌, ◌⊎◌, Bool, false, not, nat_eq, IsTrue, List, [], ◌∷◌, ◌++◌, codes}
use Rattle.std.specs.List.{list_all, AllByRecursion, flat_map}

-- a tab, a line feed, a carriage return or a space
abbrev pub is_blank : ℕ → Bool
is_blank byte = nat_eq byte 9 || nat_eq byte 10 || nat_eq byte 13 || nat_eq byte 32

-- no line feed is among the bytes
abbrev pub is_one_line : List ℕ → Bool
is_one_line bytes = list_all (λ byte. not (nat_eq byte 10)) bytes

-- a blank, or a comment by the bytes between its `//` and the line feed that ends it
pub data Piece : Type 0 where
  Blank : ℕ → Piece
  Comment : List ℕ → Piece

abbrev pub IsPiece : Piece → Type 0
IsPiece (Blank byte) = IsTrue (is_blank byte)
IsPiece (Comment bytes) = IsTrue (is_one_line bytes)

abbrev pub piece_text : Piece → List ℕ
piece_text (Blank byte) = byte ∷ []
piece_text (Comment bytes) = codes "//" ++ bytes ++ 10 ∷ []

-- blanks and whole comments, in any number and order
abbrev pub IsGap : List ℕ → Type 0
IsGap bytes = (pieces : List Piece) × AllByRecursion IsPiece pieces × (bytes ≡ flat_map piece_text pieces)

-- a comment that no line feed ends
abbrev pub IsOpenComment : List ℕ → Type 0
IsOpenComment bytes = (comment : List ℕ) × IsTrue (is_one_line comment) × (bytes ≡ codes "//" ++ comment)

-- what may stand behind the last token: a gap, and perhaps a comment that runs to the end
abbrev pub IsLastGap : List ℕ → Type 0
IsLastGap bytes = (gap rest : List ℕ) × IsGap gap × (bytes ≡ gap ++ rest) × ((rest ≡ []) ⊎ IsOpenComment rest)

-- `//` is next
abbrev pub opens_comment : List ℕ → Bool
opens_comment [] = false
opens_comment (a ∷ []) = false
opens_comment (a ∷ b ∷ bytes) = nat_eq a 47 && nat_eq b 47

-- a blank or a comment is next
abbrev pub opens_gap : List ℕ → Bool
opens_gap [] = false
opens_gap (byte ∷ bytes) = is_blank byte || opens_comment (byte ∷ bytes)
