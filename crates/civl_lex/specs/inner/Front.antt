-- Serves private functions: how the code reads at the front of some bytes, that is what stands behind a gap, the token
-- that is next, and where it lies. That this is the gap of `Gap` and the longest token of `Lexical` is proved.
use Rattle.std.specs.Prelude.{◌≡◌, ℕ, ◌^◌, ◌&&◌, ◌||◌, Bool, true, false, not, nat_eq, nat_lt, if◌then◌else◌, List, [], ◌∷◌, length, take, Option, Some, None, slice_index}
use Rattle.std.specs.Char.{is_ascii_digit}
use Rattle.std.specs.List.{take_while}
use Rattle.std.specs.Option.{option_map}
use Rattle.std.specs.Str.Parse.{digits_value}
use Rattle.civl_tree.specs.Token.{Token, Named, Reserved, Sign, Number, text_of, begins_name, is_name_byte, is_reserved, is_sign}
use Rattle.civl_lex.specs.declared.token.Token.{Token as Placed}
use Rattle.civl_lex.specs.Gap.{is_blank, opens_comment}
use Rattle.civl_lex.specs.Spelled.{spelled_token}

-- what stands behind the blanks and comments at the front, where the bytes may begin within a comment
abbrev pub behind : Bool → List ℕ → List ℕ
behind within [] = []
behind true (byte ∷ bytes) = behind (not (nat_eq byte 10)) bytes
behind false (byte ∷ bytes) = if is_blank byte then behind false bytes else (if opens_comment (byte ∷ bytes) then behind true bytes else byte ∷ bytes)

abbrev pub behind_gap : List ℕ → List ℕ
behind_gap = behind false

-- the name or reserved word that is next
abbrev pub word_of : List ℕ → Token
word_of text = if is_reserved text then Reserved text else Named text

-- the value of a run of digits that is a number
abbrev pub number_of : List ℕ → Option ℕ
number_of text =
    if (nat_lt 1 (length text) && nat_eq (slice_index text 0) 48) || not (nat_lt (digits_value 10 text) (2 ^ 32)) then None else Some (digits_value 10 text)

-- the sign that is next, one of two bytes before one of one byte
abbrev pub sign_of : List ℕ → Option Token
sign_of bytes = if is_sign (take 2 bytes) then Some (Sign (take 2 bytes)) else (if is_sign (take 1 bytes) then Some (Sign (take 1 bytes)) else None)

-- the token that is next
abbrev pub front_token : List ℕ → Option Token
front_token [] = None
front_token (byte ∷ bytes) =
    if begins_name byte then Some (word_of (take_while is_name_byte (byte ∷ bytes)))
    else (if is_ascii_digit byte then option_map Number (number_of (take_while is_ascii_digit (byte ∷ bytes))) else sign_of (byte ∷ bytes))

-- The token is cut from the front of these bytes, which stand at this place of the source.
pub record IsCut (bytes : List ℕ) (place : ℕ) (token : Placed) : Type 0 where
  pub own : token.text.now ≡ text_of (spelled_token token)
  pub slice : token.text.now ≡ take (length token.text.now) bytes
  pub start : token.start ≡ place
