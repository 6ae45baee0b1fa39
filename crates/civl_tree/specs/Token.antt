-- Part of the claim: docs/CLAIM.md.
-- The tokens that spell a text, without their places.
use Rattle.std.specs.Prelude.{ℕ, ◌<◌, ◌^◌, ◌&&◌, ◌||◌, Bool, false, not, nat_eq, IsTrue, List, [], ◌∷◌, codes}
use Rattle.std.specs.Char.{is_ascii_alphabetic, is_ascii_digit}
use Rattle.std.specs.Fmt.{decimal}
use Rattle.std.specs.List.{list_all, list_any}
use Rattle.std.specs.Str.{bytes_eq}

-- a name, a reserved word or a sign by its bytes; a number by its value
pub data Token : Type 0 where
  Named Reserved Sign : List ℕ → Token
  Number : ℕ → Token

-- the bytes of a token's text; a number is written in decimal, with no leading zero
abbrev pub text_of : Token → List ℕ
text_of (Named bytes) = bytes
text_of (Reserved bytes) = bytes
text_of (Sign bytes) = bytes
text_of (Number value) = decimal value

-- the reserved words; the last six are used by version 2 alone
abbrev pub reserved_words : List (List ℕ)
reserved_words =
    codes "civl" ∷ codes "layers" ∷ codes "permissions" ∷ codes "global" ∷ codes "linear" ∷ codes "init" ∷ codes "invariant" ∷ codes "action" ∷ codes "choose" ∷ codes "to"
    ∷ codes "atomic" ∷ codes "right" ∷ codes "left" ∷ codes "both" ∷ codes "gate" ∷ codes "guard" ∷ codes "proc" ∷ codes "refines" ∷ codes "with" ∷ codes "layer"
    ∷ codes "root" ∷ codes "var" ∷ codes "call" ∷ codes "yield" ∷ codes "commit" ∷ codes "intro" ∷ codes "if" ∷ codes "else" ∷ codes "while" ∷ codes "rank"
    ∷ codes "by" ∷ codes "inv" ∷ codes "assert" ∷ codes "true" ∷ codes "false" ∷ codes "done" ∷ codes "old" ∷ codes "get" ∷ codes "set" ∷ codes "fill"
    ∷ codes "slice" ∷ codes "widen" ∷ codes "join" ∷ codes "bool" ∷ codes "word" ∷ codes "row" ∷ codes "val" ∷ codes "lend" ∷ codes "take" ∷ codes "give"
    ∷ codes "thread" ∷ codes "schedule" ∷ codes "move" ∷ codes "spawn" ∷ codes "udiv" ∷ codes "urem" ∷ codes "slt" ∷ codes "sle" ∷ codes "sar" ∷ []

-- the signs
abbrev pub signs : List (List ℕ)
signs =
    codes "(" ∷ codes ")" ∷ codes "{" ∷ codes "}" ∷ codes "[" ∷ codes "]" ∷ codes "," ∷ codes ";" ∷ codes ":" ∷ codes "?" ∷ codes "!" ∷ codes "~"
    ∷ codes ":=" ∷ codes "->" ∷ codes "+" ∷ codes "-" ∷ codes "*" ∷ codes "&" ∷ codes "|" ∷ codes "^" ∷ codes "<<" ∷ codes ">>" ∷ codes "<" ∷ codes "<="
    ∷ codes "==" ∷ codes "!=" ∷ codes "&&" ∷ codes "||" ∷ codes "=>" ∷ codes "=" ∷ []

-- a letter of ASCII or `_`
abbrev pub begins_name : ℕ → Bool
begins_name byte = is_ascii_alphabetic byte || nat_eq byte 95

-- a letter of ASCII, `_` or a digit
abbrev pub is_name_byte : ℕ → Bool
is_name_byte byte = begins_name byte || is_ascii_digit byte

abbrev pub is_reserved : List ℕ → Bool
is_reserved bytes = list_any (bytes_eq bytes) reserved_words

abbrev pub is_sign : List ℕ → Bool
is_sign bytes = list_any (bytes_eq bytes) signs

-- the form of a name or of a reserved word: a letter or `_`, followed by letters, digits and `_`
abbrev pub is_identifier : List ℕ → Bool
is_identifier [] = false
is_identifier (byte ∷ bytes) = begins_name byte && list_all is_name_byte bytes

-- an identifier that isn't reserved
abbrev pub is_name : List ℕ → Bool
is_name bytes = is_identifier bytes && not (is_reserved bytes)

-- the token may stand in a text: a name that isn't reserved, a reserved word, a sign, a number of 32 bits
abbrev pub IsToken : Token → Type 0
IsToken (Named bytes) = IsTrue (is_name bytes)
IsToken (Reserved bytes) = IsTrue (is_reserved bytes)
IsToken (Sign bytes) = IsTrue (is_sign bytes)
IsToken (Number value) = value < 2 ^ 32
