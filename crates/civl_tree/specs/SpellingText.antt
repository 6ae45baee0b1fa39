-- The canonical text of a list of tokens.
use Rattle.std.specs.Prelude.{ℕ, Bool, false, ◌||◌, if◌then◌else◌, List, [], ◌∷◌, ◌++◌, codes}
use Rattle.std.specs.List.{flat_map}
use Rattle.std.specs.Str.{bytes_eq}
use Rattle.civl_tree.specs.Token.{Token, Named, Reserved, Sign, Number, text_of}

-- `;`, `{` and `}`
abbrev pub ends_line : Token → Bool
ends_line (Named bytes) = false
ends_line (Reserved bytes) = false
ends_line (Sign bytes) = bytes_eq bytes (codes ";") || (bytes_eq bytes (codes "{") || bytes_eq bytes (codes "}"))
ends_line (Number value) = false

-- a token's text, with byte 10 behind `;`, `{` and `}` and one blank behind every other token
abbrev pub canonical_token : Token → List ℕ
canonical_token token = text_of token ++ (if ends_line token then 10 else 32) ∷ []

-- the tokens in order
abbrev pub canonical_text : List Token → List ℕ
canonical_text tokens = flat_map canonical_token tokens
