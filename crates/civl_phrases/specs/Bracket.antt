-- Brackets, and how many of them are open.
use Rattle.std.specs.Prelude.{ℕ, zero, suc, ◌+◌, ◌≤◌, Bool, false, if◌then◌else◌, List, [], ◌∷◌, take, Option, Some, None, codes}
use Rattle.std.specs.List.{count_by, list_any}
use Rattle.std.specs.Str.{bytes_eq}
use Rattle.civl_tree.specs.Token.{Token, Sign}

-- one of `(`, `[` and `{`
abbrev pub opens : Token → Bool
opens (Sign bytes) = list_any (bytes_eq bytes) (codes "(" ∷ codes "[" ∷ codes "{" ∷ [])
opens _ = false

-- one of `)`, `]` and `}`
abbrev pub closes : Token → Bool
closes (Sign bytes) = list_any (bytes_eq bytes) (codes ")" ∷ codes "]" ∷ codes "}" ∷ [])
closes _ = false

-- Nowhere are more than this many brackets unclosed: in each front of the tokens there are at most so many more that
-- open than that close. It is said of tokens in which each closing bracket closes one.
abbrev pub IsShallow : ℕ → List Token → Type 0
IsShallow most tokens = (i : ℕ) → count_by opens (take i tokens) ≤ count_by closes (take i tokens) + most

-- ---- the same, token by token, as readers count

pub data Side : Type 0 where
  Opens Closes Plain : Side

abbrev pub side : Token → Side
side token = if opens token then Opens else (if closes token then Closes else Plain)

-- how many more brackets may be open behind a token of this side, where so many may before it
abbrev pub turn : Side → ℕ → Option ℕ
turn Opens zero = None
turn Opens (suc most) = Some most
turn Closes most = Some (suc most)
turn Plain most = Some most

abbrev pub and_then : Option ℕ → (ℕ → Option ℕ) → Option ℕ
and_then None next = None
and_then (Some most) next = next most

-- How many more brackets may be open behind these tokens, where so many may before them; none where there are too
-- many somewhere.
unfoldable pub room : ℕ → List Token → Option ℕ
room most [] = Some most
room most (token ∷ tokens) = and_then (turn (side token) most) (λ left. room left tokens)
