-- Canonical texts, and the version in which a program is printed.
use Rattle.std.specs.Prelude.{◌≡◌, ℕ, List, [], ◌∷◌, ◌++◌, map, codes}
use Rattle.std.specs.List.{flat_map}
use Prim.Native.String.{String}
use Rattle.civl_tree.specs.Token.{Number}
use Rattle.civl_tree.specs.SpellingProgram.{spell_program}
use Rattle.civl_tree.specs.SpellingText.{canonical_text}
use Rattle.civl_tree.specs.Raised.{raised}
use Rattle.civl_tree.specs.examples.SpellingWords.{name, word, sign}
use Rattle.civl_tree.specs.examples.SpellingFlag.{flag}

-- the bytes of these lines, each ended by byte 10
abbrev pub lines : List String → List ℕ
lines texts = flat_map (λ text. codes text ++ 10 ∷ []) texts

-- the first lines of a program: a blank stands before each `;`
abbrev pub HeaderText : Type 0
HeaderText =
    canonical_text (word "civl" ∷ Number 2 ∷ sign ";" ∷ word "layers" ∷ Number 1 ∷ sign ";" ∷ word "permissions" ∷ Number 1 ∷ sign ";" ∷ word "init" ∷ word "true" ∷ sign ";" ∷ [])
    ≡ lines ("civl 2 ;" ∷ "layers 1 ;" ∷ "permissions 1 ;" ∷ "init true ;" ∷ [])

-- braces end lines too, brackets and parentheses don't, and a last token of another kind has its blank
abbrev pub BracesText : Type 0
BracesText =
    canonical_text (sign "{" ∷ sign "(" ∷ name "x" ∷ sign ":=" ∷ Number 4294967295 ∷ sign ")" ∷ sign "}" ∷ sign "[" ∷ sign "]" ∷ [])
    ≡ lines ("{" ∷ "( x := 4294967295 ) }" ∷ []) ++ codes "[ ] "

-- nothing has the empty text
abbrev pub EmptyText : Type 0
EmptyText = canonical_text [] ≡ []

-- version 1 becomes 2, every other version stays, and nothing else changes
abbrev pub VersionsRaised : Type 0
VersionsRaised =
    (map (λ (version : ℕ). (raised (record flag { version = version })).version) (0 ∷ 1 ∷ 2 ∷ 3 ∷ 4294967295 ∷ []) ≡ 0 ∷ 2 ∷ 2 ∷ 3 ∷ 4294967295 ∷ [])
    × (raised flag ≡ record flag { version = 2 })

-- the program of the flag, as it is printed
abbrev pub FlagText : Type 0
FlagText =
    canonical_text (spell_program (raised flag))
    ≡ lines ("civl 2 ;" ∷ "layers 1 ;" ∷ "permissions 1 ;"
    ∷ "global f : bool layers 0 to 1 ;"
    ∷ "init true ;"
    ∷ "action Set ( ) -> ( ) choose ( ) layers 0 to 0 atomic gate true guard true {" ∷ "f := true ;" ∷ "}"
    ∷ "action AtomSet ( ) -> ( ) choose ( ) layers 1 to 1 atomic gate true guard true {" ∷ "f := true ;" ∷ "}"
    ∷ "proc DoSet ( ) -> ( ) refines AtomSet with ( ) layer 1 {" ∷ "call Set ( ) -> ( ) ;" ∷ "commit ;" ∷ "}"
    ∷ "thread DoSet ( ) ;" ∷ [])
