-- That what is printed is read back.
use Rattle.std.specs.Prelude.{ℕ, ◌^◌, Bool, true, nat_lt, IsTrue, List}
use Rattle.std.specs.List.{AllByRecursion, list_all}
use Rattle.civl_tree.specs.declared.program.Program.{Program}
use Rattle.civl_tree.specs.Token.{Token, Named, Reserved, Sign, Number, IsToken}
use Rattle.civl_tree.specs.SpellingProgram.{spell_program}
use Rattle.civl_tree.specs.SpellingDomain.{HasSpelling}
use Rattle.civl_tree.specs.SpellingText.{canonical_text}
use Rattle.civl_tree.specs.Raised.{raised}
use Rattle.civl_lex.specs.Spells.{Spells}
use Rattle.civl_lex.specs.Text.{HasTokens}

-- Tokens that may stand in a text are the tokens of their canonical text: each is the longest that begins at its place.
abbrev pub CanonicalTokens : Type 0
CanonicalTokens = (tokens : List Token) → AllByRecursion IsToken tokens → HasTokens (canonical_text tokens) tokens

-- a number has 32 bits
abbrev pub has_32_bits : Token → Bool
has_32_bits (Named bytes) = true
has_32_bits (Reserved bytes) = true
has_32_bits (Sign bytes) = true
has_32_bits (Number value) = nat_lt value (2 ^ 32)

-- The numbers of the program have 32 bits. Those of a program in the code do, by their type.
abbrev pub HasNumbersOf32Bits : Program → Type 0
HasNumbersOf32Bits program = IsTrue (list_all has_32_bits (spell_program program))

-- Where a program has a spelling, its canonical text spells it, with version 2 in place of version 1.
abbrev pub ReadsBack : Type 0
ReadsBack =
    (program : Program) → HasSpelling program → HasNumbersOf32Bits program
    → Spells spell_program HasSpelling (canonical_text (spell_program (raised program))) (raised program)

-- Where a text spells a program, the program's canonical text spells it again, with version 2 in place of version 1.
abbrev pub ReadsBackFromText : Type 0
ReadsBackFromText =
    (bytes : List ℕ) (program : Program) → Spells spell_program HasSpelling bytes program
    → Spells spell_program HasSpelling (canonical_text (spell_program (raised program))) (raised program)
