-- What the parser answers. A program is read from tokens where they are its spelling; the faults have their places
-- among the tokens. At most 64 brackets may be open at once.
use Rattle.std.specs.Prelude.{◌≡◌, List, Result, Ok, Err, ⊤}
use Rattle.civl_tree.specs.Token.{Token}
use Rattle.civl_tree.specs.SpellingProgram.{spell_program}
use Rattle.civl_tree.specs.SpellingScript.{spell_script}
use Rattle.civl_tree.specs.SpellingDomain.{HasSpelling, ScriptHasSpelling}
use Rattle.civl_tree.specs.Raised.{raised}
use Rattle.civl_tree.specs.declared.program.Program.{Program}
use Rattle.civl_tree.specs.declared.script.Script.{Script}
use Rattle.civl_phrases.specs.declared.halt.Stop.{Stop}
use Rattle.civl_phrases.specs.declared.halt.Stop.TheVariants as stops
use Rattle.civl_phrases.specs.Exact.{IsRead, IsNotHere, IsDeep, IsRight}
use Rattle.civl_parser.specs.declared.fault.ParseFault.{ParseFault}
use Rattle.civl_parser.specs.declared.fault.ParseFault.TheVariants.{NotHere, Deep, Memory}

-- What an answer says of the tokens, where s spells the values and f are those that have a spelling:
--   Ok: the tokens are the value's spelling;
--   NotHere: the tokens before the place begin a spelling, and with the one at the place, or the end, none;
--   Deep: the tokens up to the one at the place begin a spelling, and this one opens the 65th bracket;
--   Memory: nothing.
abbrev pub IsParsedAs : {A : Type 0} → (A → List Token) → (A → Type 0) → List Token → Result A ParseFault → Type 0
IsParsedAs s f tokens (Ok a) = IsRead 64 s f tokens a
IsParsedAs s f tokens (Err (NotHere place)) = IsNotHere 64 s f tokens place
IsParsedAs s f tokens (Err (Deep place)) = IsDeep 64 s f tokens place
IsParsedAs s f tokens (Err Memory) = ⊤

-- the answer is this value, or this fault
abbrev pub IsThis : {A : Type 0} → Result A ParseFault → Result A Stop → Type 0
IsThis (Ok a) answer = answer ≡ Ok a
IsThis (Err (NotHere place)) answer = answer ≡ Err (stops.NotHere place)
IsThis (Err (Deep place)) answer = answer ≡ Err (stops.Deep place)
IsThis (Err Memory) answer = ⊤

-- Whatever is right of the tokens is what was answered, but for want of memory. So each answer comes exactly where it
-- is right.
abbrev pub IsParsedOnlyAs : {A : Type 0} → (A → List Token) → (A → Type 0) → List Token → Result A ParseFault → Type 0
IsParsedOnlyAs {A} s f tokens result = (answer : Result A Stop) → IsRight 64 s f tokens answer → IsThis result answer

abbrev pub Parses : List Token → Result Program ParseFault → Type 0
Parses tokens result = IsParsedAs spell_program HasSpelling tokens result

abbrev pub IsOnly : List Token → Result Program ParseFault → Type 0
IsOnly tokens result = IsParsedOnlyAs spell_program HasSpelling tokens result

-- ---- the same of scripts

abbrev pub ScriptParses : List Token → Result Script ParseFault → Type 0
ScriptParses tokens result = IsParsedAs spell_script ScriptHasSpelling tokens result

abbrev pub ScriptIsOnly : List Token → Result Script ParseFault → Type 0
ScriptIsOnly tokens result = IsParsedOnlyAs spell_script ScriptHasSpelling tokens result

-- ---- what the definitions say together

-- No two programs have one spelling.
abbrev pub OneSpelling : Type 0
OneSpelling = (p q : Program) → HasSpelling p → HasSpelling q → spell_program p ≡ spell_program q → p ≡ q

-- No two scripts have one spelling.
abbrev pub OneScriptSpelling : Type 0
OneScriptSpelling = (s t : Script) → ScriptHasSpelling s → ScriptHasSpelling t → spell_script s ≡ spell_script t → s ≡ t

-- What is printed is parsed again: where a program is parsed from some tokens, it is parsed from those of its canonical
-- text, which spell it with version 2 in place of version 1, as the program in that version. This is right of them, and
-- no other answer than this, or want of memory, keeps the contract of `parse`.
pub record ParsesRaised : Type 0 where
  pub right : (tokens : List Token) (program : Program) → Parses tokens (Ok program) → Parses (spell_program (raised program)) (Ok (raised program))
  pub only : (tokens : List Token) (program : Program) → Parses tokens (Ok program)
      → (result : Result Program ParseFault) → IsOnly (spell_program (raised program)) result → IsThis result (Ok (raised program))
