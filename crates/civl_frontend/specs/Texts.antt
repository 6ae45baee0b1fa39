-- Part of the claim: docs/CLAIM.md.
-- What a text spells, and how it is read: as a program, as a script, or as an outline.
use Rattle.std.specs.Prelude.{ℕ, List, Result, Ok, Err}
use Rattle.civl_tree.specs.Token.{Token}
use Rattle.civl_tree.specs.SpellingDomain.{HasSpelling, ScriptHasSpelling}
use Rattle.civl_tree.specs.SpellingProgram.{spell_program}
use Rattle.civl_tree.specs.SpellingScript.{spell_script}
use Rattle.civl_tree.specs.declared.program.Program.{Program}
use Rattle.civl_tree.specs.declared.script.Script.{Script}
use Rattle.civl_outlines.specs.declared.outline.Outline.{Outline}
use Rattle.civl_outlines.specs.SpellingOutline.{spell_outline, OutlineHasSpelling}
use Rattle.civl_lex.specs.Spells.{SpellsOnly}
use Rattle.civl_lex.specs.Text.{HasTokens, NoTokenAt}
use Rattle.civl_phrases.specs.Bracket.{IsShallow}
use Rattle.civl_phrases.specs.Exact.{IsNotHere, IsDeep}
use Rattle.civl_frontend.specs.declared.reader.Fault.{Fault}
use Rattle.civl_frontend.specs.declared.reader.Fault.TheVariants.{NoToken, NotHere, Deep}

-- ---- texts, where `spell` gives the tokens of a value, and `fits` says which values have a spelling

-- the most bytes that an input with a program, a script or an outline may have
abbrev pub limit : ℕ
limit = 1048576

-- how many brackets may be unclosed at once
abbrev pub bracket_limit : ℕ
bracket_limit = 64

-- Nowhere among the tokens of the bytes are more brackets unclosed.
abbrev pub IsShallowText : List ℕ → Type 0
IsShallowText bytes = (tokens : List Token) → HasTokens bytes tokens → IsShallow bracket_limit tokens

-- The tokens of the bytes before this place begin a spelling, and with the token at the place, or the end, they begin none.
pub record StopsAt {A : Type 0} (spell : A → List Token) (fits : A → Type 0) (bytes : List ℕ) (place : ℕ) : Type 0 where
  pub tokens : List Token
  pub has : HasTokens bytes tokens
  pub stops : IsNotHere bracket_limit spell fits tokens place

-- The tokens of the bytes up to the one at this place begin a spelling, and this one opens the first bracket too many.
pub record SinksAt {A : Type 0} (spell : A → List Token) (fits : A → Type 0) (bytes : List ℕ) (place : ℕ) : Type 0 where
  pub tokens : List Token
  pub has : HasTokens bytes tokens
  pub sinks : IsDeep bracket_limit spell fits tokens place

-- What the bytes are read as: the one value that they spell, with no more brackets unclosed than may be; or the first fault
-- in them.
abbrev pub IsReadAs : {A : Type 0} → (A → List Token) → (A → Type 0) → List ℕ → Result A Fault → Type 0
IsReadAs spell fits bytes (Ok value) = SpellsOnly spell fits bytes value × IsShallowText bytes
IsReadAs spell fits bytes (Err (NoToken place)) = NoTokenAt bytes place
IsReadAs spell fits bytes (Err (NotHere place)) = StopsAt spell fits bytes place
IsReadAs spell fits bytes (Err (Deep place)) = SinksAt spell fits bytes place

-- ---- programs, scripts and outlines

-- The bytes spell this program and no other.
abbrev pub SpellsProgram : List ℕ → Program → Type 0
SpellsProgram bytes program = SpellsOnly spell_program HasSpelling bytes program

-- The bytes spell this script and no other.
abbrev pub SpellsScript : List ℕ → Script → Type 0
SpellsScript bytes script = SpellsOnly spell_script ScriptHasSpelling bytes script

-- The bytes spell this outline and no other.
abbrev pub SpellsOutline : List ℕ → Outline → Type 0
SpellsOutline bytes outline = SpellsOnly spell_outline OutlineHasSpelling bytes outline

abbrev pub IsReading : List ℕ → Result Program Fault → Type 0
IsReading bytes reading = IsReadAs spell_program HasSpelling bytes reading

abbrev pub IsScriptReading : List ℕ → Result Script Fault → Type 0
IsScriptReading bytes reading = IsReadAs spell_script ScriptHasSpelling bytes reading

abbrev pub IsOutlineReading : List ℕ → Result Outline Fault → Type 0
IsOutlineReading bytes reading = IsReadAs spell_outline OutlineHasSpelling bytes reading
