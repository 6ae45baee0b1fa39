-- Where a token lies in a text.
use Rattle.std.specs.Prelude.{◌≡◌, ℕ, List, length, take}
use Rattle.civl_tree.specs.declared.program.Program.{Program}
use Rattle.civl_tree.specs.Token.{Token}
use Rattle.civl_tree.specs.SpellingProgram.{spell_program}
use Rattle.civl_lex.specs.Text.{StartsAt}
use Rattle.civl_places.specs.declared.position.Position.{Position}
use Rattle.civl_places.specs.Lines.{line_of, column_of}

-- These tokens begin with the spelling of the program. Behind it a schedule or an outline may stand.
abbrev pub BeginWith : Program → List Token → Type 0
BeginWith program tokens = take (length (spell_program program)) tokens ≡ spell_program program

-- The token with this number begins at this line and column.
pub record BeginsAt (bytes : List ℕ) (number : ℕ) (position : Position) : Type 0 where
  pub offset : ℕ
  pub starts : StartsAt bytes number offset
  pub line : position.line ≡ line_of bytes offset
  pub column : position.column ≡ column_of bytes offset
