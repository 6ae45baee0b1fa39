-- Tokens begin within their text.
use Rattle.std.proofs.Common.{◌≡◌, ℕ, ◌<◌, ◌≤◌, List, length, get_or, drop, length-drop, ap, arith}
use Rattle.std.proofs.lemmas.Option.{slice_get-get_or}
use Rattle.std.proofs.lemmas.List.{length-map, length-take}
use Rattle.civl_tree.specs.declared.program.Program.{Program}
use Rattle.civl_tree.specs.SpellingProgram.{spell_program}
use Rattle.civl_lex.specs.declared.token.Token.{Token}
use Rattle.civl_lex.specs.Spelled.{spelled, spelled_token, HaveStarts}
use Rattle.civl_lex.specs.Text.{StartsAt}
use Rattle.civl_lex.proofs.Fronts.{text_within}
use Rattle.civl_lex.proofs.Spellings.{text_some}
use Rattle.civl_places.specs.declared.position.Position.{Position}
use Rattle.civl_places.specs.Lines.{line_of, column_of}
use Rattle.civl_places.specs.Placed.{BeginWith, BeginsAt}

pub starts_at : (bytes : List ℕ) (tokens : List Token) (number : ℕ) (d : Token) → HaveStarts bytes tokens → number < length tokens
    → StartsAt bytes number (get_or tokens number d).start
starts_at bytes tokens number d starts there = starts number (get_or tokens number d) (slice_get-get_or tokens number d there)

-- a token begins before the end
pub starts_within : (bytes : List ℕ) (number offset : ℕ) → StartsAt bytes number offset → offset < length bytes
starts_within bytes number offset at =
    let token = at.1 in
    let longest = at.4 in
    omega (arith, text_within token (drop offset bytes) longest.begins, text_some token longest.begins.is_token, length-drop offset bytes)

pub spelled_length : (tokens : List Token) → length (spelled tokens) ≡ length tokens
spelled_length tokens = length-map tokens spelled_token

pub start_fits : (bytes : List ℕ) (tokens : List Token) (number : ℕ) (d : Token) → HaveStarts bytes tokens → number < length tokens
    → (get_or tokens number d).start ≤ length bytes
start_fits bytes tokens number d starts there = omega (arith, starts_within bytes number _ (starts_at bytes tokens number d starts there))

pub begins_at : (bytes : List ℕ) (tokens : List Token) (number : ℕ) (d : Token) (position : Position) → HaveStarts bytes tokens → number < length tokens
    → position.line ≡ line_of bytes (get_or tokens number d).start → position.column ≡ column_of bytes (get_or tokens number d).start
    → BeginsAt bytes number position
begins_at bytes tokens number d position starts there line column = record {
  offset = (get_or tokens number d).start;
  starts = starts_at bytes tokens number d starts there;
  line = line;
  column = column;
}

-- a spelling with which tokens begin is within them
pub spelling_within : (p : Program) (tokens : List Token) → BeginWith p (spelled tokens) → length (spell_program p) ≤ length tokens
spelling_within p tokens same =
    omega (arith, ap length same, length-take (length (spell_program p)) (spelled tokens), spelled_length tokens)

pub start_there : (p : Program) (start : ℕ) (tokens : List Token) → BeginWith p (spelled tokens) → start < length (spell_program p) → start < length tokens
start_there p start tokens same within = omega (arith, spelling_within p tokens same)
