-- Worked texts.
use Rattle.std.specs.Prelude.{◌≡◌, ℕ, List, [], ◌∷◌, ◌++◌, codes}
use Rattle.civl_places.specs.Lines.{line_of, column_of, line_at}

-- an empty line first, a comment, two line feeds in a row, and no line feed at the end
abbrev pub comment_text : List ℕ
comment_text = 10 ∷ codes "a // b" ++ (10 ∷ 10 ∷ codes "civl 1;")

-- a carriage return before each line feed, and nothing behind the last one
abbrev pub returns_text : List ℕ
returns_text = codes "ab" ++ (13 ∷ 10 ∷ codes "c" ++ (13 ∷ 10 ∷ []))

-- the line and the column of the offset, and its line
pub record StandsAt (bytes : List ℕ) (offset line column : ℕ) (text : List ℕ) : Type 0 where
  pub on_line : line_of bytes offset ≡ line
  pub in_column : column_of bytes offset ≡ column
  pub shows : line_at bytes offset ≡ text

pub record LineExamples : Type 0 where
  pub no_bytes : StandsAt [] 0 1 1 []
  pub empty_line : StandsAt comment_text 0 1 1 []
  pub behind_feed : StandsAt comment_text 1 2 1 (codes "a // b")
  pub in_comment : StandsAt comment_text 6 2 6 (codes "a // b")
  pub at_feed : StandsAt comment_text 7 2 7 (codes "a // b")
  pub between_feeds : StandsAt comment_text 8 3 1 []
  pub last_line : StandsAt comment_text 14 4 6 (codes "civl 1;")
  pub no_last_feed : StandsAt comment_text 16 4 8 (codes "civl 1;")
  pub at_return : StandsAt returns_text 2 1 3 (codes "ab" ++ 13 ∷ [])
  pub at_feed_of_return : StandsAt returns_text 3 1 4 (codes "ab" ++ 13 ∷ [])
  pub behind_last_feed : StandsAt returns_text 7 3 1 []
