-- Certificates: a clause set and a log of clauses that is to refute it, as one text, in the manner of DIMACS ("Satisfiability: Suggested Format", 1993).
use Rattle.std.specs.Prelude.{◌≡◌, ◌⊎◌, ℕ, ◌+◌, ◌<◌, ◌≤◌, ◌||◌, Bool, true, false, not, nat_eq, if◌then◌else◌, IsTrue, List, [], ◌∷◌, ◌++◌, length, take, map, filter, codes, decimal}
use Rattle.std.specs.List.{list_all, flat_map, slice_split}
use Rattle.civl_cnf.specs.Literal.{Literal}
use Rattle.civl_cnf.specs.ClauseSet.{ClauseSet, AreBelow}

-- a tab, a line feed, a carriage return or a space
abbrev pub is_blank : ℕ → Bool
is_blank byte = nat_eq byte 9 || nat_eq byte 10 || nat_eq byte 13 || nat_eq byte 32

-- the lines of a text: what its line feeds part, so that the last line is empty where the text ends with a line feed
abbrev pub lines_of : List ℕ → List (List ℕ)
lines_of text = slice_split (λ byte. nat_eq byte 10) text

abbrev pub is_filled : List ℕ → Bool
is_filled [] = false
is_filled (byte ∷ bytes) = true

-- the words of a line: what its blanks part, without what is empty
abbrev pub words_of : List ℕ → List (List ℕ)
words_of line = filter is_filled (slice_split is_blank line)

-- a comment line begins with `c`
abbrev pub is_comment : List ℕ → Bool
is_comment [] = false
is_comment (byte ∷ bytes) = nat_eq byte 99

-- A literal's word is the variable's number, counted from 1, with `-` in front where the literal is negative.
abbrev pub sign_of : Bool → List ℕ
sign_of positive = if positive then [] else codes "-"

abbrev pub literal_word : Literal → List ℕ
literal_word l = sign_of l.positive ++ decimal (l.variable + 1)

-- the words of a clause: those of its literals, and `0` at the end
abbrev pub clause_words : List Literal → List (List ℕ)
clause_words clause = map literal_word clause ++ codes "0" ∷ []

abbrev pub all_words : List (List Literal) → List (List ℕ)
all_words clauses = flat_map clause_words clauses

-- the line `p cnf V C`, with one blank between its words
abbrev pub IsHeader : ℕ → ℕ → List ℕ → Type 0
IsHeader variables clauses line =
    (a b c : ℕ) × IsTrue (is_blank a) × IsTrue (is_blank b) × IsTrue (is_blank c)
    × (line ≡ codes "p" ++ (a ∷ codes "cnf" ++ (b ∷ decimal variables ++ c ∷ decimal clauses)))

-- the most variables, and the most clauses in the clause set, that a certificate may have
abbrev pub most_variables : ℕ
most_variables = 10000000

abbrev pub most_clauses : ℕ
most_clauses = 100000000

-- a certificate may hold this clause set and this log
pub record MayBeHeld (set : ClauseSet) (log : List (List Literal)) : Type 0 where
  pub few_variables : set.variables ≤ most_variables
  pub few_clauses : length set.clauses ≤ most_clauses
  pub below : AreBelow set.variables set.clauses
  pub log_below : AreBelow set.variables log

-- The text is a certificate of this clause set and this log. Its lines are comments; then the header, with the numbers of variables and of clauses; then lines of which those that are no comments have the words of the clauses; then the line `log`; and then lines with the words of the log.
pub record IsCertificate (text : List ℕ) (set : ClauseSet) (log : List (List Literal)) : Type 0 where
  pub comments : List (List ℕ)
  pub header : List ℕ
  pub body : List (List ℕ)
  pub rest : List (List ℕ)
  pub lines : lines_of text ≡ comments ++ header ∷ (body ++ codes "log" ∷ rest)
  pub only_comments : IsTrue (list_all is_comment comments)
  pub is_header : IsHeader set.variables (length set.clauses) header
  pub clauses : flat_map words_of (filter (λ line. not (is_comment line)) body) ≡ all_words set.clauses
  pub logged : flat_map words_of rest ≡ all_words log
  pub held : MayBeHeld set log

-- the text is a certificate
abbrev pub IsWhole : List ℕ → Type 0
IsWhole text = (set : ClauseSet) × (log : List (List Literal)) × IsCertificate text set log

-- some certificate begins with these bytes
abbrev pub BeginsWhole : List ℕ → Type 0
BeginsWhole bytes = (more : List ℕ) × IsWhole (bytes ++ more)

-- The first fault of a text is at this place: the bytes before it begin a certificate, and together with the byte there they don't, or, where the text ends there, they aren't one.
pub record IsFirstFault (text : List ℕ) (place : ℕ) : Type 0 where
  pub before : BeginsWhole (take place text)
  pub wrong : ((place < length text) × (BeginsWhole (take (place + 1) text) → ⊥)) ⊎ ((place ≡ length text) × (IsWhole text → ⊥))

-- the line of a clause in the canonical text: its words, with one blank between them
abbrev pub clause_line : List Literal → List ℕ
clause_line clause = flat_map (λ l. literal_word l ++ codes " ") clause ++ 48 ∷ 10 ∷ []

abbrev pub clause_lines : List (List Literal) → List ℕ
clause_lines clauses = flat_map clause_line clauses

-- the canonical text: one clause on each line, one blank between numbers, a line feed behind each line, and nothing else
abbrev pub canonical : ClauseSet → List (List Literal) → List ℕ
canonical set log =
    codes "p cnf " ++ decimal set.variables ++ codes " " ++ decimal (length set.clauses) ++ (10 ∷ [])
    ++ clause_lines set.clauses ++ (codes "log" ++ 10 ∷ []) ++ clause_lines log
