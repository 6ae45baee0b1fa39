-- What is still to come of a certificate behind a state: the rest of a line, and the lines behind it.
use Rattle.std.proofs.Common.{◌≡◌, ℕ, ◌≤◌, Bool, true, false, not, cond, List, [], ◌∷◌, ◌++◌, length, refl, sym, ap, subst, ◌∙◌, append_assoc, eqb}
use Rattle.std.specs.Prelude.{codes, filter, IsTrue}
use Rattle.std.specs.List.{flat_map, list_all}
use Rattle.std.specs.Fmt.{decimal}
use Rattle.std.proofs.lemmas.List.{append-nil}
use Rattle.std.proofs.lemmas.Bool.{and_parts, and_from, cond-true, cond-false}
use Rattle.civl_cnf.specs.Literal.{Literal}
use Rattle.civl_cnf.specs.ClauseSet.{ClauseSet, AreBelow}
use Rattle.civl_proofs.specs.declared.word.Word.TheVariants.{Empty}
use Rattle.civl_proofs.specs.declared.reading.Spot.{Spot}
use Rattle.civl_proofs.specs.declared.reading.Spot.TheVariants.{First, Inside, Comment}
use Rattle.civl_proofs.specs.Text.{is_blank, is_comment, words_of, lines_of, all_words, IsHeader, MayBeHeld, IsCertificate, most_variables, most_clauses}
use Rattle.civl_proofs.specs.inner.Reading.{IsWithin, Draft, State, Opening, Remark, Title, Variables, Count, Setting, Keyword, Logging}
use Rattle.civl_proofs.proofs.Numbers.{digits_of}
use Rattle.civl_proofs.proofs.Decoding.{cons_once}
use Rattle.civl_proofs.proofs.Typing.{text_of}
use Rattle.civl_proofs.proofs.Drafting.{words_read, IsSoundDraft, HasRoom}

-- the words of those lines that are no comments
abbrev pub body_words : List (List ℕ) → List (List ℕ)
body_words body = flat_map words_of (filter (λ line. not (is_comment line)) body)

-- lines of the clause set, of which these words were read already, then `log`, and the lines of the log
pub record IsSetRest (read : List (List ℕ)) (behind : List (List ℕ)) (set : ClauseSet) (log : List (List Literal)) : Type 0 where
  pub body : List (List ℕ)
  pub rest : List (List ℕ)
  pub lines : behind ≡ body ++ codes "log" ∷ rest
  pub clauses : read ++ body_words body ≡ all_words set.clauses
  pub logged : flat_map words_of rest ≡ all_words log

-- comments, the header, and then those
pub record IsOpeningRest (behind : List (List ℕ)) (set : ClauseSet) (log : List (List Literal)) : Type 0 where
  pub comments : List (List ℕ)
  pub header : List ℕ
  pub others : List (List ℕ)
  pub lines : behind ≡ comments ++ header ∷ others
  pub only_comments : IsTrue (list_all is_comment comments)
  pub is_header : IsHeader set.variables (length set.clauses) header
  pub set_rest : IsSetRest [] others set log

-- the two numbers of the header, of which these digits were read already
abbrev pub IsNumbersRest : List ℕ → List ℕ → ClauseSet → Type 0
IsNumbersRest read line set = (c : ℕ) × IsTrue (is_blank c) × (read ++ line ≡ decimal set.variables ++ c ∷ decimal (length set.clauses))

abbrev pub fits : ℕ → ℕ → Bool
fits expected byte = cond (eqb expected 32) (is_blank byte) (eqb byte expected)

-- the bytes that are expected, and the numbers
abbrev pub IsTitleRest : List ℕ → List ℕ → ClauseSet → Type 0
IsTitleRest [] line set = IsNumbersRest [] line set
IsTitleRest (expected ∷ more) line set = (byte : ℕ) × (tail : List ℕ) × IsTrue (fits expected byte) × (line ≡ byte ∷ tail) × IsTitleRest more tail set

abbrev pub IsSpotRest : Spot → Draft → List ℕ → List (List ℕ) → ClauseSet → List (List Literal) → Type 0
IsSpotRest First d line others set log = IsSetRest (words_read d) (line ∷ others) set log
IsSpotRest Inside d line others set log = IsSetRest (words_read d ++ words_of (text_of d.word ++ line)) others set log
IsSpotRest Comment d line others set log = IsSetRest (words_read d) others set log

abbrev pub IsRest : State → List ℕ → List (List ℕ) → ClauseSet → List (List Literal) → Type 0
IsRest Opening line others set log = IsOpeningRest (line ∷ others) set log
IsRest Remark line others set log = IsOpeningRest others set log
IsRest (Title expected) line others set log = IsTitleRest expected line set × IsSetRest [] others set log
IsRest (Variables value) line others set log = IsNumbersRest (digits_of value) line set × IsSetRest [] others set log
IsRest (Count variables value) line others set log = (variables ≡ set.variables) × (decimal (length set.clauses) ≡ digits_of value ++ line) × IsSetRest [] others set log
IsRest (Setting variables count spot d) line others set log = (variables ≡ set.variables) × (count ≡ length set.clauses) × IsSpotRest spot d line others set log
IsRest (Keyword variables clauses expected) line others set log = (variables ≡ set.variables) × (set.clauses ≡ clauses) × (line ≡ expected) × (flat_map words_of others ≡ all_words log)
IsRest (Logging variables clauses d) line others set log = (variables ≡ set.variables) × (set.clauses ≡ clauses) × ((words_read d ++ words_of (text_of d.word ++ line)) ++ flat_map words_of others ≡ all_words log)

-- ---- what holds of each state that is reached

abbrev pub is_one_line : List ℕ → Bool
is_one_line bytes = list_all (λ byte. not (eqb byte 10)) bytes

abbrev pub IsSoundTitle : List ℕ → Type 0
IsSoundTitle [] = ⊥
IsSoundTitle (expected ∷ more) = IsTrue (is_one_line (expected ∷ more))

abbrev pub IsEmptyAt : Spot → Draft → Type 0
IsEmptyAt First d = d.word ≡ Empty
IsEmptyAt Comment d = d.word ≡ Empty
IsEmptyAt Inside d = Unit {0}

pub record IsSoundSet (variables count : ℕ) (spot : Spot) (d : Draft) : Type 0 where
  pub few_variables : variables ≤ most_variables
  pub few_clauses : count ≤ most_clauses
  pub draft : IsSoundDraft variables d
  pub room : HasRoom count d
  pub empty : IsEmptyAt spot d

pub record IsSoundKeyword (variables : ℕ) (clauses : List (List Literal)) (expected : List ℕ) : Type 0 where
  pub few_variables : variables ≤ most_variables
  pub few_clauses : length clauses ≤ most_clauses
  pub below : AreBelow variables clauses
  pub one_line : IsTrue (is_one_line expected)

pub record IsSoundLog (variables : ℕ) (clauses : List (List Literal)) (d : Draft) : Type 0 where
  pub few_variables : variables ≤ most_variables
  pub few_clauses : length clauses ≤ most_clauses
  pub below : AreBelow variables clauses
  pub draft : IsSoundDraft variables d

abbrev pub IsSound : State → Type 0
IsSound Opening = Unit {0}
IsSound Remark = Unit {0}
IsSound (Title expected) = IsSoundTitle expected
IsSound (Variables value) = IsWithin most_variables value
IsSound (Count variables value) = (variables ≤ most_variables) × IsWithin most_clauses value
IsSound (Setting variables count spot d) = IsSoundSet variables count spot d
IsSound (Keyword variables clauses expected) = IsSoundKeyword variables clauses expected
IsSound (Logging variables clauses d) = IsSoundLog variables clauses d

-- ---- the first line of what is to come

-- the line is `log`, a comment, or another line of the clause set
pub data SetCase (read : List (List ℕ)) (line : List ℕ) (others : List (List ℕ)) (set : ClauseSet) (log : List (List Literal)) : Type 0 where
  ends_set : line ≡ codes "log" → read ≡ all_words set.clauses → flat_map words_of others ≡ all_words log → SetCase read line others set log
  passes_by : is_comment line ≡ true → IsSetRest read others set log → SetCase read line others set log
  goes_on : is_comment line ≡ false → IsSetRest (read ++ words_of line) others set log → SetCase read line others set log

filtered : (line : List ℕ) (body : List (List ℕ)) (b : Bool) → is_comment line ≡ b → body_words (line ∷ body) ≡ cond b [] (words_of line) ++ body_words body
filtered line body true e = ap (flat_map words_of) (cond-false (not (is_comment line)) _ _ (ap not e))
filtered line body false e = ap (flat_map words_of) (cond-true (not (is_comment line)) _ _ (ap not e))

line_case : (read : List (List ℕ)) (line : List ℕ) (others body rest : List (List ℕ)) (set : ClauseSet) (log : List (List Literal)) (b : Bool) → is_comment line ≡ b → others ≡ body ++ codes "log" ∷ rest → read ++ body_words (line ∷ body) ≡ all_words set.clauses → flat_map words_of rest ≡ all_words log → SetCase read line others set log
line_case read line others body rest set log true e lines clauses logged =
    passes_by e (record { body = body; rest = rest; lines = lines; clauses = ap (λ (xs : List (List ℕ)). read ++ xs) (sym (filtered line body true e)) ∙ clauses; logged = logged })
line_case read line others body rest set log false e lines clauses logged =
    goes_on e (record { body = body; rest = rest; lines = lines; clauses = append_assoc read (words_of line) (body_words body) ∙ ap (λ (xs : List (List ℕ)). read ++ xs) (sym (filtered line body false e)) ∙ clauses; logged = logged })

set_case_at : (read : List (List ℕ)) (line : List ℕ) (others body rest : List (List ℕ)) (set : ClauseSet) (log : List (List Literal)) → line ∷ others ≡ body ++ codes "log" ∷ rest → read ++ body_words body ≡ all_words set.clauses → flat_map words_of rest ≡ all_words log → SetCase read line others set log
set_case_at read line others [] rest set log lines clauses logged =
    let parts = cons_once line (codes "log") others rest lines in
    ends_set parts.0 (sym (append-nil read) ∙ clauses) (ap (flat_map words_of) parts.1 ∙ logged)
set_case_at read line others (first ∷ body) rest set log lines clauses logged =
    let parts = cons_once line first others (body ++ codes "log" ∷ rest) lines in
    line_case read line others body rest set log (is_comment line) refl parts.1 (subst (λ (x : List ℕ). read ++ body_words (x ∷ body) ≡ all_words set.clauses) (sym parts.0) clauses) logged

pub set_case : (read : List (List ℕ)) (line : List ℕ) (others : List (List ℕ)) (set : ClauseSet) (log : List (List Literal)) → IsSetRest read (line ∷ others) set log → SetCase read line others set log
set_case read line others set log h = set_case_at read line others h.body h.rest set log h.lines h.clauses h.logged

pub rest_of_log : (read : List (List ℕ)) (others : List (List ℕ)) (set : ClauseSet) (log : List (List Literal)) → read ≡ all_words set.clauses → flat_map words_of others ≡ all_words log → IsSetRest read (codes "log" ∷ others) set log
rest_of_log read others set log clauses logged = record { body = []; rest = others; lines = refl; clauses = append-nil read ∙ clauses; logged = logged }

pub rest_of_comment : (read : List (List ℕ)) (line : List ℕ) (others : List (List ℕ)) (set : ClauseSet) (log : List (List Literal)) → is_comment line ≡ true → IsSetRest read others set log → IsSetRest read (line ∷ others) set log
rest_of_comment read line others set log e h = record {
  body = line ∷ h.body;
  rest = h.rest;
  lines = ap (λ (xs : List (List ℕ)). line ∷ xs) h.lines;
  clauses = ap (λ (xs : List (List ℕ)). read ++ xs) (filtered line h.body true e) ∙ h.clauses;
  logged = h.logged;
}

pub rest_of_line : (read : List (List ℕ)) (line : List ℕ) (others : List (List ℕ)) (set : ClauseSet) (log : List (List Literal)) → is_comment line ≡ false → IsSetRest (read ++ words_of line) others set log → IsSetRest read (line ∷ others) set log
rest_of_line read line others set log e h = record {
  body = line ∷ h.body;
  rest = h.rest;
  lines = ap (λ (xs : List (List ℕ)). line ∷ xs) h.lines;
  clauses = ap (λ (xs : List (List ℕ)). read ++ xs) (filtered line h.body false e) ∙ sym (append_assoc read (words_of line) (body_words h.body)) ∙ h.clauses;
  logged = h.logged;
}

-- the line is a comment before the header, or the header
pub data OpeningCase (line : List ℕ) (others : List (List ℕ)) (set : ClauseSet) (log : List (List Literal)) : Type 0 where
  remarks : is_comment line ≡ true → IsOpeningRest others set log → OpeningCase line others set log
  heads : IsHeader set.variables (length set.clauses) line → IsSetRest [] others set log → OpeningCase line others set log

opening_case_at : (line : List ℕ) (others comments : List (List ℕ)) (header : List ℕ) (behind : List (List ℕ)) (set : ClauseSet) (log : List (List Literal)) → line ∷ others ≡ comments ++ header ∷ behind → IsTrue (list_all is_comment comments) → IsHeader set.variables (length set.clauses) header → IsSetRest [] behind set log → OpeningCase line others set log
opening_case_at line others [] header behind set log lines all is_header rest =
    let parts = cons_once line header others behind lines in
    heads (subst (IsHeader set.variables (length set.clauses)) (sym parts.0) is_header) (subst (λ (xs : List (List ℕ)). IsSetRest [] xs set log) (sym parts.1) rest)
opening_case_at line others (first ∷ comments) header behind set log lines all is_header rest =
    let parts = cons_once line first others (comments ++ header ∷ behind) lines in
    let tests = and_parts (is_comment first) (list_all is_comment comments) all in
    remarks (ap is_comment parts.0 ∙ tests.0) (record { comments = comments; header = header; others = behind; lines = parts.1; only_comments = tests.1; is_header = is_header; set_rest = rest })

pub opening_case : (line : List ℕ) (others : List (List ℕ)) (set : ClauseSet) (log : List (List Literal)) → IsOpeningRest (line ∷ others) set log → OpeningCase line others set log
opening_case line others set log h = opening_case_at line others h.comments h.header h.others set log h.lines h.only_comments h.is_header h.set_rest

pub rest_of_remark : (line : List ℕ) (others : List (List ℕ)) (set : ClauseSet) (log : List (List Literal)) → is_comment line ≡ true → IsOpeningRest others set log → IsOpeningRest (line ∷ others) set log
rest_of_remark line others set log e h = record {
  comments = line ∷ h.comments;
  header = h.header;
  others = h.others;
  lines = ap (λ (xs : List (List ℕ)). line ∷ xs) h.lines;
  only_comments = and_from (is_comment line) (list_all is_comment h.comments) e h.only_comments;
  is_header = h.is_header;
  set_rest = h.set_rest;
}

pub rest_of_header : (line : List ℕ) (others : List (List ℕ)) (set : ClauseSet) (log : List (List Literal)) → IsHeader set.variables (length set.clauses) line → IsSetRest [] others set log → IsOpeningRest (line ∷ others) set log
rest_of_header line others set log e h = record { comments = []; header = line; others = others; lines = refl; only_comments = refl; is_header = e; set_rest = h }

-- ---- the whole text

pub certificate_rest : (text : List ℕ) (set : ClauseSet) (log : List (List Literal)) → IsCertificate text set log → IsOpeningRest (lines_of text) set log
certificate_rest text set log h = record {
  comments = h.comments;
  header = h.header;
  others = h.body ++ codes "log" ∷ h.rest;
  lines = h.lines;
  only_comments = h.only_comments;
  is_header = h.is_header;
  set_rest = record { body = h.body; rest = h.rest; lines = refl; clauses = h.clauses; logged = h.logged };
}

pub rest_certificate : (text : List ℕ) (set : ClauseSet) (log : List (List Literal)) → IsOpeningRest (lines_of text) set log → MayBeHeld set log → IsCertificate text set log
rest_certificate text set log h held = record {
  comments = h.comments;
  header = h.header;
  body = h.set_rest.body;
  rest = h.set_rest.rest;
  lines = h.lines ∙ ap (λ (xs : List (List ℕ)). h.comments ++ h.header ∷ xs) h.set_rest.lines;
  only_comments = h.only_comments;
  is_header = h.is_header;
  clauses = h.set_rest.clauses;
  logged = h.set_rest.logged;
  held = held;
}
