-- The canonical text is a certificate.
use Rattle.std.proofs.Common.{◌≡◌, ℕ, ◌+◌, ◌^◌, ◌<◌, Bool, true, false, not, List, [], ◌∷◌, ◌++◌, length, map, refl, sym, ap, ap₂, subst, ◌∙◌, arith, append_assoc, eqb}
use Rattle.std.specs.Prelude.{codes}
use Rattle.std.specs.Fmt.{decimal}
use Rattle.std.specs.List.{flat_map}
use Rattle.std.proofs.lemmas.List.{append-nil}
use Rattle.std.proofs.lemmas.List.Concat.{flat_map-append}
use Rattle.std.proofs.lemmas.List.Elements.{All-head, All-tail}
use Rattle.std.proofs.lemmas.Bool.{and_parts, and_from, cond-true, eqb-true, ne_eqb, false_from_ne_true, not_from_false, not-true, false≢true}
use Rattle.civl_cnf.specs.Literal.{Literal}
use Rattle.civl_cnf.specs.ClauseSet.{ClauseSet}
use Rattle.civl_proofs.specs.Text.{is_blank, is_comment, words_of, lines_of, sign_of, literal_word, clause_words, all_words, clause_line, clause_lines, canonical, MayBeHeld}
use Rattle.civl_proofs.specs.Laws.{CanonicalIsRead}
use Rattle.civl_proofs.proofs.Words.{is_dense, onto_parts, words_ended}
use Rattle.civl_proofs.proofs.Numbers.{has_first, decimal_dense}
use Rattle.civl_proofs.proofs.Decoding.{AreSmall, AllSmall, small_clauses}
use Rattle.civl_proofs.proofs.Resting.{body_words, is_one_line}

-- ---- lines

one_line_both : (xs ys : List ℕ) → is_one_line xs ≡ true → is_one_line ys ≡ true → is_one_line (xs ++ ys) ≡ true
one_line_both [] ys h k = k
one_line_both (x ∷ xs) ys h k =
    let parts = and_parts (not (eqb x 10)) (is_one_line xs) h in
    and_from (not (eqb x 10)) (is_one_line (xs ++ ys)) parts.0 (one_line_both xs ys parts.1 k)

no_feed : (byte : ℕ) → not (is_blank byte) ≡ true → not (eqb byte 10) ≡ true
no_feed byte h = not_from_false (eqb byte 10) (false_from_ne_true (eqb byte 10) (λ e. false≢true (sym (not-true (is_blank byte) h) ∙ ap is_blank (eqb-true byte 10 e))))

dense_line : (xs : List ℕ) → is_dense xs ≡ true → is_one_line xs ≡ true
dense_line [] h = refl
dense_line (x ∷ xs) h =
    let parts = and_parts (not (is_blank x)) (is_dense xs) h in
    and_from (not (eqb x 10)) (is_one_line xs) (no_feed x parts.0) (dense_line xs parts.1)

-- a line at the front of a text
line_first : (line rest : List ℕ) → is_one_line line ≡ true → lines_of (line ++ 10 ∷ rest) ≡ line ∷ lines_of rest
line_first line rest h = onto_parts (λ byte. eqb byte 10) line (10 ∷ rest) [] (lines_of rest) h refl ∙ ap (λ (xs : List ℕ). xs ∷ lines_of rest) (append-nil line)

-- ---- literals

-- a word with its first byte
record IsFilledWord (text : List ℕ) : Type 0 where
  first : ℕ
  more : List ℕ
  is : text ≡ first ∷ more
  dense : is_dense (first ∷ more) ≡ true
  no_c : eqb first 99 ≡ false

number_filled : (n : ℕ) → n < 2 ^ 32 → IsFilledWord (decimal n)
number_filled n small =
    let f = has_first n small in
    record {
      first = f.first;
      more = f.more;
      is = f.is;
      dense = subst (λ (xs : List ℕ). is_dense xs ≡ true) f.is (decimal_dense n small);
      no_c = ne_eqb f.first 99 (λ e. absurd (omega (arith, f.high, e)));
    }

signed_filled : (positive : Bool) (n : ℕ) → n < 2 ^ 32 → IsFilledWord (sign_of positive ++ decimal n)
signed_filled true n small = number_filled n small
signed_filled false n small = record { first = 45; more = decimal n; is = refl; dense = decimal_dense n small; no_c = refl }

literal_filled : (l : Literal) → l.variable + 1 < 2 ^ 32 → IsFilledWord (literal_word l)
literal_filled l small = signed_filled l.positive (l.variable + 1) small

-- ---- the line of a clause

line_text : List Literal → List ℕ
line_text clause = flat_map (λ l. literal_word l ++ codes " ") clause ++ codes "0"

-- a literal's word at the front
line_step : (l : Literal) (clause : List Literal) → line_text (l ∷ clause) ≡ literal_word l ++ 32 ∷ line_text clause
unfolding line_text
line_step l clause =
    append_assoc (literal_word l ++ codes " ") (flat_map (λ m. literal_word m ++ codes " ") clause) (codes "0")
    ∙ append_assoc (literal_word l) (codes " ") (flat_map (λ m. literal_word m ++ codes " ") clause ++ codes "0")

line_one : (clause : List Literal) → AreSmall clause → is_one_line (line_text clause) ≡ true
unfolding line_text
line_one [] small = refl
line_one (l ∷ clause) small =
    let f = literal_filled l (All-head (λ (m : Literal). m.variable + 1 < 2 ^ 32) l clause small) in
    let dense : is_dense (literal_word l) ≡ true = subst (λ (xs : List ℕ). is_dense xs ≡ true) (sym f.is) f.dense in
    let rest : is_one_line (32 ∷ line_text clause) ≡ true = line_one clause (All-tail (λ (m : Literal). m.variable + 1 < 2 ^ 32) l clause small) in
    subst (λ (xs : List ℕ). is_one_line xs ≡ true) (sym (line_step l clause)) (one_line_both (literal_word l) (32 ∷ line_text clause) (dense_line (literal_word l) dense) rest)

line_words : (clause : List Literal) → AreSmall clause → words_of (line_text clause) ≡ clause_words clause
unfolding line_text
line_words [] small = refl
line_words (l ∷ clause) small =
    let f = literal_filled l (All-head (λ (m : Literal). m.variable + 1 < 2 ^ 32) l clause small) in
    ap words_of (line_step l clause ∙ ap (λ (xs : List ℕ). xs ++ 32 ∷ line_text clause) f.is)
    ∙ words_ended f.first f.more 32 (line_text clause) f.dense refl
    ∙ ap₂ (λ (x : List ℕ) (xs : List (List ℕ)). x ∷ xs) (sym f.is) (line_words clause (All-tail (λ (m : Literal). m.variable + 1 < 2 ^ 32) l clause small))

line_no_comment : (clause : List Literal) → AreSmall clause → is_comment (line_text clause) ≡ false
unfolding line_text
line_no_comment [] small = refl
line_no_comment (l ∷ clause) small =
    let f = literal_filled l (All-head (λ (m : Literal). m.variable + 1 < 2 ^ 32) l clause small) in
    ap is_comment (line_step l clause ∙ ap (λ (xs : List ℕ). xs ++ 32 ∷ line_text clause) f.is) ∙ f.no_c

line_is : (clause : List Literal) → clause_line clause ≡ line_text clause ++ 10 ∷ []
unfolding line_text
line_is clause = sym (append_assoc (flat_map (λ l. literal_word l ++ codes " ") clause) (codes "0") (10 ∷ []))

-- ---- the lines of clauses

lines_text : (clauses : List (List Literal)) (rest : List ℕ) → AllSmall clauses → lines_of (clause_lines clauses ++ rest) ≡ map line_text clauses ++ lines_of rest
lines_text [] rest small = refl
lines_text (c ∷ clauses) rest small =
    let text : clause_lines (c ∷ clauses) ++ rest ≡ line_text c ++ 10 ∷ (clause_lines clauses ++ rest) =
    append_assoc (clause_line c) (clause_lines clauses) rest ∙ ap (λ (xs : List ℕ). xs ++ (clause_lines clauses ++ rest)) (line_is c) ∙ append_assoc (line_text c) (10 ∷ []) (clause_lines clauses ++ rest) in
    ap lines_of text ∙ line_first (line_text c) (clause_lines clauses ++ rest) (line_one c (All-head AreSmall c clauses small)) ∙ ap (λ (xs : List (List ℕ)). line_text c ∷ xs) (lines_text clauses rest (All-tail AreSmall c clauses small))

body_text : (clauses : List (List Literal)) → AllSmall clauses → body_words (map line_text clauses) ≡ all_words clauses
body_text [] small = refl
body_text (c ∷ clauses) small =
    ap (flat_map words_of) (cond-true (not (is_comment (line_text c))) _ _ (ap not (line_no_comment c (All-head AreSmall c clauses small))))
    ∙ ap₂ (λ (xs ys : List (List ℕ)). xs ++ ys) (line_words c (All-head AreSmall c clauses small)) (body_text clauses (All-tail AreSmall c clauses small))

log_text : (clauses : List (List Literal)) → AllSmall clauses → flat_map words_of (map line_text clauses) ≡ all_words clauses
log_text [] small = refl
log_text (c ∷ clauses) small = ap₂ (λ (xs ys : List (List ℕ)). xs ++ ys) (line_words c (All-head AreSmall c clauses small)) (log_text clauses (All-tail AreSmall c clauses small))

-- ---- the text

header_text : ℕ → ℕ → List ℕ
header_text variables count = codes "p cnf " ++ (decimal variables ++ 32 ∷ decimal count)

header_one : (variables count : ℕ) → variables < 2 ^ 32 → count < 2 ^ 32 → is_one_line (header_text variables count) ≡ true
unfolding header_text
header_one variables count few low = one_line_both (decimal variables) (32 ∷ decimal count) (dense_line (decimal variables) (decimal_dense variables few)) (dense_line (decimal count) (decimal_dense count low))

chain : (a v b c f s k l : List ℕ) → a ++ v ++ b ++ c ++ f ++ s ++ k ++ l ≡ (a ++ (v ++ (b ++ c))) ++ (f ++ (s ++ (k ++ l)))
chain a v b c f s k l = simp append_assoc

canonical_parts : (set : ClauseSet) (log : List (List Literal)) → canonical set log ≡ header_text set.variables (length set.clauses) ++ 10 ∷ (clause_lines set.clauses ++ (codes "log" ++ 10 ∷ clause_lines log))
unfolding header_text
canonical_parts set log = chain (codes "p cnf ") (decimal set.variables) (codes " ") (decimal (length set.clauses)) (10 ∷ []) (clause_lines set.clauses) (codes "log" ++ 10 ∷ []) (clause_lines log)

canonical_lines : (set : ClauseSet) (log : List (List Literal)) → MayBeHeld set log → lines_of (canonical set log) ≡ header_text set.variables (length set.clauses) ∷ (map line_text set.clauses ++ codes "log" ∷ (map line_text log ++ [] ∷ []))
canonical_lines set log held =
    let few : set.variables < 2 ^ 32 = omega (arith, held.few_variables) in
    let low : length set.clauses < 2 ^ 32 = omega (arith, held.few_clauses) in
    let last : lines_of (clause_lines log) ≡ map line_text log ++ [] ∷ [] = ap lines_of (sym (append-nil (clause_lines log))) ∙ lines_text log [] (small_clauses set.variables log few held.log_below) in
    ap lines_of (canonical_parts set log)
    ∙ line_first (header_text set.variables (length set.clauses)) (clause_lines set.clauses ++ (codes "log" ++ 10 ∷ clause_lines log)) (header_one set.variables (length set.clauses) few low)
    ∙ ap (λ (xs : List (List ℕ)). header_text set.variables (length set.clauses) ∷ xs) (lines_text set.clauses (codes "log" ++ 10 ∷ clause_lines log) (small_clauses set.variables set.clauses few held.below))
    ∙ ap (λ (xs : List (List ℕ)). header_text set.variables (length set.clauses) ∷ (map line_text set.clauses ++ codes "log" ∷ xs)) last

pub canonical_is_read : CanonicalIsRead
unfolding header_text
canonical_is_read set log held =
    let few : set.variables < 2 ^ 32 = omega (arith, held.few_variables) in
    record {
      comments = [];
      header = header_text set.variables (length set.clauses);
      body = map line_text set.clauses;
      rest = map line_text log ++ [] ∷ [];
      lines = canonical_lines set log held;
      only_comments = refl;
      is_header = (32, 32, 32, refl, refl, refl, refl);
      clauses = body_text set.clauses (small_clauses set.variables set.clauses few held.below);
      logged = flat_map-append words_of (map line_text log) ([] ∷ []) ∙ append-nil (flat_map words_of (map line_text log)) ∙ log_text log (small_clauses set.variables log few held.log_below);
      held = held;
    }
