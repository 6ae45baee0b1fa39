-- One byte, or the end: what goes on from a state.
use Rattle.std.proofs.Common.{◌≡◌, ℕ, Bool, true, false, cond, List, [], ◌∷◌, ◌++◌, length, Some, None, Option, refl, sym, ap, ap₂, subst, ◌∙◌, eqb}
use Rattle.std.specs.Prelude.{codes}
use Rattle.std.specs.Option.{option_map}
use Rattle.std.specs.List.{onto_first}
use Rattle.std.proofs.lemmas.List.{append-nil, nil_from_length}
use Rattle.std.proofs.lemmas.Bool.{cond-false, eqb-true, eq-eqb, false≢true}
use Rattle.std.proofs.lemmas.List.Elements.{All-nil}
use Rattle.civl_cnf.specs.Literal.{Literal}
use Rattle.civl_cnf.specs.ClauseSet.{ClauseSet, IsBelow, AreBelow}
use Rattle.civl_proofs.specs.declared.reading.Spot.{Spot}
use Rattle.civl_proofs.specs.declared.reading.Spot.TheVariants.{First, Inside, Comment}
use Rattle.civl_proofs.specs.Text.{words_of, lines_of, all_words, MayBeHeld}
use Rattle.civl_proofs.specs.inner.Reading.{Draft, ended, State, Opening, Remark, Title, Variables, Count, Setting, Keyword, Logging, step, end, Certificate, whole_of, closed_some, at_keyword_end}
use Rattle.civl_proofs.proofs.Words.{parted}
use Rattle.civl_proofs.proofs.Decoding.{cons_once, cons_some, later_some}
use Rattle.civl_proofs.proofs.Typing.{text_of}
use Rattle.civl_proofs.proofs.Drafting.{words_read, ended_some, torn_end}
use Rattle.civl_proofs.proofs.Resting.{IsSetRest, IsRest, IsSoundTitle, IsSoundLog, IsSoundKeyword, IsSound, SetCase, ends_set, passes_by, goes_on, set_case}
use Rattle.civl_proofs.proofs.Agreeing.{Agrees, agrees_from, small, empty_opening, opening_byte, remark_byte, title_byte, title_feed, variables_byte, variables_feed, count_byte, count_feed}
use Rattle.civl_proofs.proofs.Setting.{draft_whole, set_byte, set_feed, keyword_byte, keyword_feed, log_byte, log_feed}

byte_agrees : (s : State) (byte : ℕ) (line : List ℕ) (others : List (List ℕ)) (set : ClauseSet) (log : List (List Literal)) → eqb byte 10 ≡ false → IsSound s → MayBeHeld set log → Agrees (step s byte) (IsRest s (byte ∷ line) others set log) (λ t. IsRest t line others set log)
byte_agrees Opening byte line others set log e sound held = opening_byte byte line others set log
byte_agrees Remark byte line others set log e sound held = remark_byte byte line others set log e
byte_agrees (Title expected) byte line others set log e sound held = title_byte expected byte line others set log e sound
byte_agrees (Variables value) byte line others set log e sound held = variables_byte value byte line others set log e held.few_variables sound
byte_agrees (Count variables value) byte line others set log e sound held = count_byte variables value byte line others set log e held.few_clauses sound.0 sound.1
byte_agrees (Setting variables count spot d) byte line others set log e sound held = set_byte variables count spot d byte line others set log e sound held
byte_agrees (Keyword variables clauses expected) byte line others set log e sound held = keyword_byte variables clauses expected byte line others set log e sound
byte_agrees (Logging variables clauses d) byte line others set log e sound held = log_byte variables clauses d byte line others set log sound held

feed_agrees : (s : State) (line : List ℕ) (others : List (List ℕ)) (set : ClauseSet) (log : List (List Literal)) → IsSound s → MayBeHeld set log → Agrees (step s 10) (IsRest s [] (line ∷ others) set log) (λ t. IsRest t line others set log)
feed_agrees Opening line others set log sound held = λ p. empty_opening (line ∷ others) set log p
feed_agrees Remark line others set log sound held = (tt, (λ q. q), (λ p. p))
feed_agrees (Title expected) line others set log sound held = title_feed expected line others set log sound
feed_agrees (Variables value) line others set log sound held = variables_feed value line others set log held.few_variables sound
feed_agrees (Count variables value) line others set log sound held = count_feed variables value line others set log held.few_clauses sound.0 sound.1
feed_agrees (Setting variables count spot d) line others set log sound held = set_feed variables count spot d line others set log sound held
feed_agrees (Keyword variables clauses expected) line others set log sound held = keyword_feed variables clauses expected line others set log sound
feed_agrees (Logging variables clauses d) line others set log sound held = log_feed variables clauses d line others set log sound held

-- these bytes are what is still to come
abbrev pub IsRestOf : State → List ℕ → ClauseSet → List (List Literal) → Type 0
IsRestOf s bytes set log = (line : List ℕ) × (others : List (List ℕ)) × (lines_of bytes ≡ line ∷ others) × IsRest s line others set log

-- in lines that are known
pub rest_at : (s : State) (bytes line : List ℕ) (others : List (List ℕ)) (set : ClauseSet) (log : List (List Literal)) → lines_of bytes ≡ line ∷ others → IsRestOf s bytes set log → IsRest s line others set log
rest_at s bytes line others set log e p =
    let same = cons_once p.0 line p.1 others (sym p.2 ∙ e) in
    subst (λ (xs : List ℕ). IsRest s xs others set log) same.0 (subst (λ (xs : List (List ℕ)). IsRest s p.0 xs set log) same.1 p.3)

agrees_to : (o : Option State) (bytes line : List ℕ) (others : List (List ℕ)) (set : ClauseSet) (log : List (List Literal)) (P : Type 0) → lines_of bytes ≡ line ∷ others → Agrees o P (λ t. IsRest t line others set log) → Agrees o P (λ t. IsRestOf t bytes set log)
agrees_to None bytes line others set log P e a = a
agrees_to (Some s) bytes line others set log P e a = (a.0, (λ q. a.1 (rest_at s bytes line others set log e q)), (λ p. (line, others, e, a.2 p)))

agrees_at : (s : State) (byte : ℕ) (bytes line : List ℕ) (others : List (List ℕ)) (set : ClauseSet) (log : List (List Literal)) (b : Bool) → eqb byte 10 ≡ b → lines_of bytes ≡ line ∷ others → IsSound s → MayBeHeld set log → Agrees (step s byte) (IsRestOf s (byte ∷ bytes) set log) (λ t. IsRestOf t bytes set log)
agrees_at s byte bytes line others set log true e lines sound held =
    subst (λ (x : ℕ). Agrees (step s x) (IsRestOf s (x ∷ bytes) set log) (λ t. IsRestOf t bytes set log)) (sym (eqb-true byte 10 e))
    (agrees_from (step s 10) (IsRestOf s (10 ∷ bytes) set log) (IsRest s [] (line ∷ others) set log) (λ t. IsRestOf t bytes set log)
    (λ p. rest_at s (10 ∷ bytes) [] (line ∷ others) set log (ap (λ (xs : List (List ℕ)). [] ∷ xs) lines) p)
    (λ r. ([], line ∷ others, ap (λ (xs : List (List ℕ)). [] ∷ xs) lines, r))
    (agrees_to (step s 10) bytes line others set log (IsRest s [] (line ∷ others) set log) lines (feed_agrees s line others set log sound held)))
agrees_at s byte bytes line others set log false e lines sound held =
    let longer : lines_of (byte ∷ bytes) ≡ (byte ∷ line) ∷ others = cond-false (eqb byte 10) _ _ e ∙ ap (onto_first byte) lines in
    agrees_from (step s byte) (IsRestOf s (byte ∷ bytes) set log) (IsRest s (byte ∷ line) others set log) (λ t. IsRestOf t bytes set log)
    (λ p. rest_at s (byte ∷ bytes) (byte ∷ line) others set log longer p)
    (λ r. (byte ∷ line, others, longer, r))
    (agrees_to (step s byte) bytes line others set log (IsRest s (byte ∷ line) others set log) lines (byte_agrees s byte line others set log e sound held))

pub agrees : (s : State) (byte : ℕ) (bytes : List ℕ) (set : ClauseSet) (log : List (List Literal)) → IsSound s → MayBeHeld set log → Agrees (step s byte) (IsRestOf s (byte ∷ bytes) set log) (λ t. IsRestOf t bytes set log)
agrees s byte bytes set log sound held =
    let p = parted (λ x. eqb x 10) bytes in
    agrees_at s byte bytes p.first p.others set log (eqb byte 10) refl p.is sound held

-- ---- the end

no_lines : (read : List (List ℕ)) (set : ClauseSet) (log : List (List Literal)) → IsSetRest read [] set log → ⊥
no_lines read set log h = later_some h.body h.rest (codes "log") (sym h.lines)

no_log : (read : List (List ℕ)) (set : ClauseSet) (log : List (List Literal)) → SetCase read [] [] set log → ⊥
no_log read set log (ends_set is r f) = cons_some 108 (codes "og") (sym is)
no_log read set log (passes_by c r) = no_lines read set log r
no_log read set log (goes_on c r) = no_lines (read ++ []) set log r

spot_open : (spot : Spot) (variables count : ℕ) (d : Draft) (set : ClauseSet) (log : List (List Literal)) → IsRest (Setting variables count spot d) [] [] set log → ⊥
spot_open First variables count d set log p = no_log (words_read d) set log (set_case (words_read d) [] [] set log p.2)
spot_open Inside variables count d set log p = no_lines (words_read d ++ words_of (text_of d.word ++ [])) set log p.2
spot_open Comment variables count d set log p = no_lines (words_read d) set log p.2

-- where the text may end, with what was read
abbrev pub Closes : Option Certificate → (ClauseSet → List (List Literal) → Type 0) → Type 0
Closes None P = (set : ClauseSet) (log : List (List Literal)) → MayBeHeld set log → P set log → ⊥
Closes (Some c) P = MayBeHeld c.set c.log × P c.set c.log × ((set : ClauseSet) (log : List (List Literal)) → MayBeHeld set log → P set log → (set ≡ c.set) × (log ≡ c.log))

make_set : ℕ → List (List Literal) → ClauseSet
make_set n cs = record { variables = n; clauses = cs }

set_made : (set : ClauseSet) (variables : ℕ) (clauses : List (List Literal)) → variables ≡ set.variables → set.clauses ≡ clauses → set ≡ record { variables = variables; clauses = clauses }
unfolding make_set
set_made set variables clauses e f = ap₂ make_set (sym e) f

no_words : (log : List (List Literal)) → all_words log ≡ [] → log ≡ []
no_words [] e = refl
no_words ([] ∷ log) e = absurd (cons_some (codes "0") (all_words log) e)
no_words ((l ∷ c) ∷ log) e = absurd (cc (e))

keyword_closes : (variables : ℕ) (clauses : List (List Literal)) (expected : List ℕ) → IsSoundKeyword variables clauses expected → Closes (at_keyword_end variables clauses expected) (λ set log. IsRest (Keyword variables clauses expected) [] [] set log)
keyword_closes variables clauses [] sound = (
  record { few_variables = sound.few_variables; few_clauses = sound.few_clauses; below = sound.below; log_below = All-nil (IsBelow variables) },
  (refl, refl, refl, refl),
  λ set log held p. (set_made set variables clauses p.0 p.1, no_words log (sym p.3)),
)
keyword_closes variables clauses (x ∷ more) sound = λ set log held p. cons_some x more (sym p.2)

log_closed : (variables : ℕ) (clauses : List (List Literal)) (d new : Draft) (b : Bool) → IsSoundLog variables clauses d → ended d ≡ Some new → eqb (length new.lits) 0 ≡ b
    → Closes (option_map (whole_of variables clauses) (cond b (Some new.clauses) None)) (λ set log. IsRest (Logging variables clauses d) [] [] set log)
log_closed variables clauses d new true sound h e =
    let is = ended_some variables d new (small variables sound.few_variables) sound.draft h in
    let none : new.lits ≡ [] = nil_from_length new.lits (eqb-true (length new.lits) 0 e) in
    let read : words_read new ≡ all_words new.clauses = ap (λ (ls : List Literal). words_read (record new { lits = ls })) none ∙ append-nil (all_words new.clauses) in (
      record { few_variables = sound.few_variables; few_clauses = sound.few_clauses; below = sound.below; log_below = is.sound.clauses },
      (refl, refl, append-nil (words_read d ++ words_of (text_of d.word ++ [])) ∙ sym is.at_end ∙ read),
      λ set log held p.
          let whole = draft_whole variables new log sound.few_variables (subst (λ (n : ℕ). AreBelow n log) (sym p.0) held.log_below) is.sound (is.at_end ∙ sym (append-nil (words_read d ++ words_of (text_of d.word ++ []))) ∙ p.2) in
          (set_made set variables clauses p.0 p.1, whole.1),
    )
log_closed variables clauses d new false sound h e = λ set log held p.
    let is = ended_some variables d new (small variables sound.few_variables) sound.draft h in
    let whole = draft_whole variables new log sound.few_variables (subst (λ (n : ℕ). AreBelow n log) (sym p.0) held.log_below) is.sound (is.at_end ∙ sym (append-nil (words_read d ++ words_of (text_of d.word ++ []))) ∙ p.2) in
    false≢true (sym e ∙ eq-eqb (length new.lits) 0 (ap length whole.0))

log_closes_at : (variables : ℕ) (clauses : List (List Literal)) (d : Draft) (o : Option Draft) → IsSoundLog variables clauses d → ended d ≡ o
    → Closes (option_map (whole_of variables clauses) (closed_some o)) (λ set log. IsRest (Logging variables clauses d) [] [] set log)
log_closes_at variables clauses d None sound h = λ set log held p.
    torn_end variables d log [] (small variables sound.few_variables) (subst (λ (n : ℕ). AreBelow n log) (sym p.0) held.log_below) h p.2
log_closes_at variables clauses d (Some new) sound h = log_closed variables clauses d new (eqb (length new.lits) 0) sound h refl

no_title_end : (expected : List ℕ) (set : ClauseSet) (log : List (List Literal)) → IsSoundTitle expected → IsRest (Title expected) [] [] set log → ⊥
no_title_end [] set log sound p = sound
no_title_end (x ∷ more) set log sound p = cons_some p.0.0 p.0.1 (sym p.0.3)

pub closes_at : (s : State) → IsSound s → Closes (end s) (λ set log. IsRest s [] [] set log)
closes_at Opening sound = λ set log held p. empty_opening [] set log p
closes_at Remark sound = λ set log held p. later_some p.comments p.others p.header (sym p.lines)
closes_at (Title expected) sound = λ set log held p. no_title_end expected set log sound p
closes_at (Variables value) sound = λ set log held p. no_lines [] set log p.1
closes_at (Count variables value) sound = λ set log held p. no_lines [] set log p.2
closes_at (Setting variables count spot d) sound = λ set log held p. spot_open spot variables count d set log p
closes_at (Keyword variables clauses expected) sound = keyword_closes variables clauses expected sound
closes_at (Logging variables clauses d) sound = log_closes_at variables clauses d (ended d) sound refl
