-- The same behind the header: the lines of the clause set, `log`, and the lines of the log.
use Rattle.std.proofs.Common.{◌≡◌, inl, inr, ℕ, ◌<◌, ◌≤◌, Bool, true, false, not, ◌&&◌, cond, List, [], ◌∷◌, ◌++◌, length, Some, None, refl, sym, ap, ap₂, subst, ◌∙◌, arith, append_assoc, eqb, ltb}
use Rattle.std.specs.Prelude.{codes}
use Rattle.std.specs.Option.{option_map}
use Rattle.std.specs.List.{flat_map}
use Rattle.std.proofs.lemmas.List.{append-nil}
use Rattle.std.proofs.lemmas.Bool.{and_parts, and_from, false≢true, eqb-true, eqb-false, eq-eqb, ltb-true, ltb-false, not-true}
use Rattle.civl_cnf.specs.Literal.{Literal}
use Rattle.civl_cnf.specs.ClauseSet.{ClauseSet, AreBelow}
use Rattle.civl_proofs.specs.declared.word.Word.{Word}
use Rattle.civl_proofs.specs.declared.word.Word.TheVariants.{Empty}
use Rattle.civl_proofs.specs.declared.reading.Spot.{Spot}
use Rattle.civl_proofs.specs.declared.reading.Spot.TheVariants.{First, Inside, Comment}
use Rattle.civl_proofs.specs.Text.{is_blank, words_of, all_words, MayBeHeld, most_variables}
use Rattle.civl_proofs.specs.inner.Reading.{Draft, no_draft, ended, extended, Setting, Keyword, Logging, spot_after, in_line, in_set, in_keyword, in_log}
use Rattle.civl_proofs.proofs.Words.{words_begun}
use Rattle.civl_proofs.proofs.Numbers.{no_blank}
use Rattle.civl_proofs.proofs.Decoding.{cons_once, cons_some, small_clause, small_clauses, word_left, all_there, word_is}
use Rattle.civl_proofs.proofs.Typing.{text_of, text_dense, typed_none}
use Rattle.civl_proofs.proofs.Drafting.{words_read, IsSoundDraft, no_draft_sound, HasRoom, IsEnded, ended_some, torn_blank, torn_end, extended_some, no_word_more}
use Rattle.civl_proofs.proofs.Resting.{body_words, IsSetRest, IsRest, is_one_line, IsSoundSet, IsSoundKeyword, IsSoundLog, SetCase, ends_set, passes_by, goes_on, set_case, rest_of_log, rest_of_comment, rest_of_line}
use Rattle.civl_proofs.proofs.Agreeing.{Agrees, agrees_if, agrees_map, agrees_from, small}

-- ---- a draft and a byte

-- a byte that may not follow is in no word of clauses
no_extension : (variables : ℕ) (d : Draft) (byte : ℕ) (line : List ℕ) (all : List (List Literal)) (more : List (List ℕ)) → variables ≤ most_variables → AreBelow variables all → IsSoundDraft variables d → is_blank byte ≡ false → extended variables d byte ≡ None
    → (words_read d ++ words_of (text_of d.word ++ byte ∷ line)) ++ more ≡ all_words all → ⊥
no_extension variables d byte line all more few below sound inked h e =
    let w = words_begun (text_of d.word) line byte (text_dense variables d.word (small variables few) sound.word) inked in
    let found : words_read d ++ (text_of d.word ++ byte ∷ w.more) ∷ (w.others ++ more) ≡ all_words all =
    sym (append_assoc (words_read d) ((text_of d.word ++ byte ∷ w.more) ∷ w.others) more) ∙ ap (λ (xs : List (List ℕ)). (words_read d ++ xs) ++ more) (sym w.is) ∙ e in
    typed_none variables d.word byte w.more (small variables few) sound.word (no_word_more variables d byte h) (word_is variables all (words_read d) (w.others ++ more) (text_of d.word ++ byte ∷ w.more) below found)

-- where a byte of a word follows, there is room for a clause
room_left : (variables : ℕ) (d : Draft) (byte : ℕ) (line : List ℕ) (all : List (List Literal)) (more : List (List ℕ)) → variables ≤ most_variables → AreBelow variables all → IsSoundDraft variables d → is_blank byte ≡ false
    → (words_read d ++ words_of (text_of d.word ++ byte ∷ line)) ++ more ≡ all_words all → length d.clauses < length all
room_left variables d byte line all more few below sound inked e =
    let w = words_begun (text_of d.word) line byte (text_dense variables d.word (small variables few) sound.word) inked in
    let found : words_read d ++ (text_of d.word ++ byte ∷ w.more) ∷ (w.others ++ more) ≡ all_words all =
    sym (append_assoc (words_read d) ((text_of d.word ++ byte ∷ w.more) ∷ w.others) more) ∙ ap (λ (xs : List (List ℕ)). (words_read d ++ xs) ++ more) (sym w.is) ∙ e in
    word_left d.clauses all d.lits (text_of d.word ++ byte ∷ w.more) (w.others ++ more) (small_clauses variables d.clauses (small variables few) sound.clauses) (small_clauses variables all (small variables few) below) found

-- where no word is to come, all is there
pub draft_whole : (variables : ℕ) (d : Draft) (all : List (List Literal)) → variables ≤ most_variables → AreBelow variables all → IsSoundDraft variables d → words_read d ≡ all_words all → (d.lits ≡ []) × (all ≡ d.clauses)
draft_whole variables d all few below sound e =
    all_there d.clauses all d.lits (small_clauses variables d.clauses (small variables few) sound.clauses) (small_clause variables d.lits (small variables few) sound.lits) (small_clauses variables all (small variables few) below) e

-- what was read with the word's end
after_blank : (variables : ℕ) (d new : Draft) (byte : ℕ) (line : List ℕ) → IsEnded variables d new → is_blank byte ≡ true → words_read new ++ words_of (text_of new.word ++ line) ≡ words_read d ++ words_of (text_of d.word ++ byte ∷ line)
after_blank variables d new byte line h blank = ap (λ (w : Word). words_read new ++ words_of (text_of w ++ line)) h.empty ∙ h.at_blank byte line blank

-- ---- a line of the clause set

spot_is : (byte : ℕ) → eqb byte 10 ≡ false → spot_after byte ≡ Inside
spot_is byte e = ap (λ (b : Bool). cond b First Inside) e

line_byte : (variables count : ℕ) (spot : Spot) (d : Draft) (byte : ℕ) (line : List ℕ) (others : List (List ℕ)) (set : ClauseSet) (log : List (List Literal)) → eqb byte 10 ≡ false → IsSoundSet variables count spot d → MayBeHeld set log
    → Agrees (in_line variables count d byte) (IsRest (Setting variables count Inside d) (byte ∷ line) others set log) (λ t. IsRest t line others set log)
line_byte variables count spot d byte line others set log e sound held =
    agrees_if (is_blank byte) (option_map (Setting variables count (spot_after byte)) (ended d)) (cond (ltb (length d.clauses) count) (option_map (Setting variables count Inside) (extended variables d byte)) None) (IsRest (Setting variables count Inside d) (byte ∷ line) others set log) (λ t. IsRest t line others set log)
    (λ blank. subst (λ (s : Spot). Agrees (option_map (Setting variables count s) (ended d)) (IsRest (Setting variables count Inside d) (byte ∷ line) others set log) (λ t. IsRest t line others set log)) (sym (spot_is byte e))
    (agrees_map (Setting variables count Inside) (ended d) (IsRest (Setting variables count Inside d) (byte ∷ line) others set log) (λ t. IsRest t line others set log)
    (λ h p. torn_blank variables d set.clauses byte line (body_words p.2.body) (small variables sound.few_variables) (subst (λ (n : ℕ). AreBelow n set.clauses) (sym p.0) held.below) blank h p.2.clauses)
    (λ new h.
    let is = ended_some variables d new (small variables sound.few_variables) sound.draft h in
    let same = after_blank variables d new byte line is blank in (
      record { few_variables = sound.few_variables; few_clauses = sound.few_clauses; draft = is.sound; room = is.room count sound.room; empty = tt },
      (λ q. (q.0, q.1, subst (λ (r : List (List ℕ)). IsSetRest r others set log) same q.2)),
      (λ p. (p.0, p.1, subst (λ (r : List (List ℕ)). IsSetRest r others set log) (sym same) p.2)),
    ))))
    (λ inked. agrees_if (ltb (length d.clauses) count) (option_map (Setting variables count Inside) (extended variables d byte)) None (IsRest (Setting variables count Inside d) (byte ∷ line) others set log) (λ t. IsRest t line others set log)
    (λ room. agrees_map (Setting variables count Inside) (extended variables d byte) (IsRest (Setting variables count Inside d) (byte ∷ line) others set log) (λ t. IsRest t line others set log)
    (λ h p. no_extension variables d byte line set.clauses (body_words p.2.body) sound.few_variables (subst (λ (n : ℕ). AreBelow n set.clauses) (sym p.0) held.below) sound.draft inked h p.2.clauses)
    (λ new h.
    let is = extended_some variables d byte new (small variables sound.few_variables) sound.draft h in
    let same = is.read line in
    let low : length new.clauses < count = subst (λ (cs : List (List Literal)). length cs < count) (sym is.clauses) (ltb-true (length d.clauses) count room) in (
      record { few_variables = sound.few_variables; few_clauses = sound.few_clauses; draft = is.sound; room = inl low; empty = tt },
      (λ q. (q.0, q.1, subst (λ (r : List (List ℕ)). IsSetRest r others set log) same q.2)),
      (λ p. (p.0, p.1, subst (λ (r : List (List ℕ)). IsSetRest r others set log) (sym same) p.2)),
    )))
    (λ full p.
    let less = room_left variables d byte line set.clauses (body_words p.2.body) sound.few_variables (subst (λ (n : ℕ). AreBelow n set.clauses) (sym p.0) held.below) sound.draft inked p.2.clauses in
    absurd (omega (arith, ltb-false (length d.clauses) count full, less, p.1))))

line_feed : (variables count : ℕ) (spot : Spot) (d : Draft) (line : List ℕ) (others : List (List ℕ)) (set : ClauseSet) (log : List (List Literal)) → IsSoundSet variables count spot d → MayBeHeld set log
    → Agrees (option_map (Setting variables count First) (ended d)) (IsRest (Setting variables count Inside d) [] (line ∷ others) set log) (λ t. IsRest t line others set log)
line_feed variables count spot d line others set log sound held =
    agrees_map (Setting variables count First) (ended d) (IsRest (Setting variables count Inside d) [] (line ∷ others) set log) (λ t. IsRest t line others set log)
    (λ h p. torn_end variables d set.clauses (body_words p.2.body) (small variables sound.few_variables) (subst (λ (n : ℕ). AreBelow n set.clauses) (sym p.0) held.below) h p.2.clauses)
    (λ new h.
    let is = ended_some variables d new (small variables sound.few_variables) sound.draft h in (
      record { few_variables = sound.few_variables; few_clauses = sound.few_clauses; draft = is.sound; room = is.room count sound.room; empty = is.empty },
      (λ q. (q.0, q.1, subst (λ (r : List (List ℕ)). IsSetRest r (line ∷ others) set log) is.at_end q.2)),
      (λ p. (p.0, p.1, subst (λ (r : List (List ℕ)). IsSetRest r (line ∷ others) set log) (sym is.at_end) p.2)),
    ))

-- ---- a line's first byte

closed_lits : (count : ℕ) (d : Draft) → HasRoom count d → length d.clauses ≡ count → d.lits ≡ []
closed_lits count d (inl less) e = absurd (omega (arith, less, e))
closed_lits count d (inr r) e = r.1

count_most : (count : ℕ) (d : Draft) → HasRoom count d → length d.clauses ≤ count
count_most count d (inl less) = omega (arith, less)
count_most count d (inr r) = omega (arith, r.0)

comment_on : (variables count : ℕ) (d : Draft) (byte : ℕ) (line : List ℕ) (others : List (List ℕ)) (set : ClauseSet) (log : List (List Literal)) → eqb byte 99 ≡ true → SetCase (words_read d) (byte ∷ line) others set log → IsSetRest (words_read d) others set log
comment_on variables count d byte line others set log e (ends_set l r f) = absurd (omega (arith, eqb-true byte 99 e, (cons_once byte 108 line (codes "og") l).0))
comment_on variables count d byte line others set log e (passes_by c r) = r
comment_on variables count d byte line others set log e (goes_on c r) = absurd (false≢true (sym c ∙ e))

-- the line `log` begins
keyword_on : (variables count : ℕ) (d : Draft) (byte : ℕ) (line : List ℕ) (others : List (List ℕ)) (set : ClauseSet) (log : List (List Literal)) → IsSoundSet variables count First d → MayBeHeld set log → eqb byte 99 ≡ false → byte ≡ 108 → length d.clauses ≡ count → variables ≡ set.variables → count ≡ length set.clauses → SetCase (words_read d) (byte ∷ line) others set log
    → (set.clauses ≡ d.clauses) × (line ≡ codes "og") × (flat_map words_of others ≡ all_words log)
keyword_on variables count d byte line others set log sound held e l n v c (ends_set is read logged) =
    let whole = draft_whole variables d set.clauses sound.few_variables (subst (λ (n : ℕ). AreBelow n set.clauses) (sym v) held.below) sound.draft read in
    (whole.1, (cons_once byte 108 line (codes "og") is).1, logged)
keyword_on variables count d byte line others set log sound held e l n v c (passes_by g r) = absurd (false≢true (sym e ∙ g))
keyword_on variables count d byte line others set log sound held e l n v c (goes_on g r) =
    let text : words_read d ++ words_of (text_of d.word ++ byte ∷ line) ≡ words_read d ++ words_of (byte ∷ line) = ap (λ (w : Word). words_read d ++ words_of (text_of w ++ byte ∷ line)) sound.empty in
    let less = room_left variables d byte line set.clauses (body_words r.body) sound.few_variables (subst (λ (n : ℕ). AreBelow n set.clauses) (sym v) held.below) sound.draft (no_blank byte (omega (arith, l))) (ap (λ (xs : List (List ℕ)). xs ++ body_words r.body) text ∙ r.clauses) in
    absurd (omega (arith, less, n, c))

line_on : (variables count : ℕ) (d : Draft) (byte : ℕ) (line : List ℕ) (others : List (List ℕ)) (set : ClauseSet) (log : List (List Literal)) → IsSoundSet variables count First d → MayBeHeld set log → eqb byte 99 ≡ false → (eqb byte 108 && eqb (length d.clauses) count) ≡ false → variables ≡ set.variables → count ≡ length set.clauses → SetCase (words_read d) (byte ∷ line) others set log
    → IsSetRest (words_read d ++ words_of (byte ∷ line)) others set log
line_on variables count d byte line others set log sound held e g v c (ends_set is read logged) =
    let whole = draft_whole variables d set.clauses sound.few_variables (subst (λ (n : ℕ). AreBelow n set.clauses) (sym v) held.below) sound.draft read in
    absurd (false≢true (sym g ∙ and_from (eqb byte 108) (eqb (length d.clauses) count) (eq-eqb byte 108 (cons_once byte 108 line (codes "og") is).0) (eq-eqb (length d.clauses) count (ap length (sym whole.1) ∙ sym c))))
line_on variables count d byte line others set log sound held e g v c (passes_by f r) = absurd (false≢true (sym e ∙ f))
line_on variables count d byte line others set log sound held e g v c (goes_on f r) = r

empty_read : (d : Draft) (line : List ℕ) → d.word ≡ Empty → words_read d ++ words_of (text_of d.word ++ line) ≡ words_read d ++ words_of line
empty_read d line e = ap (λ (w : Word). words_read d ++ words_of (text_of w ++ line)) e

first_byte : (variables count : ℕ) (d : Draft) (byte : ℕ) (line : List ℕ) (others : List (List ℕ)) (set : ClauseSet) (log : List (List Literal)) → eqb byte 10 ≡ false → IsSoundSet variables count First d → MayBeHeld set log
    → Agrees (in_set variables count First d byte) (IsRest (Setting variables count First d) (byte ∷ line) others set log) (λ t. IsRest t line others set log)
first_byte variables count d byte line others set log e sound held =
    agrees_if (eqb byte 99) (Some (Setting variables count Comment d)) (cond (eqb byte 108 && eqb (length d.clauses) count) (Some (Keyword variables d.clauses (codes "og"))) (in_line variables count d byte)) (IsRest (Setting variables count First d) (byte ∷ line) others set log) (λ t. IsRest t line others set log)
    (λ f. (
      record { few_variables = sound.few_variables; few_clauses = sound.few_clauses; draft = sound.draft; room = sound.room; empty = sound.empty },
      (λ q. (q.0, q.1, rest_of_comment (words_read d) (byte ∷ line) others set log f q.2)),
      (λ p. (p.0, p.1, comment_on variables count d byte line others set log f (set_case (words_read d) (byte ∷ line) others set log p.2))),
    ))
    (λ f. agrees_if (eqb byte 108 && eqb (length d.clauses) count) (Some (Keyword variables d.clauses (codes "og"))) (in_line variables count d byte) (IsRest (Setting variables count First d) (byte ∷ line) others set log) (λ t. IsRest t line others set log)
    (λ g.
    let parts = and_parts (eqb byte 108) (eqb (length d.clauses) count) g in
    let l : byte ≡ 108 = eqb-true byte 108 parts.0 in
    let n : length d.clauses ≡ count = eqb-true (length d.clauses) count parts.1 in
    let none : words_read d ≡ all_words d.clauses = ap (λ (ls : List Literal). words_read (record d { lits = ls })) (closed_lits count d sound.room n) ∙ append-nil (all_words d.clauses) in (
      record { few_variables = sound.few_variables; few_clauses = omega (arith, sound.few_clauses, n); below = sound.draft.clauses; one_line = refl },
      (λ q. (
        q.0,
        sym n ∙ ap length (sym q.1),
        subst (λ (xs : List ℕ). IsSetRest (words_read d) (xs ∷ others) set log) (ap₂ (λ (x : ℕ) (xs : List ℕ). x ∷ xs) (sym l) (sym q.2)) (rest_of_log (words_read d) others set log (none ∙ ap all_words (sym q.1)) q.3),
      )),
      (λ p.
          let on = keyword_on variables count d byte line others set log sound held f l n p.0 p.1 (set_case (words_read d) (byte ∷ line) others set log p.2) in
          (p.0, on.0, on.1, on.2)),
    ))
    (λ g. agrees_from (in_line variables count d byte) (IsRest (Setting variables count First d) (byte ∷ line) others set log) (IsRest (Setting variables count Inside d) (byte ∷ line) others set log) (λ t. IsRest t line others set log)
    (λ p. (p.0, p.1, subst (λ (r : List (List ℕ)). IsSetRest r others set log) (sym (empty_read d (byte ∷ line) sound.empty)) (line_on variables count d byte line others set log sound held f g p.0 p.1 (set_case (words_read d) (byte ∷ line) others set log p.2))))
    (λ r. (r.0, r.1, rest_of_line (words_read d) (byte ∷ line) others set log f (subst (λ (s : List (List ℕ)). IsSetRest s others set log) (empty_read d (byte ∷ line) sound.empty) r.2)))
    (line_byte variables count First d byte line others set log e sound held)))

empty_on : (read : List (List ℕ)) (others : List (List ℕ)) (set : ClauseSet) (log : List (List Literal)) → SetCase read [] others set log → IsSetRest (read ++ []) others set log
empty_on read others set log (ends_set is r f) = absurd (cons_some 108 (codes "og") (sym is))
empty_on read others set log (passes_by c r) = absurd (false≢true c)
empty_on read others set log (goes_on c r) = r

first_feed : (variables count : ℕ) (d : Draft) (line : List ℕ) (others : List (List ℕ)) (set : ClauseSet) (log : List (List Literal)) → IsSoundSet variables count First d → MayBeHeld set log
    → Agrees (in_set variables count First d 10) (IsRest (Setting variables count First d) [] (line ∷ others) set log) (λ t. IsRest t line others set log)
first_feed variables count d line others set log sound held =
    agrees_from (option_map (Setting variables count First) (ended d)) (IsRest (Setting variables count First d) [] (line ∷ others) set log) (IsRest (Setting variables count Inside d) [] (line ∷ others) set log) (λ t. IsRest t line others set log)
    (λ p. (p.0, p.1, subst (λ (r : List (List ℕ)). IsSetRest r (line ∷ others) set log) (sym (empty_read d [] sound.empty)) (empty_on (words_read d) (line ∷ others) set log (set_case (words_read d) [] (line ∷ others) set log p.2))))
    (λ r. (r.0, r.1, rest_of_line (words_read d) [] (line ∷ others) set log refl (subst (λ (s : List (List ℕ)). IsSetRest s (line ∷ others) set log) (empty_read d [] sound.empty) r.2)))
    (line_feed variables count First d line others set log sound held)

pub set_byte : (variables count : ℕ) (spot : Spot) (d : Draft) (byte : ℕ) (line : List ℕ) (others : List (List ℕ)) (set : ClauseSet) (log : List (List Literal)) → eqb byte 10 ≡ false → IsSoundSet variables count spot d → MayBeHeld set log
    → Agrees (in_set variables count spot d byte) (IsRest (Setting variables count spot d) (byte ∷ line) others set log) (λ t. IsRest t line others set log)
set_byte variables count First d byte line others set log e sound held = first_byte variables count d byte line others set log e sound held
set_byte variables count Inside d byte line others set log e sound held = line_byte variables count Inside d byte line others set log e sound held
set_byte variables count Comment d byte line others set log e sound held =
    subst (λ (b : Bool). Agrees (Some (Setting variables count (cond b First Comment) d)) (IsRest (Setting variables count Comment d) (byte ∷ line) others set log) (λ t. IsRest t line others set log)) (sym e) (sound, (λ q. q), (λ p. p))

pub set_feed : (variables count : ℕ) (spot : Spot) (d : Draft) (line : List ℕ) (others : List (List ℕ)) (set : ClauseSet) (log : List (List Literal)) → IsSoundSet variables count spot d → MayBeHeld set log
    → Agrees (in_set variables count spot d 10) (IsRest (Setting variables count spot d) [] (line ∷ others) set log) (λ t. IsRest t line others set log)
set_feed variables count First d line others set log sound held = first_feed variables count d line others set log sound held
set_feed variables count Inside d line others set log sound held = line_feed variables count Inside d line others set log sound held
set_feed variables count Comment d line others set log sound held =
    (record { few_variables = sound.few_variables; few_clauses = sound.few_clauses; draft = sound.draft; room = sound.room; empty = sound.empty }, (λ q. q), (λ p. p))

-- ---- `log`, and the lines behind it

pub keyword_byte : (variables : ℕ) (clauses : List (List Literal)) (expected : List ℕ) (byte : ℕ) (line : List ℕ) (others : List (List ℕ)) (set : ClauseSet) (log : List (List Literal)) → eqb byte 10 ≡ false → IsSoundKeyword variables clauses expected
    → Agrees (in_keyword variables clauses expected byte) (IsRest (Keyword variables clauses expected) (byte ∷ line) others set log) (λ t. IsRest t line others set log)
keyword_byte variables clauses [] byte line others set log e sound =
    subst (λ (b : Bool). Agrees (cond b (Some (Logging variables clauses no_draft)) None) (IsRest (Keyword variables clauses []) (byte ∷ line) others set log) (λ t. IsRest t line others set log)) (sym e) (λ p. cons_some byte line p.2)
keyword_byte variables clauses (x ∷ more) byte line others set log e sound =
    agrees_if (eqb byte x) (Some (Keyword variables clauses more)) None (IsRest (Keyword variables clauses (x ∷ more)) (byte ∷ line) others set log) (λ t. IsRest t line others set log)
    (λ f. (
      record { few_variables = sound.few_variables; few_clauses = sound.few_clauses; below = sound.below; one_line = (and_parts (not (eqb x 10)) (is_one_line more) sound.one_line).1 },
      (λ q. (q.0, q.1, ap₂ (λ (y : ℕ) (ys : List ℕ). y ∷ ys) (eqb-true byte x f) q.2, q.3)),
      (λ p. (p.0, p.1, (cons_once byte x line more p.2).1, p.3)),
    ))
    (λ f p. eqb-false byte x f (cons_once byte x line more p.2).0)

pub keyword_feed : (variables : ℕ) (clauses : List (List Literal)) (expected : List ℕ) (line : List ℕ) (others : List (List ℕ)) (set : ClauseSet) (log : List (List Literal)) → IsSoundKeyword variables clauses expected
    → Agrees (in_keyword variables clauses expected 10) (IsRest (Keyword variables clauses expected) [] (line ∷ others) set log) (λ t. IsRest t line others set log)
keyword_feed variables clauses [] line others set log sound =
    (record { few_variables = sound.few_variables; few_clauses = sound.few_clauses; below = sound.below; draft = no_draft_sound variables }, (λ q. (q.0, q.1, refl, q.2)), (λ p. (p.0, p.1, p.3)))
keyword_feed variables clauses (x ∷ more) line others set log sound =
    agrees_if (eqb 10 x) (Some (Keyword variables clauses more)) None (IsRest (Keyword variables clauses (x ∷ more)) [] (line ∷ others) set log) (λ t. IsRest t line others set log)
    (λ f. absurd (eqb-false x 10 (not-true (eqb x 10) (and_parts (not (eqb x 10)) (is_one_line more) sound.one_line).0) (sym (eqb-true 10 x f))))
    (λ f p. cons_some x more (sym p.2))

pub log_byte : (variables : ℕ) (clauses : List (List Literal)) (d : Draft) (byte : ℕ) (line : List ℕ) (others : List (List ℕ)) (set : ClauseSet) (log : List (List Literal)) → IsSoundLog variables clauses d → MayBeHeld set log
    → Agrees (in_log variables clauses d byte) (IsRest (Logging variables clauses d) (byte ∷ line) others set log) (λ t. IsRest t line others set log)
log_byte variables clauses d byte line others set log sound held =
    agrees_if (is_blank byte) (option_map (Logging variables clauses) (ended d)) (option_map (Logging variables clauses) (extended variables d byte)) (IsRest (Logging variables clauses d) (byte ∷ line) others set log) (λ t. IsRest t line others set log)
    (λ blank. agrees_map (Logging variables clauses) (ended d) (IsRest (Logging variables clauses d) (byte ∷ line) others set log) (λ t. IsRest t line others set log)
    (λ h p. torn_blank variables d log byte line (flat_map words_of others) (small variables sound.few_variables) (subst (λ (n : ℕ). AreBelow n log) (sym p.0) held.log_below) blank h p.2)
    (λ new h.
    let is = ended_some variables d new (small variables sound.few_variables) sound.draft h in
    let same = ap (λ (xs : List (List ℕ)). xs ++ flat_map words_of others) (after_blank variables d new byte line is blank) in
    (record { few_variables = sound.few_variables; few_clauses = sound.few_clauses; below = sound.below; draft = is.sound }, (λ q. (q.0, q.1, sym same ∙ q.2)), (λ p. (p.0, p.1, same ∙ p.2)))))
    (λ inked. agrees_map (Logging variables clauses) (extended variables d byte) (IsRest (Logging variables clauses d) (byte ∷ line) others set log) (λ t. IsRest t line others set log)
    (λ h p. no_extension variables d byte line log (flat_map words_of others) sound.few_variables (subst (λ (n : ℕ). AreBelow n log) (sym p.0) held.log_below) sound.draft inked h p.2)
    (λ new h.
    let is = extended_some variables d byte new (small variables sound.few_variables) sound.draft h in
    let same = ap (λ (xs : List (List ℕ)). xs ++ flat_map words_of others) (is.read line) in
    (record { few_variables = sound.few_variables; few_clauses = sound.few_clauses; below = sound.below; draft = is.sound }, (λ q. (q.0, q.1, sym same ∙ q.2)), (λ p. (p.0, p.1, same ∙ p.2)))))

pub log_feed : (variables : ℕ) (clauses : List (List Literal)) (d : Draft) (line : List ℕ) (others : List (List ℕ)) (set : ClauseSet) (log : List (List Literal)) → IsSoundLog variables clauses d → MayBeHeld set log
    → Agrees (in_log variables clauses d 10) (IsRest (Logging variables clauses d) [] (line ∷ others) set log) (λ t. IsRest t line others set log)
log_feed variables clauses d line others set log sound held =
    agrees_map (Logging variables clauses) (ended d) (IsRest (Logging variables clauses d) [] (line ∷ others) set log) (λ t. IsRest t line others set log)
    (λ h p. torn_end variables d log (flat_map words_of (line ∷ others)) (small variables sound.few_variables) (subst (λ (n : ℕ). AreBelow n log) (sym p.0) held.log_below) h p.2)
    (λ new h.
    let is = ended_some variables d new (small variables sound.few_variables) sound.draft h in
    let same : (words_read new ++ words_of (text_of new.word ++ line)) ++ flat_map words_of others ≡ (words_read d ++ words_of (text_of d.word ++ [])) ++ flat_map words_of (line ∷ others) =
    append_assoc (words_read new) (words_of (text_of new.word ++ line)) (flat_map words_of others)
    ∙ ap (λ (w : Word). words_read new ++ (words_of (text_of w ++ line) ++ flat_map words_of others)) is.empty
    ∙ ap (λ (xs : List (List ℕ)). xs ++ (words_of line ++ flat_map words_of others)) is.at_end in
    (record { few_variables = sound.few_variables; few_clauses = sound.few_clauses; below = sound.below; draft = is.sound }, (λ q. (q.0, q.1, sym same ∙ q.2)), (λ p. (p.0, p.1, same ∙ p.2))))
