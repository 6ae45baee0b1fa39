-- Drafts: clauses that are read word by word.
use Rattle.std.proofs.Common.{◌≡◌, ◌⊎◌, inl, inr, ℕ, ◌+◌, ◌-◌, ◌^◌, ◌<◌, Bool, true, false, List, [], ◌∷◌, ◌++◌, length, map, Some, None, Option, refl, sym, ap, subst, ◌∙◌, arith, append_assoc, length-append}
use Rattle.std.specs.Prelude.{codes}
use Rattle.std.specs.Option.{option_map}
use Rattle.std.specs.Fmt.{decimal}
use Rattle.std.proofs.lemmas.Bool.{cases_lt}
use Rattle.std.proofs.lemmas.List.{append-nil, map-append}
use Rattle.std.proofs.lemmas.List.Concat.{flat_map-append}
use Rattle.std.proofs.lemmas.List.Elements.{All-nil, All-push}
use Rattle.civl_cnf.specs.Literal.{Literal}
use Rattle.civl_cnf.specs.ClauseSet.{IsBelow, AreBelow}
use Rattle.civl_proofs.specs.declared.word.Word.{Word}
use Rattle.civl_proofs.specs.declared.word.Word.TheVariants.{Empty, Minus, Zero, Number}
use Rattle.civl_proofs.specs.Text.{is_blank, sign_of, literal_word, clause_words, all_words, words_of}
use Rattle.civl_proofs.specs.inner.Reading.{IsSoundWord, Draft, no_draft, literal, typed, ended, ended_as, extended}
use Rattle.civl_proofs.proofs.Words.{is_dense, words_blank, words_whole, words_ended}
use Rattle.civl_proofs.proofs.Numbers.{HasFirst, has_first, decimal_dense}
use Rattle.civl_proofs.proofs.Decoding.{spelled, word_is}
use Rattle.civl_proofs.proofs.Typing.{text_of, typed_some, minus_no_word}

-- the words of a draft that were read whole
abbrev pub words_read : Draft → List (List ℕ)
words_read d = spelled d.clauses d.lits

pub record IsSoundDraft (variables : ℕ) (d : Draft) : Type 0 where
  pub clauses : AreBelow variables d.clauses
  pub lits : IsBelow variables d.lits
  pub word : IsSoundWord variables d.word

pub no_draft_sound : (variables : ℕ) → IsSoundDraft variables no_draft
no_draft_sound variables = record {
  clauses = All-nil (IsBelow variables);
  lits = All-nil (λ (l : Literal). l.variable < variables);
  word = tt;
}

-- there is room for one clause more, or no clause is open
abbrev pub HasRoom : ℕ → Draft → Type 0
HasRoom count d = (length d.clauses < count) ⊎ ((length d.clauses ≡ count) × (d.lits ≡ []) × (d.word ≡ Empty))

-- ---- the word ends

-- The word ended: at a blank, and where the line ends.
pub record IsEnded (variables : ℕ) (d new : Draft) : Type 0 where
  pub empty : new.word ≡ Empty
  pub at_blank : (byte : ℕ) (line : List ℕ) → is_blank byte ≡ true → words_read new ++ words_of line ≡ words_read d ++ words_of (text_of d.word ++ byte ∷ line)
  pub at_end : words_read new ≡ words_read d ++ words_of (text_of d.word ++ [])
  pub sound : IsSoundDraft variables new
  pub room : (count : ℕ) → HasRoom count d → HasRoom count new

-- a word that ends gives itself
record IsLastWord (text : List ℕ) : Type 0 where
  at_blank : (byte : ℕ) (line : List ℕ) → is_blank byte ≡ true → words_of (text ++ byte ∷ line) ≡ text ∷ words_of line
  at_end : words_of (text ++ []) ≡ text ∷ []

last_word_at : (first : ℕ) (more : List ℕ) → is_dense (first ∷ more) ≡ true → IsLastWord (first ∷ more)
last_word_at first more dense = record {
  at_blank = λ byte line blank. words_ended first more byte line dense blank;
  at_end = ap words_of (append-nil (first ∷ more)) ∙ words_whole first more dense;
}

number_word_at : (positive : Bool) (value : ℕ) → value < 2 ^ 32 → HasFirst value → IsLastWord (sign_of positive ++ decimal value)
number_word_at true value small f = subst IsLastWord (sym f.is) (last_word_at f.first f.more (subst (λ (xs : List ℕ). is_dense xs ≡ true) f.is (decimal_dense value small)))
number_word_at false value small f = last_word_at 45 (decimal value) (decimal_dense value small)

number_word : (positive : Bool) (value : ℕ) → value < 2 ^ 32 → IsLastWord (sign_of positive ++ decimal value)
number_word positive value small = number_word_at positive value small (has_first value small)

zero_word : IsLastWord (codes "0")
zero_word = last_word_at 48 [] refl

-- one word more
more_read : (read new : List (List ℕ)) (text : List ℕ) → new ≡ read ++ text ∷ [] → IsLastWord text
    → ((byte : ℕ) (line : List ℕ) → is_blank byte ≡ true → new ++ words_of line ≡ read ++ words_of (text ++ byte ∷ line)) × (new ≡ read ++ words_of (text ++ []))
more_read read new text e last = (
  λ byte line blank.
      ap (λ (xs : List (List ℕ)). xs ++ words_of line) e ∙ append_assoc read (text ∷ []) (words_of line) ∙ ap (λ (xs : List (List ℕ)). read ++ xs) (sym (last.at_blank byte line blank)),
  e ∙ ap (λ (xs : List (List ℕ)). read ++ xs) (sym last.at_end),
)

clause_read : (clauses : List (List Literal)) (lits : List Literal) → spelled (clauses ++ lits ∷ []) [] ≡ spelled clauses lits ++ codes "0" ∷ []
clause_read clauses lits =
    append-nil (all_words (clauses ++ lits ∷ []))
    ∙ flat_map-append clause_words clauses (lits ∷ [])
    ∙ ap (λ (xs : List (List ℕ)). all_words clauses ++ xs) (append-nil (clause_words lits))
    ∙ sym (append_assoc (all_words clauses) (map literal_word lits) (codes "0" ∷ []))

literal_text : (positive : Bool) (value : ℕ) → 0 < value → literal_word (literal positive value) ≡ sign_of positive ++ decimal value
literal_text positive value some =
    let same : value - 1 + 1 ≡ value = omega (arith, some) in
    ap (λ (n : ℕ). sign_of positive ++ decimal n) same

literal_read : (clauses : List (List Literal)) (lits : List Literal) (l : Literal) → spelled clauses (lits ++ l ∷ []) ≡ spelled clauses lits ++ literal_word l ∷ []
literal_read clauses lits l =
    ap (λ (xs : List (List ℕ)). all_words clauses ++ xs) (map-append literal_word lits (l ∷ [])) ∙ sym (append_assoc (all_words clauses) (map literal_word lits) (literal_word l ∷ []))

room_clause : (count : ℕ) (clauses : List (List Literal)) (lits : List Literal) → HasRoom count (record { clauses = clauses; lits = lits; word = Zero }) → HasRoom count (record { clauses = clauses ++ lits ∷ []; lits = []; word = Empty })
room_clause count clauses lits (inr r) = let clash = r.2 in absurd (cc)
room_clause count clauses lits (inl less) = elim (cases_lt (length (clauses ++ lits ∷ [])) count) [
  | inl low ↦ inl low
  | inr high ↦ inr (omega (arith, high, less, length-append clauses (lits ∷ [])), refl, refl)
]

room_literal : (count : ℕ) (clauses : List (List Literal)) (lits more : List Literal) (positive : Bool) (value : ℕ) → HasRoom count (record { clauses = clauses; lits = lits; word = Number positive value }) → HasRoom count (record { clauses = clauses; lits = more; word = Empty })
room_literal count clauses lits more positive value (inl less) = inl less
room_literal count clauses lits more positive value (inr r) = let clash = r.2 in absurd (cc)

ended_by : (variables : ℕ) (clauses : List (List Literal)) (lits : List Literal) (word : Word) (new : Draft) → variables < 2 ^ 32 → IsSoundDraft variables (record { clauses = clauses; lits = lits; word = word })
    → ended_as word (record { clauses = clauses; lits = lits; word = word }) ≡ Some new → IsEnded variables (record { clauses = clauses; lits = lits; word = word }) new
ended_by variables clauses lits Empty new few sound h =
    let d : Draft = record { clauses = clauses; lits = lits; word = Empty } in
    let same : d ≡ new = cc (h) in
    subst (λ (x : Draft). IsEnded variables d x) same (record {
      empty = refl;
      at_blank = λ byte line blank. ap (λ (xs : List (List ℕ)). words_read d ++ xs) (sym (words_blank byte line blank));
      at_end = sym (append-nil (words_read d));
      sound = sound;
      room = λ count r. r;
    })
ended_by variables clauses lits Minus new few sound h = absurd (cc)
ended_by variables clauses lits Zero new few sound h =
    let d : Draft = record { clauses = clauses; lits = lits; word = Zero } in
    let e : Draft = record { clauses = clauses ++ lits ∷ []; lits = []; word = Empty } in
    let same : e ≡ new = cc (h) in
    let read = more_read (words_read d) (words_read e) (codes "0") (clause_read clauses lits) zero_word in
    subst (λ (x : Draft). IsEnded variables d x) same (record {
      empty = refl;
      at_blank = read.0;
      at_end = read.1;
      sound = record {
        clauses = All-push (IsBelow variables) clauses lits sound.clauses sound.lits;
        lits = All-nil (λ (l : Literal). l.variable < variables);
        word = tt;
      };
      room = λ count r. room_clause count clauses lits r;
    })
ended_by variables clauses lits (Number positive value) new few sound h =
    let d : Draft = record { clauses = clauses; lits = lits; word = Number positive value } in
    let e : Draft = record { clauses = clauses; lits = lits ++ literal positive value ∷ []; word = Empty } in
    let same : e ≡ new = cc (h) in
    let number = sound.word in
    let text = literal_text positive value number.0 in
    let is : words_read e ≡ words_read d ++ (sign_of positive ++ decimal value) ∷ [] = literal_read clauses lits (literal positive value) ∙ ap (λ (xs : List ℕ). words_read d ++ xs ∷ []) text in
    let read = more_read (words_read d) (words_read e) (sign_of positive ++ decimal value) is (number_word positive value (omega (arith, few, number.1))) in
    let low : value - 1 < variables = omega (arith, number.0, number.1) in
    subst (λ (x : Draft). IsEnded variables d x) same (record {
      empty = refl;
      at_blank = read.0;
      at_end = read.1;
      sound = record {
        clauses = sound.clauses;
        lits = All-push (λ (l : Literal). l.variable < variables) lits (literal positive value) sound.lits low;
        word = tt;
      };
      room = λ count r. room_literal count clauses lits (lits ++ literal positive value ∷ []) positive value r;
    })

pub ended_some : (variables : ℕ) (d new : Draft) → variables < 2 ^ 32 → IsSoundDraft variables d → ended d ≡ Some new → IsEnded variables d new
ended_some variables d new few sound h = ended_by variables d.clauses d.lits d.word new few sound h

torn_at : (word : Word) (d : Draft) → ended_as word d ≡ None → word ≡ Minus
torn_at Empty d h = absurd (cc)
torn_at Minus d h = refl
torn_at Zero d h = absurd (cc)
torn_at (Number positive value) d h = absurd (cc)

minus_word : IsLastWord (codes "-")
minus_word = last_word_at 45 [] refl

-- a word that can't end at a blank, or at the end of a line, isn't one of clauses
pub torn_blank : (variables : ℕ) (d : Draft) (all : List (List Literal)) (byte : ℕ) (line : List ℕ) (more : List (List ℕ)) → variables < 2 ^ 32 → AreBelow variables all → is_blank byte ≡ true → ended d ≡ None
    → (words_read d ++ words_of (text_of d.word ++ byte ∷ line)) ++ more ≡ all_words all → ⊥
torn_blank variables d all byte line more few below blank h e =
    let minus : d.word ≡ Minus = torn_at d.word d h in
    let text : words_of (text_of d.word ++ byte ∷ line) ≡ codes "-" ∷ words_of line = ap (λ (w : Word). words_of (text_of w ++ byte ∷ line)) minus ∙ minus_word.at_blank byte line blank in
    minus_no_word variables few (word_is variables all (words_read d) (words_of line ++ more) (codes "-") below
    (sym (append_assoc (words_read d) (codes "-" ∷ words_of line) more) ∙ ap (λ (xs : List (List ℕ)). (words_read d ++ xs) ++ more) (sym text) ∙ e))

pub torn_end : (variables : ℕ) (d : Draft) (all : List (List Literal)) (more : List (List ℕ)) → variables < 2 ^ 32 → AreBelow variables all → ended d ≡ None
    → (words_read d ++ words_of (text_of d.word ++ [])) ++ more ≡ all_words all → ⊥
torn_end variables d all more few below h e =
    let minus : d.word ≡ Minus = torn_at d.word d h in
    let text : words_of (text_of d.word ++ []) ≡ codes "-" ∷ [] = ap (λ (w : Word). words_of (text_of w ++ [])) minus ∙ minus_word.at_end in
    minus_no_word variables few (word_is variables all (words_read d) more (codes "-") below
    (sym (append_assoc (words_read d) (codes "-" ∷ []) more) ∙ ap (λ (xs : List (List ℕ)). (words_read d ++ xs) ++ more) (sym text) ∙ e))

-- ---- one byte more

pub record IsExtended (variables : ℕ) (d : Draft) (byte : ℕ) (new : Draft) : Type 0 where
  pub read : (line : List ℕ) → words_read new ++ words_of (text_of new.word ++ line) ≡ words_read d ++ words_of (text_of d.word ++ byte ∷ line)
  pub sound : IsSoundDraft variables new
  pub clauses : new.clauses ≡ d.clauses

record IsWithWord (variables : ℕ) (d : Draft) (byte : ℕ) (new : Draft) : Type 0 where
  word : Word
  is : typed variables d.word byte ≡ Some word
  gives : record { clauses = d.clauses; lits = d.lits; word = word } ≡ new

with_word : (variables : ℕ) (d : Draft) (byte : ℕ) (o : Option Word) (new : Draft) → typed variables d.word byte ≡ o → option_map (λ (w : Word). record d { word = w }) o ≡ Some new → IsWithWord variables d byte new
with_word variables d byte None new e h = absurd (cc)
with_word variables d byte (Some word) new e h = record { word = word; is = e; gives = cc (h) }

pub extended_some : (variables : ℕ) (d : Draft) (byte : ℕ) (new : Draft) → variables < 2 ^ 32 → IsSoundDraft variables d → extended variables d byte ≡ Some new → IsExtended variables d byte new
extended_some variables d byte new few sound h =
    let w = with_word variables d byte (typed variables d.word byte) new refl h in
    let t = typed_some variables d.word byte w.word few sound.word w.is in
    subst (λ (x : Draft). IsExtended variables d byte x) w.gives (record {
      read = λ line. ap (λ (xs : List ℕ). words_read d ++ words_of xs) (ap (λ (xs : List ℕ). xs ++ line) t.text ∙ append_assoc (text_of d.word) (byte ∷ []) line);
      sound = record { clauses = sound.clauses; lits = sound.lits; word = t.sound };
      clauses = refl;
    })

pub no_word_more : (variables : ℕ) (d : Draft) (byte : ℕ) → extended variables d byte ≡ None → typed variables d.word byte ≡ None
no_word_more variables d byte h = nothing_mapped (typed variables d.word byte) h
  where
    nothing_mapped : (o : Option Word) → option_map (λ (w : Word). record d { word = w }) o ≡ None → o ≡ None
    nothing_mapped None e = refl
    nothing_mapped (Some w) e = absurd (cc)
