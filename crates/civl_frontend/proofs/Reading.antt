-- What the tokens of a text and the parser's answer say of what the text spells; and that each text is read in one way.
use Rattle.std.proofs.Common.{◌≡◌, ◌⊎◌, inl, inr, ℕ, List, length, refl, sym, ap, ◌∙◌, subst, Result, Ok, Err}
use Rattle.civl_tree.specs.Token.{Token}
use Rattle.civl_tree.specs.SpellingDomain.{HasSpelling, ScriptHasSpelling}
use Rattle.civl_tree.specs.SpellingProgram.{spell_program}
use Rattle.civl_tree.specs.SpellingScript.{spell_script}
use Rattle.civl_tree.specs.declared.program.Program.{Program}
use Rattle.civl_tree.specs.declared.script.Script.{Script}
use Rattle.civl_outlines.specs.declared.outline.Outline.{Outline}
use Rattle.civl_outlines.specs.SpellingOutline.{spell_outline, OutlineHasSpelling}
use Rattle.civl_outlines.proofs.OfOutlines.{outline_text_is}
use Rattle.civl_lex.specs.Spells.{Spells}
use Rattle.civl_lex.specs.Text.{HasTokens, NoTokenAt, IsLexedAs}
use Rattle.civl_lex.proofs.Texts.{answer_once}
use Rattle.civl_lex.proofs.Readings.{some_answer}
use Rattle.civl_phrases.specs.Bracket.{IsShallow}
use Rattle.civl_phrases.specs.Reader.{Reader}
use Rattle.civl_phrases.specs.Phrase.{AtEnd, IsReader}
use Rattle.civl_phrases.specs.Exact.{IsRead, IsRight, placed}
use Rattle.civl_phrases.specs.declared.halt.Stop.{Stop}
use Rattle.civl_phrases.specs.declared.halt.Stop.TheVariants as stops
use Rattle.civl_phrases.proofs.Exactly.{is_exact}
use Rattle.civl_parser.proofs.OfPrograms.{program_text_is}
use Rattle.civl_parser.proofs.OfScripts.{script_text_is}
use Rattle.civl_frontend.specs.Texts.{IsShallowText, IsReadAs, IsReading, IsScriptReading, IsOutlineReading, bracket_limit}
use Rattle.civl_frontend.specs.declared.reader.Fault.{Fault}
use Rattle.civl_frontend.specs.declared.reader.Fault.TheVariants as faults

-- these are the only tokens that the bytes have
abbrev pub HasOnly : List ℕ → List Token → Type 0
HasOnly bytes tokens = (other : List Token) → HasTokens bytes other → tokens ≡ other

-- the tokens are read as each value that the bytes spell
module _ {A : Type 0} (spell : A → List Token) (fits : A → Type 0) (bytes : List ℕ) (tokens : List Token) (only : HasOnly bytes tokens) where
  read_as : (value : A) → Spells spell fits bytes value → IsShallow bracket_limit tokens → IsRead bracket_limit spell fits tokens value
  read_as value h shallow = record {
    fits = h.spelled.0;
    parts = only h.tokens h.has ∙ h.spelled.1;
    shallow = shallow;
  }

  shallow_text : IsShallow bracket_limit tokens → IsShallowText bytes
  shallow_text shallow other has = subst (λ (ts : List Token). IsShallow bracket_limit ts) (only other has) shallow

  pub reading : (value : A) → HasTokens bytes tokens → IsRead bracket_limit spell fits tokens value
      → ((other : A) → IsRead bracket_limit spell fits tokens other → other ≡ value) → IsReadAs spell fits bytes (Ok value)
  reading value has read one = (
    record {
      spells = record { tokens = tokens; has = has; spelled = (read.fits, read.parts) };
      only = λ other h. one other (read_as other h read.shallow);
    },
    shallow_text read.shallow,
  )

-- ---- one reading

abbrev pub IsOneParse : {A : Type 0} → (A → List Token) → (A → Type 0) → Type 0
IsOneParse {A} spell fits = (tokens : List Token) (x y : Result A Stop) → IsRight bracket_limit spell fits tokens x → IsRight bracket_limit spell fits tokens y → x ≡ y

one_parse : IsOneParse spell_program HasSpelling
one_parse tokens x y a b =
    let exact = is_exact (program_text_is bracket_limit) tokens in
    sym (exact.1 x a) ∙ exact.1 y b

one_script_parse : IsOneParse spell_script ScriptHasSpelling
one_script_parse tokens x y a b =
    let exact = is_exact (script_text_is bracket_limit) tokens in
    sym (exact.1 x a) ∙ exact.1 y b

one_outline_parse : IsOneParse spell_outline OutlineHasSpelling
one_outline_parse tokens x y a b =
    let exact = is_exact (outline_text_is bracket_limit) tokens in
    sym (exact.1 x a) ∙ exact.1 y b

-- what the parser's answer is to a reader of texts
of_stop : {A : Type 0} → Result A Stop → Result A Fault
of_stop (Ok value) = Ok value
of_stop (Err (stops.NotHere place)) = Err (faults.NotHere place)
of_stop (Err (stops.Deep place)) = Err (faults.Deep place)

abbrev untold : {A : Type 0} → ℕ → Result A Fault
untold place = Err (faults.NoToken place)

err_err : (p q : ℕ) → ◌≡◌ {A = Result (List Token) ℕ} (Err p) (Err q) → p ≡ q
err_err p q e = cc

ok_err : (tokens : List Token) (p : ℕ) → ◌≡◌ {A = Result (List Token) ℕ} (Ok tokens) (Err p) → ⊥
ok_err tokens p e = cc

ok_ok : (tokens others : List Token) → ◌≡◌ {A = Result (List Token) ℕ} (Ok tokens) (Ok others) → others ≡ tokens
ok_ok tokens others e = cc

record Untold {A : Type 0} (bytes : List ℕ) (x : Result A Fault) : Type 0 where
  place : ℕ
  none : NoTokenAt bytes place
  is : untold place ≡ x

record Parsed {A : Type 0} (spell : A → List Token) (fits : A → Type 0) (bytes : List ℕ) (x : Result A Fault) : Type 0 where
  tokens : List Token
  has : HasTokens bytes tokens
  answer : Result A Stop
  right : IsRight bracket_limit spell fits tokens answer
  is : of_stop answer ≡ x

module _ {A : Type 0} (spell : A → List Token) (fits : A → Type 0) (one : IsOneParse spell fits) (bytes : List ℕ) where
  either : (x : Result A Fault) → IsReadAs spell fits bytes x → Untold bytes x ⊎ Parsed spell fits bytes x
  unfolding of_stop
  either (Ok value) h =
      let spells = h.0.spells in
      inr (record {
        tokens = spells.tokens;
        has = spells.has;
        answer = Ok value;
        right = record { fits = spells.spelled.0; parts = spells.spelled.1; shallow = h.1 spells.tokens spells.has };
        is = refl;
      })
  either (Err (faults.NoToken place)) h = inl (record { place = place; none = h; is = refl })
  either (Err (faults.NotHere place)) h = inr (record { tokens = h.tokens; has = h.has; answer = Err (stops.NotHere place); right = h.stops; is = refl })
  either (Err (faults.Deep place)) h = inr (record { tokens = h.tokens; has = h.has; answer = Err (stops.Deep place); right = h.sinks; is = refl })

  joined : (x y : Result A Fault) → Untold bytes x ⊎ Parsed spell fits bytes x → Untold bytes y ⊎ Parsed spell fits bytes y → x ≡ y
  joined x y (inl a) (inl b) =
      sym a.is ∙ ap untold (err_err a.place b.place (answer_once bytes (Err a.place) (Err b.place) a.none b.none)) ∙ b.is
  joined x y (inl a) (inr b) = absurd (ok_err b.tokens a.place (answer_once bytes (Ok b.tokens) (Err a.place) b.has a.none))
  joined x y (inr a) (inl b) = absurd (ok_err a.tokens b.place (answer_once bytes (Ok a.tokens) (Err b.place) a.has b.none))
  joined x y (inr a) (inr b) =
      let tokens = ok_ok a.tokens b.tokens (answer_once bytes (Ok a.tokens) (Ok b.tokens) a.has b.has) in
      let right = subst (λ (ts : List Token). IsRight bracket_limit spell fits ts b.answer) tokens b.right in
      sym a.is ∙ ap of_stop (one a.tokens a.answer b.answer a.right right) ∙ b.is

  one_read : (x y : Result A Fault) → IsReadAs spell fits bytes x → IsReadAs spell fits bytes y → x ≡ y
  one_read x y a b = joined x y (either x a) (either y b)

-- a text is read as a program in one way
pub one_reading : (bytes : List ℕ) (x y : Result Program Fault) → IsReading bytes x → IsReading bytes y → x ≡ y
one_reading bytes x y a b = one_read spell_program HasSpelling one_parse bytes x y a b

-- and as a script
pub one_script_reading : (bytes : List ℕ) (x y : Result Script Fault) → IsScriptReading bytes x → IsScriptReading bytes y → x ≡ y
one_script_reading bytes x y a b = one_read spell_script ScriptHasSpelling one_script_parse bytes x y a b

-- and as an outline
pub one_outline_reading : (bytes : List ℕ) (x y : Result Outline Fault) → IsOutlineReading bytes x → IsOutlineReading bytes y → x ≡ y
one_outline_reading bytes x y a b = one_read spell_outline OutlineHasSpelling one_outline_parse bytes x y a b

-- ---- some reading

-- the parser's answer to these tokens
record Answered {A : Type 0} (spell : A → List Token) (fits : A → Type 0) (tokens : List Token) : Type 0 where
  answer : Result A Stop
  right : IsRight bracket_limit spell fits tokens answer

answered : {A : Type 0} {spell : A → List Token} {fits : A → Type 0} {r : Reader A} → IsReader bracket_limit bracket_limit AtEnd spell fits r → (tokens : List Token) → Answered spell fits tokens
answered {r} p tokens = record { answer = placed (length tokens) (r tokens); right = (is_exact p tokens).0 }

same_value : {A : Type 0} (x y : A) → ◌≡◌ {A = Result A Stop} (Ok x) (Ok y) → x ≡ y
same_value x y e = cc

module _ {A : Type 0} (spell : A → List Token) (fits : A → Type 0) (one : IsOneParse spell fits) (some : (tokens : List Token) → Answered spell fits tokens) (bytes : List ℕ) where
  of_answer : (tokens : List Token) (answer : Result A Stop) → HasTokens bytes tokens → IsRight bracket_limit spell fits tokens answer → (x : Result A Fault) × IsReadAs spell fits bytes x
  of_answer tokens (Ok value) has right = (
    Ok value,
    reading spell fits bytes tokens (λ other h. ok_ok other tokens (answer_once bytes (Ok other) (Ok tokens) h has)) value has right
        (λ other h. same_value other value (one tokens (Ok other) (Ok value) h right)),
  )
  of_answer tokens (Err (stops.NotHere place)) has right = (Err (faults.NotHere place), record { tokens = tokens; has = has; stops = right })
  of_answer tokens (Err (stops.Deep place)) has right = (Err (faults.Deep place), record { tokens = tokens; has = has; sinks = right })

  of_text : (x : Result (List Token) ℕ) → IsLexedAs bytes x → (x : Result A Fault) × IsReadAs spell fits bytes x
  of_text (Ok tokens) has = let a = some tokens in of_answer tokens a.answer has a.right
  of_text (Err place) none = (untold place, none)

  some_read : (x : Result A Fault) × IsReadAs spell fits bytes x
  some_read = let x = some_answer bytes in of_text x.0 x.1

-- each text is read as a program, or has a first fault
pub some_reading : (bytes : List ℕ) → (x : Result Program Fault) × IsReading bytes x
some_reading bytes = some_read spell_program HasSpelling one_parse (answered (program_text_is bracket_limit)) bytes

-- and as a script
pub some_script_reading : (bytes : List ℕ) → (x : Result Script Fault) × IsScriptReading bytes x
some_script_reading bytes = some_read spell_script ScriptHasSpelling one_script_parse (answered (script_text_is bracket_limit)) bytes

-- and as an outline
pub some_outline_reading : (bytes : List ℕ) → (x : Result Outline Fault) × IsOutlineReading bytes x
some_outline_reading bytes = some_read spell_outline OutlineHasSpelling one_outline_parse (answered (outline_text_is bracket_limit)) bytes
