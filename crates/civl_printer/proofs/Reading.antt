-- Canonical texts have their tokens.
use Rattle.std.proofs.Common.{◌≡◌, ℕ, ◌^◌, Bool, true, false, cond, List, [], ◌∷◌, ◌++◌, map, refl, ap, subst}
use Rattle.std.specs.Prelude.{◌==◌}
use Rattle.std.specs.List.{AllByRecursion, list_all}
use Rattle.std.proofs.lemmas.Bool.{and_parts, ltb-true}
use Rattle.civl_tree.specs.declared.program.Program.{Program}
use Rattle.civl_tree.specs.Token.{Token, Named, Reserved, Sign, Number, IsToken}
use Rattle.civl_tree.specs.SpellingProgram.{spell_program}
use Rattle.civl_tree.specs.SpellingDomain.{HasSpelling}
use Rattle.civl_tree.specs.SpellingLaws.{may_stand}
use Rattle.civl_tree.specs.SpellingText.{ends_line, canonical_token, canonical_text}
use Rattle.civl_tree.specs.Raised.{raised}
use Rattle.civl_tree.proofs.Raising.{raised_has_spelling}
use Rattle.civl_tree.proofs.Standing.{tokens_may_stand}
use Rattle.civl_lex.specs.Gap.{is_blank}
use Rattle.civl_lex.specs.Laws.{AreSpaced, spaced, SpacedTokens}
use Rattle.civl_lex.specs.Spells.{Spells}
use Rattle.civl_lex.specs.Text.{HasTokens, Leads}
use Rattle.civl_lex.proofs.Spaces.{spaced_right}
use Rattle.civl_printer.specs.Laws.{has_32_bits, CanonicalTokens, ReadsBack, ReadsBackFromText}

-- the byte behind a token
abbrev byte_behind : Token → ℕ
byte_behind token = cond (ends_line token) 10 32

abbrev with_byte : Token → Token × ℕ
with_byte token = (token, byte_behind token)

blank_by : (b : Bool) → is_blank (cond b 10 32) ≡ true
blank_by true = refl
blank_by false = refl

are_spaced : (tokens : List Token) → AllByRecursion IsToken tokens → AreSpaced (map with_byte tokens)
are_spaced [] h = tt
are_spaced (token ∷ tokens) h = ((h.0, blank_by (ends_line token)), are_spaced tokens h.1)

same_text : (tokens : List Token) → spaced (map with_byte tokens) ≡ canonical_text tokens
same_text [] = refl
same_text (token ∷ tokens) = ap (λ x. canonical_token token ++ x) (same_text tokens)

same_tokens : (tokens : List Token) → map (λ (pair : Token × ℕ). pair.0) (map with_byte tokens) ≡ tokens
same_tokens [] = refl
same_tokens (token ∷ tokens) = ap (λ x. token ∷ x) (same_tokens tokens)

pub canonical_tokens : SpacedTokens → CanonicalTokens
canonical_tokens law tokens h =
    subst (HasTokens (canonical_text tokens)) (same_tokens tokens)
    (subst (λ (x : List ℕ). HasTokens x (map (λ (pair : Token × ℕ). pair.0) (map with_byte tokens))) (same_text tokens) (law (map with_byte tokens) (are_spaced tokens h)))

-- ---- tokens of programs

is_token : (token : Token) → may_stand token ≡ true → has_32_bits token ≡ true → IsToken token
is_token (Named bytes) h k = h
is_token (Reserved bytes) h k = h
is_token (Sign bytes) h k = h
is_token (Number value) h k = ltb-true value (2 ^ 32) k

pub are_tokens : (tokens : List Token) → list_all may_stand tokens ≡ true → list_all has_32_bits tokens ≡ true → AllByRecursion IsToken tokens
are_tokens [] h k = tt
are_tokens (token ∷ tokens) h k =
    let a = and_parts (may_stand token) (list_all may_stand tokens) h in
    let b = and_parts (has_32_bits token) (list_all has_32_bits tokens) k in
    (is_token token a.0 b.0, are_tokens tokens a.1 b.1)

-- the tokens of a text may stand in it
pub led_tokens : (tokens : List Token) (bytes rest : List ℕ) → Leads tokens bytes rest → AllByRecursion IsToken tokens
led_tokens [] bytes rest h = tt
led_tokens (token ∷ tokens) bytes rest h = (h.1.longest.begins.is_token, led_tokens tokens h.0 rest h.2)

-- ---- the version that is printed

raised_by : (program : Program) (b : Bool) → AllByRecursion IsToken (spell_program program) → AllByRecursion IsToken (spell_program (record program { version = cond b 2 program.version }))
raised_by program true h = (h.0, (ltb-true 2 (2 ^ 32) refl, h.1.1))
raised_by program false h = h

pub raised_tokens : (program : Program) → AllByRecursion IsToken (spell_program program) → AllByRecursion IsToken (spell_program (raised program))
raised_tokens program h = raised_by program (program.version == 1) h

-- ---- what is printed spells the program

spells : (program : Program) → HasSpelling program → AllByRecursion IsToken (spell_program program) → Spells spell_program HasSpelling (canonical_text (spell_program (raised program))) (raised program)
spells program spelled tokens = record {
  tokens = spell_program (raised program);
  has = canonical_tokens spaced_right (spell_program (raised program)) (raised_tokens program tokens);
  spelled = (raised_has_spelling program spelled, refl);
}

pub again : ReadsBack
again program spelled numbers = spells program spelled (are_tokens (spell_program program) (tokens_may_stand.0 program spelled) numbers)

pub again_from_text : ReadsBackFromText
again_from_text bytes program h =
    spells program h.spelled.0 (subst (AllByRecursion IsToken) h.spelled.1 (led_tokens h.tokens bytes h.has.0 h.has.1))
