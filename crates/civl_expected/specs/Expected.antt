-- What may stand at a place of a text, behind the tokens before it. s spells the values, and f are those that have a
-- spelling. That a token may stand where it and the tokens before it begin a spelling is the viable-prefix property of
-- A. Aho, M. Lam, R. Sethi and J. Ullman, "Compilers" (2nd edition, 4.1.3).
use Rattle.std.specs.Prelude.{◌≡◌, List, [], ◌∷◌, ◌++◌, map, ◌⊎◌, codes}
use Rattle.civl_tree.specs.Token.{Token, Named, Reserved, Number, signs, reserved_words}
use Rattle.civl_tree.specs.Token as token
use Rattle.civl_tree.specs.SpellingProgram.{spell_program}
use Rattle.civl_tree.specs.SpellingScript.{spell_script}
use Rattle.civl_tree.specs.SpellingDomain.{HasSpelling, ScriptHasSpelling}
use Rattle.civl_phrases.specs.Bracket.{IsShallow}
use Rattle.civl_phrases.specs.Exact.{IsPrefix}
use Rattle.civl_outlines.specs.SpellingOutline.{spell_outline, OutlineHasSpelling}
use Rattle.civl_expected.specs.declared.kind.TextKind.{TextKind}
use Rattle.civl_expected.specs.declared.kind.TextKind.TheVariants.{Program, Script, Outline}
use Rattle.civl_expected.specs.declared.candidate.Candidate.{Candidate}
use Rattle.civl_expected.specs.declared.candidate.Candidate.TheVariants.{Sign, Word, Name, Number as AnyNumber}

-- The tokens before the place have at most 64 brackets open, and with this one behind them they begin a spelling.
pub record MayStand {A : Type 0} (s : A → List Token) (f : A → Type 0) (front : List Token) (token : Token) : Type 0 where
  pub shallow : IsShallow 64 front
  pub begins : IsPrefix s f (front ++ token ∷ [])

-- The tokens before the place have at most 64 brackets open, and are a spelling.
pub record MayEnd {A : Type 0} (s : A → List Token) (f : A → Type 0) (front : List Token) : Type 0 where
  pub shallow : IsShallow 64 front
  pub whole : (a : A) × f a × (s a ≡ front)

-- ---- the three kinds of text

abbrev pub MayStandIn : TextKind → List Token → Token → Type 0
MayStandIn Program = MayStand spell_program HasSpelling
MayStandIn Script = MayStand spell_script ScriptHasSpelling
MayStandIn Outline = MayStand spell_outline OutlineHasSpelling

abbrev pub MayEndIn : TextKind → List Token → Type 0
MayEndIn Program = MayEnd spell_program HasSpelling
MayEndIn Script = MayEnd spell_script ScriptHasSpelling
MayEndIn Outline = MayEnd spell_outline OutlineHasSpelling

-- ---- the tokens that are tried

-- the token of a candidate; of names it is `x`, of numbers 1
abbrev pub token_of : Candidate → Token
token_of (Sign text) = token.Sign text.now
token_of (Word text) = Reserved text.now
token_of Name = Named (codes "x")
token_of AnyNumber = Number 1

-- each sign, each reserved word, one name and one number
unfoldable pub tried_tokens : List Token
tried_tokens = map token.Sign signs ++ (map Reserved reserved_words ++ Named (codes "x") ∷ Number 1 ∷ [])

-- The tokens that are chosen are those of all of which it holds, in the order of all.
abbrev pub AreThose : (Token → Type 0) → List Token → List Token → Type 0
AreThose holds [] chosen = chosen ≡ []
AreThose holds (token ∷ tokens) chosen =
    (holds token × ((rest : List Token) × (chosen ≡ token ∷ rest) × AreThose holds tokens rest))
    ⊎ ((holds token → ⊥) × AreThose holds tokens chosen)
