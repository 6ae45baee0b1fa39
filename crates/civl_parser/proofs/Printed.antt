-- What is printed is parsed again: the version that a program is printed with opens no bracket.
use Rattle.std.proofs.Common.{◌≡◌, ℕ, List, ◌∷◌, Ok, refl, subst, ◌∙◌}
use Rattle.std.specs.Prelude.{codes}
use Rattle.civl_tree.specs.Token.{Token, Reserved, Number}
use Rattle.civl_tree.specs.SpellingProgram.{spell_program}
use Rattle.civl_tree.specs.Raised.{raised}
use Rattle.civl_tree.specs.declared.program.Program.{Program}
use Rattle.civl_tree.proofs.Raising.{raised_has_spelling}
use Rattle.civl_phrases.specs.Bracket.{IsShallow, room}
use Rattle.civl_phrases.proofs.Nesting.{to_shallow, from_shallow}
use Rattle.civl_parser.specs.Parsing.{Parses, ParsesRaised}

same_room : (d a b : ℕ) (ts : List Token) → room d (Reserved (codes "civl") ∷ Number b ∷ ts) ≡ room d (Reserved (codes "civl") ∷ Number a ∷ ts)
unfolding room
same_room d a b ts = refl

raised_shallow : (d : ℕ) (p : Program) → IsShallow d (spell_program p) → IsShallow d (spell_program (raised p))
raised_shallow d p h = let k = from_shallow d (spell_program p) h in to_shallow d (spell_program (raised p)) k.0 (same_room d _ _ _ ∙ k.1)

raised_right : (tokens : List Token) (p : Program) → Parses tokens (Ok p) → Parses (spell_program (raised p)) (Ok (raised p))
raised_right tokens p h = record { fits = raised_has_spelling p h.fits; parts = refl; shallow = raised_shallow 64 p (subst (IsShallow 64) h.parts h.shallow) }

pub parses_raised : ParsesRaised
parses_raised = record { right = raised_right; only = λ tokens p h result only. only (Ok (raised p)) (raised_right tokens p h) }
