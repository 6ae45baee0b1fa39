-- An outline that a text spells has a program whose parts have numbers, and few holds and notes.
use Rattle.std.specs.Prelude.{codes, IsTrue}
use Rattle.std.proofs.Common.{ℕ, ◌+◌, ◌<◌, ◌≤◌, ◌^◌, List, ◌∷◌, ◌++◌, map, length, ap, arith}
use Rattle.std.proofs.lemmas.List.{length-append}
use Rattle.civl_tree.specs.Numbered.{IsNumbered}
use Rattle.civl_tree.specs.Spelling.{joined}
use Rattle.civl_tree.specs.SpellingDomain.{allows_program}
use Rattle.civl_tree.specs.SpellingProgram.{spell_program}
use Rattle.civl_tree.specs.Token.{Reserved}
use Rattle.civl_phrases.proofs.Tables.{and_parts}
use Rattle.civl_script.proofs.Counting.{tokens_within, few_tokens, parts_within}
use Rattle.civl_outlines.specs.declared.outline.Outline.{Outline}
use Rattle.civl_outlines.specs.SpellingOutline.{spell_hold, spell_note, spell_outline}
use Rattle.civl_frontend.specs.Texts.{SpellsOutline, limit}

-- the tokens of the program, and one at least for each hold and note
outline_long : (outline : Outline) → length (spell_program outline.program) + (length outline.holds + length outline.notes) ≤ length (spell_outline outline)
outline_long outline =
    let holds = joined (map spell_hold outline.holds) in
    let notes = joined (map spell_note outline.notes) in
    omega (
      arith,
      parts_within spell_hold (λ x. omega arith) outline.holds,
      parts_within spell_note (λ x. omega arith) outline.notes,
      length-append holds notes,
      length-append (spell_program outline.program) (Reserved (codes "schedule") ∷ holds ++ notes),
    )

module _ (bytes : List ℕ) (outline : Outline) (h : SpellsOutline bytes outline) where
  few_in_all : length bytes ≤ limit → length (spell_program outline.program) + (length outline.holds + length outline.notes) ≤ limit
  few_in_all short = omega (arith, tokens_within bytes h.spells.tokens h.spells.has, ap length h.spells.spelled.1, outline_long outline, short)

  pub outline_numbered : length bytes ≤ limit → IsNumbered outline.program
  outline_numbered short = few_tokens outline.program (omega (arith, few_in_all short))

  pub outline_few : length bytes ≤ limit → length outline.holds + length outline.notes < 2 ^ 32
  outline_few short = omega (arith, few_in_all short)

  -- its program is one that a text can spell
  pub outline_written : IsTrue (allows_program outline.program)
  outline_written = (and_parts (allows_program outline.program) _ h.spells.spelled.0).0
