-- What a text spells is no longer than the text, and a byte at which no token begins lies within it.
use Rattle.std.specs.Prelude.{codes}
use Rattle.std.proofs.Common.{◌≡◌, ◌≢◌, ℕ, zero, suc, ◌+◌, ◌<◌, ◌≤◌, ◌^◌, List, [], ◌∷◌, ◌++◌, map, length, drop, Err, refl, ap, arith}
use Rattle.std.proofs.lemmas.List.{length-append}
use Rattle.civl_tree.specs.declared.program.Program.{Program}
use Rattle.civl_tree.specs.declared.script.Entry.{Entry}
use Rattle.civl_tree.specs.declared.script.Script.{Script}
use Rattle.civl_tree.specs.declared.script.Told.{Told}
use Rattle.civl_tree.specs.Spelling.{joined}
use Rattle.civl_tree.specs.SpellingProgram.{spell_program}
use Rattle.civl_tree.specs.SpellingScript.{spell_entry, spell_script, spell_step}
use Rattle.civl_tree.specs.Token.{Token, Reserved}
use Rattle.civl_script.proofs.Counting.{tokens_within}
use Rattle.civl_outlines.specs.declared.outline.Outline.{Outline}
use Rattle.civl_outlines.specs.SpellingOutline.{spell_hold, spell_note, spell_outline}
use Rattle.civl_frontend.specs.Texts.{IsReadAs, SpellsProgram, SpellsScript, SpellsOutline, limit}
use Rattle.civl_frontend.specs.declared.reader.Fault.{Fault}
use Rattle.civl_frontend.specs.declared.reader.Fault.TheVariants.{NoToken, NotHere, Deep}
use Rattle.civl_explain_command.specs.inner.Read.{IsWithin}

-- ---- programs

pub text_short : (bytes : List ℕ) (program : Program) → SpellsProgram bytes program → length bytes ≤ limit → length (spell_program program) < 2 ^ 64
text_short bytes program h short = omega (arith, tokens_within bytes h.spells.tokens h.spells.has, ap length h.spells.spelled.1, short)

pub script_short : (bytes : List ℕ) (script : Script) → SpellsScript bytes script → length bytes ≤ limit
    → length (spell_program script.program) < 2 ^ 64
script_short bytes script h short =
    omega (
      arith,
      tokens_within bytes h.spells.tokens h.spells.has,
      ap length h.spells.spelled.1,
      length-append (spell_program script.program) (Reserved (codes "schedule") ∷ joined (map spell_entry script.store) ++ joined (map spell_step script.moves)),
      short,
    )

entry_some : (entry : Entry) → 0 < length (spell_entry entry)
entry_some entry = omega arith

step_some : (told : Told) → 0 < length (spell_step told)
step_some told = omega arith

each_some : {X : Type 0} (spell : X → List Token) → ((x : X) → 0 < length (spell x)) → (xs : List X) → length xs ≤ length (joined (map spell xs))
each_some spell some [] = omega arith
each_some spell some (x ∷ xs) = omega (arith, each_some spell some xs, some x, length-append (spell x) (joined (map spell xs)))

-- entries and moves are no more than tokens
pub parts_within : (script : Script) → length script.store + length script.moves ≤ length (spell_script script)
parts_within script =
    omega (
      arith,
      each_some spell_entry entry_some script.store,
      each_some spell_step step_some script.moves,
      length-append (spell_program script.program) (Reserved (codes "schedule") ∷ joined (map spell_entry script.store) ++ joined (map spell_step script.moves)),
      length-append (joined (map spell_entry script.store)) (joined (map spell_step script.moves)),
    )

pub script_whole : (bytes : List ℕ) (script : Script) → SpellsScript bytes script → length bytes ≤ limit → length (spell_script script) < 2 ^ 64
script_whole bytes script h short = omega (arith, tokens_within bytes h.spells.tokens h.spells.has, ap length h.spells.spelled.1, short)

pub outline_short : (bytes : List ℕ) (outline : Outline) → SpellsOutline bytes outline → length bytes ≤ limit
    → length (spell_program outline.program) < 2 ^ 64
outline_short bytes outline h short =
    omega (
      arith,
      tokens_within bytes h.spells.tokens h.spells.has,
      ap length h.spells.spelled.1,
      length-append (spell_program outline.program) (Reserved (codes "schedule") ∷ joined (map spell_hold outline.holds) ++ joined (map spell_note outline.notes)),
      short,
    )

pub outline_whole : (bytes : List ℕ) (outline : Outline) → SpellsOutline bytes outline → length bytes ≤ limit → length (spell_outline outline) < 2 ^ 64
outline_whole bytes outline h short = omega (arith, tokens_within bytes h.spells.tokens h.spells.has, ap length h.spells.spelled.1, short)

-- ---- faults

within : (bytes : List ℕ) (place : ℕ) → drop place bytes ≢ [] → place ≤ length bytes
within bytes zero some = omega arith
within [] (suc place) some = absurd (some refl)
within (b ∷ bs) (suc place) some = omega (arith, within bs place some)

pub fault_within : {A : Type 0} (spell : A → List Token) (fits : A → Type 0) (bytes : List ℕ) (fault : Fault)
    → IsReadAs spell fits bytes (Err fault) → IsWithin bytes fault
fault_within spell fits bytes (NoToken place) h = within bytes place h.2.some
fault_within spell fits bytes (NotHere place) h = tt
fault_within spell fits bytes (Deep place) h = tt
