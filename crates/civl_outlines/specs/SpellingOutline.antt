-- The spelling of outlines: from the tree to the tokens, by the grammar; and the outlines that have one.
use Rattle.std.specs.Prelude.{◌≡◌, ◌==◌, Bool, ◌&&◌, List, ◌∷◌, ◌++◌, [], map, codes, IsTrue}
use Rattle.std.specs.List.{list_all}
use Rattle.civl_tree.specs.declared.expr.Expr.{Expr}
use Rattle.civl_tree.specs.Token.{Token, Reserved, Number}
use Rattle.civl_tree.specs.Spelling.{semicolon, joined, spell_expr}
use Rattle.civl_tree.specs.SpellingProgram.{spell_program}
use Rattle.civl_tree.specs.SpellingDomain.{allows_expr, allows_program}
use Rattle.civl_outlines.specs.declared.outline.Note.{Note}
use Rattle.civl_outlines.specs.declared.outline.Outline.{Outline}

-- hold = inv expr ;
abbrev pub spell_hold : Expr → List Token
spell_hold hold = Reserved (codes "inv") ∷ spell_expr hold ++ semicolon ∷ []

-- note = assert number number expr ;
abbrev pub spell_note : Note → List Token
spell_note note = Reserved (codes "assert") ∷ Number note.item ∷ Number note.statement ∷ spell_expr note.expr ++ semicolon ∷ []

-- outline = program schedule hold* note*
abbrev pub spell_outline : Outline → List Token
spell_outline outline =
    spell_program outline.program
    ++ (Reserved (codes "schedule") ∷ joined (map spell_hold outline.holds) ++ joined (map spell_note outline.notes))

-- the grammar can write it: the forms of version 2 stand in a program of that version alone
abbrev pub allows_outline : Outline → Bool
allows_outline outline =
    allows_program outline.program
    && (list_all (allows_expr (outline.program.version == 2)) outline.holds
    && list_all (λ note. allows_expr (outline.program.version == 2) note.expr) outline.notes)

-- the outline has a spelling
abbrev pub OutlineHasSpelling : Outline → Type 0
OutlineHasSpelling outline = IsTrue (allows_outline outline)

-- these tokens are the spelling of the outline
abbrev pub OutlineIsSpelledBy : List Token → Outline → Type 0
OutlineIsSpelledBy tokens outline = OutlineHasSpelling outline × (tokens ≡ spell_outline outline)
