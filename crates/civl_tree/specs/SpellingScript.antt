-- The spelling of scripts: from the tree to the tokens, by the grammar.
use Rattle.std.specs.Prelude.{true, false, if◌then◌else◌, List, [], ◌∷◌, ◌++◌, map, codes}
use Rattle.civl_tree.specs.declared.script.Literal.{Literal}
use Rattle.civl_tree.specs.declared.script.Literal.TheVariants as literal
use Rattle.civl_tree.specs.declared.script.Entry.{Entry}
use Rattle.civl_tree.specs.declared.script.Told.{Told}
use Rattle.civl_tree.specs.declared.script.Script.{Script}
use Rattle.civl_tree.specs.Token.{Token, Reserved, Sign, Number}
use Rattle.civl_tree.specs.Spelling.{semicolon, colon, name_token, joined, separated, enclosed}
use Rattle.civl_tree.specs.SpellingProgram.{spell_program}

-- literal = true | false | number : number
abbrev pub spell_literal : Literal → List Token
spell_literal (literal.Flag true) = Reserved (codes "true") ∷ []
spell_literal (literal.Flag false) = Reserved (codes "false") ∷ []
spell_literal (literal.Number value width) = Number value ∷ colon ∷ Number width ∷ []

-- value = literal | [ list(literal) ]
abbrev pub spell_value : Entry → List Token
spell_value entry =
    if entry.row then Sign (codes "[") ∷ separated spell_literal entry.cells ++ Sign (codes "]") ∷ []
    else joined (map spell_literal entry.cells)

-- entry = name = value ;
abbrev pub spell_entry : Entry → List Token
spell_entry entry = name_token entry.name ∷ Sign (codes "=") ∷ spell_value entry ++ semicolon ∷ []

-- step = move number ( list(value) ) ;
abbrev pub spell_step : Told → List Token
spell_step told = Reserved (codes "move") ∷ Number told.thread ∷ enclosed spell_value told.choices ++ semicolon ∷ []

-- script = program schedule entry* step*
abbrev pub spell_script : Script → List Token
spell_script script =
    spell_program script.program
    ++ (Reserved (codes "schedule") ∷ joined (map spell_entry script.store) ++ joined (map spell_step script.moves))
