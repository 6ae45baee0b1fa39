-- A script with values of every form, with its tokens; and scripts that no text spells.
use Rattle.std.specs.Prelude.{◌≡◌, true, false, List, [], ◌∷◌, ◌++◌, map}
use Rattle.civl_tree.specs.declared.name.Name.{Name}
use Rattle.civl_tree.specs.declared.script.Literal.{Literal}
use Rattle.civl_tree.specs.declared.script.Literal.TheVariants as literal
use Rattle.civl_tree.specs.declared.script.Entry.{Entry}
use Rattle.civl_tree.specs.declared.script.Script.{Script}
use Rattle.civl_tree.specs.Token.{Token, Number}
use Rattle.civl_tree.specs.SpellingDomain.{allows_entry, allows_chosen, allows_script, ScriptIsSpelledBy}
use Rattle.civl_tree.specs.examples.SpellingWords.{named, name, word, sign}
use Rattle.civl_tree.specs.examples.SpellingFlag.{flag, flag_tokens}

-- one literal, and a row of literals
abbrev pub single : Name → Literal → Entry
single name cell = record { name = name; cells = cell ∷ []; row = false }

abbrev pub row : Name → List Literal → Entry
row name cells = record { name = name; cells = cells; row = true }

-- the name that has no bytes
abbrev pub unnamed : Name
unnamed = named ""

abbrev pub script : Script
script = record {
  program = flag;
  store =
      single (named "f") (literal.Flag true)
      ∷ single (named "x") (literal.Number 255 8)
      ∷ row (named "r") (literal.Number 0 8 ∷ literal.Number 1 8 ∷ [])
      ∷ row (named "e") []
      ∷ row (named "m") (literal.Flag true ∷ [])
      ∷ [];
  moves =
      record { thread = 0; choices = [] }
      ∷ record {
        thread = 4294967295;
        choices =
            single unnamed (literal.Flag false)
            ∷ single unnamed (literal.Number 3 8)
            ∷ row unnamed (literal.Number 1 2 ∷ literal.Flag true ∷ [])
            ∷ row unnamed []
            ∷ [];
      }
      ∷ [];
}

abbrev pub schedule_tokens : List Token
schedule_tokens =
    word "schedule"
    ∷ name "f" ∷ sign "=" ∷ word "true" ∷ sign ";"
    ∷ name "x" ∷ sign "=" ∷ Number 255 ∷ sign ":" ∷ Number 8 ∷ sign ";"
    ∷ name "r" ∷ sign "=" ∷ sign "[" ∷ Number 0 ∷ sign ":" ∷ Number 8 ∷ sign "," ∷ Number 1 ∷ sign ":" ∷ Number 8 ∷ sign "]" ∷ sign ";"
    ∷ name "e" ∷ sign "=" ∷ sign "[" ∷ sign "]" ∷ sign ";"
    ∷ name "m" ∷ sign "=" ∷ sign "[" ∷ word "true" ∷ sign "]" ∷ sign ";"
    ∷ word "move" ∷ Number 0 ∷ sign "(" ∷ sign ")" ∷ sign ";"
    ∷ word "move" ∷ Number 4294967295 ∷ sign "(" ∷ word "false" ∷ sign "," ∷ Number 3 ∷ sign ":" ∷ Number 8 ∷ sign "," ∷ sign "[" ∷ Number 1 ∷ sign ":" ∷ Number 2 ∷ sign "," ∷ word "true" ∷ sign "]" ∷ sign "," ∷ sign "[" ∷ sign "]" ∷ sign ")" ∷ sign ";" ∷ []

abbrev pub ScriptIsSpelled : Type 0
ScriptIsSpelled = ScriptIsSpelledBy (flag_tokens ++ schedule_tokens) script

-- values that no text spells: two literals or none without brackets
abbrev pub loose : Name → List Literal → Entry
loose name cells = record { name = name; cells = cells; row = false }

-- entries of the store with a name, with none, with a reserved word; with one literal, two, and none
abbrev pub EntriesHaveSpelling : Type 0
EntriesHaveSpelling =
    map allows_entry (single (named "f") (literal.Flag true) ∷ single unnamed (literal.Flag true) ∷ single (named "gate") (literal.Flag true)
    ∷ loose (named "f") (literal.Flag true ∷ literal.Flag true ∷ []) ∷ loose (named "f") [] ∷ row (named "f") [] ∷ [])
    ≡ true ∷ false ∷ false ∷ false ∷ false ∷ true ∷ []

-- values for choices, which have no name
abbrev pub ChosenHaveSpelling : Type 0
ChosenHaveSpelling =
    map allows_chosen (single unnamed (literal.Flag true) ∷ single (named "f") (literal.Flag true) ∷ row unnamed [] ∷ loose unnamed [] ∷ [])
    ≡ true ∷ false ∷ true ∷ false ∷ []

-- scripts: as above, with an entry that has no name, and with a value for a choice that has one
abbrev pub ScriptsHaveSpelling : Type 0
ScriptsHaveSpelling =
    map allows_script (script
    ∷ record script { store = single unnamed (literal.Flag true) ∷ [] }
    ∷ record script { moves = record { thread = 0; choices = single (named "f") (literal.Flag true) ∷ [] } ∷ [] }
    ∷ [])
    ≡ true ∷ false ∷ false ∷ []
