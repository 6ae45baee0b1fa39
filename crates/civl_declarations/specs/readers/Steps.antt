-- Serves the parser: readers of the entries and the steps of scripts. The number d says how many more brackets
-- may be open.
use Rattle.std.specs.Prelude.{ℕ, ◌-◌, Bool, true, false, List, [], ◌∷◌, codes, Option, None, Some}
use Rattle.civl_tree.specs.Token.{Token, Named, Reserved, Sign, Number}
use Rattle.civl_tree.specs.Spelling.{open_paren, close_paren, semicolon, colon}
use Rattle.civl_tree.specs.declared.name.Name.{Name}
use Rattle.civl_tree.specs.declared.script.Literal.{Literal}
use Rattle.civl_tree.specs.declared.script.Literal.TheVariants as literal
use Rattle.civl_tree.specs.declared.script.Entry.{Entry}
use Rattle.civl_tree.specs.declared.script.Told.{Told}
use Rattle.civl_phrases.specs.Reader.{Reader, begins, after, opened, both, mapped, then_token, done, chosen, by_form}
use Rattle.civl_phrases.specs.List.{enclosed}
use Rattle.civl_phrases.specs.Leaf.{a_number}
use Rattle.civl_phrases.specs.Table.{lookup}
use Rattle.civl_declarations.specs.declared.forms.LiteralForm.{LiteralForm}
use Rattle.civl_declarations.specs.declared.forms.LiteralForm.TheVariants as forms
use Rattle.civl_declarations.specs.declared.steps.Value.{Value}
use Rattle.civl_expressions.specs.readers.Names.{name_at}

-- ---- literals

abbrev pub literal_table : List (Token × LiteralForm)
literal_table = (Reserved (codes "true"), forms.True) ∷ (Reserved (codes "false"), forms.False) ∷ []

abbrev pub literal_form_of : Token → Option LiteralForm
literal_form_of (Named bytes) = None
literal_form_of (Number value) = Some forms.Number
literal_form_of (Reserved bytes) = lookup literal_table (Reserved bytes)
literal_form_of (Sign bytes) = None

abbrev pub literal_form : Option Token → Option LiteralForm
literal_form None = None
literal_form (Some token) = literal_form_of token

unfoldable pub flag_at : Token → Bool → Reader Literal
flag_at token value = mapped (λ _. literal.Flag value) (after token done)

unfoldable pub number_literal_at : Reader Literal
number_literal_at = mapped (λ p. literal.Number p.0 p.1) (both a_number (λ _. after colon a_number))

abbrev pub literal_as : LiteralForm → Reader Literal
literal_as forms.True = flag_at (Reserved (codes "true")) true
literal_as forms.False = flag_at (Reserved (codes "false")) false
literal_as forms.Number = number_literal_at

unfoldable pub literal_at : Reader Literal
literal_at = by_form literal_form literal_as

-- ---- values

abbrev pub open_row : Token
open_row = Sign (codes "[")

abbrev pub close_row : Token
close_row = Sign (codes "]")

abbrev pub row_value : List Literal → Value
row_value cells = record { cells = cells; row = true }

abbrev pub plain_value : Literal → Value
plain_value cell = record { cells = cell ∷ []; row = false }

unfoldable pub value_at : ℕ → Reader Value
value_at d = chosen (begins open_row) (mapped row_value (opened open_row d (enclosed close_row literal_at))) (mapped plain_value literal_at)

-- ---- entries and steps

abbrev pub make_entry : Name × Value → Entry
make_entry p = record { name = p.0; cells = p.1.cells; row = p.1.row }

unfoldable pub entry_at : ℕ → Reader Entry
entry_at d = mapped make_entry (both name_at (λ _. after (Sign (codes "=")) (then_token semicolon (value_at d))))

-- the value for a choice, with the empty name
abbrev pub make_chosen : Value → Entry
make_chosen value = record { name = record { bytes = [] }; cells = value.cells; row = value.row }

unfoldable pub chosen_at : ℕ → Reader Entry
chosen_at d = mapped make_chosen (value_at d)

unfoldable pub chosens_at : ℕ → Reader (List Entry)
chosens_at d = opened open_paren d (enclosed close_paren (chosen_at (d - 1)))

abbrev pub make_told : ℕ × List Entry → Told
make_told p = record { thread = p.0; choices = p.1 }

abbrev pub move_word : Token
move_word = Reserved (codes "move")

unfoldable pub step_at : ℕ → Reader Told
step_at d = mapped make_told (after move_word (both a_number (λ _. then_token semicolon (chosens_at d))))
