-- Serves the parser: readers of parameters, outputs and headings. The number d says how many more brackets may be
-- open.
use Rattle.std.specs.Prelude.{ℕ, ◌-◌, Bool, true, false, List, [], ◌∷◌, codes, Option}
use Rattle.civl_tree.specs.Token.{Token, Reserved}
use Rattle.civl_tree.specs.Spelling.{open_paren, close_paren, colon, arrow}
use Rattle.civl_tree.specs.SpellingDomain.{is_param_mode, is_out_mode}
use Rattle.civl_tree.specs.declared.name.Name.{Name}
use Rattle.civl_tree.specs.declared.expr.Sort.{Sort}
use Rattle.civl_tree.specs.declared.action.Mode.{Mode}
use Rattle.civl_tree.specs.declared.action.Mode.TheVariants as modes
use Rattle.civl_tree.specs.declared.action.Param.{Param}
use Rattle.civl_phrases.specs.Reader.{Reader, after, opened, both, mapped, leaf}
use Rattle.civl_phrases.specs.List.{enclosed}
use Rattle.civl_phrases.specs.Table.{lookup, guarded}
use Rattle.civl_expressions.specs.declared.params.Heading.{Heading}
use Rattle.civl_expressions.specs.readers.Names.{name_at}
use Rattle.civl_expressions.specs.readers.Exprs.{sort_at}

-- ---- parameters and outputs

abbrev pub mode_table : List (Token × Mode)
mode_table = (Reserved (codes "val"), modes.Val) ∷ (Reserved (codes "lend"), modes.Lend) ∷ (Reserved (codes "take"), modes.Take) ∷ (Reserved (codes "give"), modes.Give) ∷ []

-- the modes of outputs, or of parameters
abbrev pub has_mode : Bool → Mode → Bool
has_mode true = is_out_mode
has_mode false = is_param_mode

abbrev pub mode_of : Bool → Token → Option Mode
mode_of out token = guarded (has_mode out) (lookup mode_table token)

unfoldable pub mode_at : Bool → Reader Mode
mode_at out = leaf (mode_of out)

abbrev pub make_param : Mode × (Name × Sort) → Param
make_param p = record { mode = p.0; name = p.1.0; sort = p.1.1 }

-- an output, or a parameter
unfoldable pub param_at : Bool → ℕ → Reader Param
param_at out d = mapped make_param (both (mode_at out) (λ _. both name_at (λ _. after colon (sort_at d))))

-- outputs, or parameters, in parentheses
unfoldable pub params_at : Bool → ℕ → Reader (List Param)
params_at out d = opened open_paren d (enclosed close_paren (param_at out (d - 1)))

abbrev pub make_heading : Name × (List Param × List Param) → Heading
make_heading p = record { name = p.0; params = p.1.0; outs = p.1.1 }

-- the word, and then name ( list(param) ) -> ( list(out) )
unfoldable pub heading_at : Token → ℕ → Reader Heading
heading_at token d = mapped make_heading (after token (both name_at (λ _. both (params_at false d) (λ _. after arrow (params_at true d)))))
