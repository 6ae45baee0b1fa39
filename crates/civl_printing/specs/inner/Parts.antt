-- Serves private functions: parts of phrases that are printed by functions of their own. Each is a part of the spelling
-- of civl_tree, and no more: that these parts make the whole spelling is proved. They stay folded in clauses.
use Rattle.std.specs.Prelude.{ℕ, Bool, List, [], ◌∷◌, ◌++◌, map, codes}
use Rattle.civl_tree.specs.declared.name.Name.{Name}
use Rattle.civl_tree.specs.declared.expr.Expr.{Expr}
use Rattle.civl_tree.specs.declared.stmt.Stmt.{Stmt}
use Rattle.civl_tree.specs.declared.action.Param.{Param}
use Rattle.civl_tree.specs.declared.action.Choice.{Choice}
use Rattle.civl_tree.specs.declared.action.Update.{Update}
use Rattle.civl_tree.specs.declared.program.Local.{Local}
use Rattle.civl_tree.specs.Token.{Token, Reserved, Number}
use Rattle.civl_tree.specs.Spelling.{arrow, name_token, joined, enclosed, block, optional, open_brace, close_brace, spell_expr}
use Rattle.civl_tree.specs.SpellingStmt.{spell_stmt}
use Rattle.civl_tree.specs.SpellingProgram.{spell_param, spell_out, spell_choice, spell_update, spell_local}

-- name ( list(param) ) -> ( list(out) )
unfoldable pub signature : Name → List Param → List Param → List Token
signature name params outs = name_token name ∷ enclosed spell_param params ++ (arrow ∷ enclosed spell_out outs)

-- choose ( list(choice) )
unfoldable pub choices_of : List Choice → List Token
choices_of choices = Reserved (codes "choose") ∷ enclosed spell_choice choices

-- layers number to number
unfoldable pub layers_of : ℕ → ℕ → List Token
layers_of first last = Reserved (codes "layers") ∷ Number first ∷ Reserved (codes "to") ∷ Number last ∷ []

-- gate expr guard expr
unfoldable pub conditions : Expr → Expr → List Token
conditions gate guard = Reserved (codes "gate") ∷ spell_expr gate ++ (Reserved (codes "guard") ∷ spell_expr guard)

-- { update* }
unfoldable pub updates_of : List Update → List Token
updates_of updates = block (map spell_update updates)

-- { local* stmt* }
unfoldable pub body_of : List Local → List Stmt → List Token
body_of locals body = open_brace ∷ joined (map spell_local locals) ++ (joined (map spell_stmt body) ++ close_brace ∷ [])

-- [linear]
abbrev pub linear_of : Bool → List Token
linear_of linear = optional linear (Reserved (codes "linear")) []
