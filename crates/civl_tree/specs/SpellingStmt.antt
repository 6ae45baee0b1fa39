-- Part of the claim: docs/CLAIM.md.
-- The spelling of statements: from the tree to the tokens, by the grammar.
use Rattle.std.specs.Prelude.{List, [], ◌∷◌, ◌++◌, codes}
use Rattle.civl_tree.specs.declared.name.Name.{Name}
use Rattle.civl_tree.specs.declared.stmt.Stmt.{Stmt}
use Rattle.civl_tree.specs.declared.stmt.Stmt.TheFolds.{fold-Stmt}
use Rattle.civl_tree.specs.declared.stmt.Stmt.TheOpen as stmt
use Rattle.civl_tree.specs.Token.{Token, Reserved}
use Rattle.civl_tree.specs.Spelling.{semicolon, becomes, arrow, name_token, enclosed, block, spell_expr}

-- a result of a call, a name
abbrev pub spell_name : Name → List Token
spell_name name = name_token name ∷ []

-- stmt, where each part that is a statement stands as its spelling:
--   name := expr ; | assert expr ; | if expr { stmt* } else { stmt* } | while expr { stmt* }
--   | while yield expr inv expr { stmt* } | while rank expr by expr inv expr { stmt* }
--   | call name ( list(expr) ) -> ( list(name) ) ; | yield expr ; | commit ; | intro name := expr ;
--   | spawn name ( list(expr) ) ;
abbrev pub stmt_step : stmt.Stmt-F (List Token) → List Token
stmt_step (stmt.Assign target value) = name_token target ∷ becomes ∷ spell_expr value ++ semicolon ∷ []
stmt_step (stmt.Assert fact) = Reserved (codes "assert") ∷ spell_expr fact ++ semicolon ∷ []
stmt_step (stmt.If test first second) = Reserved (codes "if") ∷ spell_expr test ++ (block first ++ (Reserved (codes "else") ∷ block second))
stmt_step (stmt.While test body) = Reserved (codes "while") ∷ spell_expr test ++ block body
stmt_step (stmt.YieldLoop test inv body) =
    Reserved (codes "while") ∷ Reserved (codes "yield") ∷ spell_expr test ++ (Reserved (codes "inv") ∷ spell_expr inv ++ block body)
stmt_step (stmt.RankLoop test rank inv body) =
    Reserved (codes "while") ∷ Reserved (codes "rank") ∷ spell_expr test
    ++ (Reserved (codes "by") ∷ spell_expr rank ++ (Reserved (codes "inv") ∷ spell_expr inv ++ block body))
stmt_step (stmt.Call callee args results) =
    Reserved (codes "call") ∷ name_token callee ∷ enclosed spell_expr args ++ (arrow ∷ enclosed spell_name results ++ semicolon ∷ [])
stmt_step (stmt.Yield inv) = Reserved (codes "yield") ∷ spell_expr inv ++ semicolon ∷ []
stmt_step stmt.Commit = Reserved (codes "commit") ∷ semicolon ∷ []
stmt_step (stmt.Intro target value) = Reserved (codes "intro") ∷ name_token target ∷ becomes ∷ spell_expr value ++ semicolon ∷ []
stmt_step (stmt.Spawn callee args) = Reserved (codes "spawn") ∷ name_token callee ∷ enclosed spell_expr args ++ semicolon ∷ []

-- the tokens of a statement
abbrev pub spell_stmt : Stmt → List Token
spell_stmt = fold-Stmt (List Token) stmt_step
