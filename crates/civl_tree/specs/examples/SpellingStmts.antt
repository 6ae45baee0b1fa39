-- Statements of every form, with their tokens.
use Rattle.std.specs.Prelude.{◌≡◌, List, [], ◌∷◌, map}
use Rattle.civl_tree.specs.declared.expr.One.TheVariants.{Not}
use Rattle.civl_tree.specs.declared.expr.Two.TheVariants.{Add, Sub, Eq, Ne, And}
use Rattle.civl_tree.specs.declared.expr.Expr as expr
use Rattle.civl_tree.specs.declared.stmt.Stmt.{Stmt}
use Rattle.civl_tree.specs.declared.stmt.Stmt as stmt
use Rattle.civl_tree.specs.Token.{Number}
use Rattle.civl_tree.specs.SpellingStmt.{spell_stmt}
use Rattle.civl_tree.specs.examples.SpellingWords.{named, name, word, sign}
use Rattle.civl_tree.specs.examples.SpellingExprs.{name_of}

-- a loop that takes a lock: it calls an action, and where that succeeds it commits and sets the lock's global
abbrev pub acquiring : Stmt
acquiring =
    stmt.YieldLoop (expr.One Not (name_of "ok")) (expr.Two Eq (name_of "ok") expr.Done)
    (stmt.Call (named "Cas") [] (named "ok" ∷ [])
    ∷ stmt.If (name_of "ok") (stmt.Commit ∷ stmt.Intro (named "lock") (name_of "t") ∷ []) []
    ∷ [])

-- a loop that counts down
abbrev pub counting : Stmt
counting =
    stmt.RankLoop (expr.Two Ne (name_of "i") (expr.Literal 0 8)) (name_of "i")
    (expr.Two And (expr.One Not expr.Done) (expr.Two Eq (name_of "x") (expr.Old (named "x"))))
    (stmt.Assign (named "i") (expr.Two Sub (name_of "i") (expr.Literal 1 8)) ∷ [])

-- one statement of each form, and more where a form has an empty list
abbrev pub stmts : List Stmt
stmts =
    stmt.Assign (named "x") (expr.Two Add (name_of "x") (expr.Literal 1 8))
    ∷ stmt.Assert (expr.Two Eq (name_of "x") (name_of "y"))
    ∷ stmt.If (name_of "b") (stmt.Commit ∷ []) (stmt.Assign (named "x") (name_of "y") ∷ stmt.Commit ∷ [])
    ∷ stmt.If (name_of "b") [] []
    ∷ stmt.While (name_of "b") (stmt.While expr.True [] ∷ [])
    ∷ acquiring
    ∷ counting
    ∷ stmt.Call (named "Store") (name_of "t" ∷ expr.Two Add (name_of "x") (expr.Literal 1 8) ∷ []) (named "x" ∷ named "y" ∷ [])
    ∷ stmt.Call (named "Skip") [] []
    ∷ stmt.Yield (expr.One Not expr.Done)
    ∷ stmt.Commit
    ∷ stmt.Intro (named "lock") (expr.Literal 0 2)
    ∷ stmt.Spawn (named "Worker") (name_of "t" ∷ expr.Literal 2 8 ∷ [])
    ∷ stmt.Spawn (named "Idle") []
    ∷ []

abbrev pub StmtsAreSpelled : Type 0
StmtsAreSpelled = map spell_stmt stmts ≡
    (name "x" ∷ sign ":=" ∷ sign "(" ∷ name "x" ∷ sign "+" ∷ Number 1 ∷ sign ":" ∷ Number 8 ∷ sign ")" ∷ sign ";" ∷ [])
    ∷ (word "assert" ∷ sign "(" ∷ name "x" ∷ sign "==" ∷ name "y" ∷ sign ")" ∷ sign ";" ∷ [])
    ∷ (word "if" ∷ name "b" ∷ sign "{" ∷ word "commit" ∷ sign ";" ∷ sign "}" ∷ word "else" ∷ sign "{" ∷ name "x" ∷ sign ":=" ∷ name "y" ∷ sign ";" ∷ word "commit" ∷ sign ";" ∷ sign "}" ∷ [])
    ∷ (word "if" ∷ name "b" ∷ sign "{" ∷ sign "}" ∷ word "else" ∷ sign "{" ∷ sign "}" ∷ [])
    ∷ (word "while" ∷ name "b" ∷ sign "{" ∷ word "while" ∷ word "true" ∷ sign "{" ∷ sign "}" ∷ sign "}" ∷ [])
    ∷ (word "while" ∷ word "yield" ∷ sign "(" ∷ sign "!" ∷ name "ok" ∷ sign ")" ∷ word "inv" ∷ sign "(" ∷ name "ok" ∷ sign "==" ∷ word "done" ∷ sign ")" ∷ sign "{" ∷ word "call" ∷ name "Cas" ∷ sign "(" ∷ sign ")" ∷ sign "->" ∷ sign "(" ∷ name "ok" ∷ sign ")" ∷ sign ";" ∷ word "if" ∷ name "ok" ∷ sign "{" ∷ word "commit" ∷ sign ";" ∷ word "intro" ∷ name "lock" ∷ sign ":=" ∷ name "t" ∷ sign ";" ∷ sign "}" ∷ word "else" ∷ sign "{" ∷ sign "}" ∷ sign "}" ∷ [])
    ∷ (word "while" ∷ word "rank" ∷ sign "(" ∷ name "i" ∷ sign "!=" ∷ Number 0 ∷ sign ":" ∷ Number 8 ∷ sign ")" ∷ word "by" ∷ name "i" ∷ word "inv" ∷ sign "(" ∷ sign "(" ∷ sign "!" ∷ word "done" ∷ sign ")" ∷ sign "&&" ∷ sign "(" ∷ name "x" ∷ sign "==" ∷ word "old" ∷ sign "(" ∷ name "x" ∷ sign ")" ∷ sign ")" ∷ sign ")" ∷ sign "{" ∷ name "i" ∷ sign ":=" ∷ sign "(" ∷ name "i" ∷ sign "-" ∷ Number 1 ∷ sign ":" ∷ Number 8 ∷ sign ")" ∷ sign ";" ∷ sign "}" ∷ [])
    ∷ (word "call" ∷ name "Store" ∷ sign "(" ∷ name "t" ∷ sign "," ∷ sign "(" ∷ name "x" ∷ sign "+" ∷ Number 1 ∷ sign ":" ∷ Number 8 ∷ sign ")" ∷ sign ")" ∷ sign "->" ∷ sign "(" ∷ name "x" ∷ sign "," ∷ name "y" ∷ sign ")" ∷ sign ";" ∷ [])
    ∷ (word "call" ∷ name "Skip" ∷ sign "(" ∷ sign ")" ∷ sign "->" ∷ sign "(" ∷ sign ")" ∷ sign ";" ∷ [])
    ∷ (word "yield" ∷ sign "(" ∷ sign "!" ∷ word "done" ∷ sign ")" ∷ sign ";" ∷ [])
    ∷ (word "commit" ∷ sign ";" ∷ [])
    ∷ (word "intro" ∷ name "lock" ∷ sign ":=" ∷ Number 0 ∷ sign ":" ∷ Number 2 ∷ sign ";" ∷ [])
    ∷ (word "spawn" ∷ name "Worker" ∷ sign "(" ∷ name "t" ∷ sign "," ∷ Number 2 ∷ sign ":" ∷ Number 8 ∷ sign ")" ∷ sign ";" ∷ [])
    ∷ (word "spawn" ∷ name "Idle" ∷ sign "(" ∷ sign ")" ∷ sign ";" ∷ []) ∷ []
