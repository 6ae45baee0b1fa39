-- What may stand at places of a small program.
use Rattle.std.specs.Prelude.{ℕ, Bool, true, false, IsTrue, ◌↔◌, List, [], ◌∷◌, ◌++◌, map, replicate, codes}
use Rattle.civl_tree.specs.Token.{Token, Named, Reserved, Number, Sign}
use Rattle.civl_expected.specs.declared.kind.TextKind.{TextKind}
use Rattle.civl_expected.specs.declared.kind.TextKind.TheVariants.{Program, Script, Outline}
use Rattle.civl_expected.specs.Expected.{MayStandIn, MayEndIn, tried_tokens, AreThose}

abbrev pub name_and_number : List Token
name_and_number = Named (codes "x") ∷ Number 1 ∷ []

-- In a text of this kind exactly these of the tokens that are tried may stand behind those in front, and so it may end
-- there or not.
pub record Expects (text : TextKind) (front chosen : List Token) (end : Bool) : Type 0 where
  pub those : AreThose (MayStandIn text front) tried_tokens chosen
  pub ends : IsTrue end ↔ MayEndIn text front

-- a word, a number and a semicolon
abbrev pub line : List ℕ → ℕ → List Token
line word number = Reserved word ∷ Number number ∷ Sign (codes ";") ∷ []

-- civl version ; layers 1 ; permissions 1 ; init
abbrev pub before_init : ℕ → List Token
before_init version =
    line (codes "civl") version ++ (line (codes "layers") 1 ++ (line (codes "permissions") 1 ++ Reserved (codes "init") ∷ []))

-- the words with which an expression begins
abbrev pub expression_words : List Token
expression_words =
    map Reserved (codes "true" ∷ codes "false" ∷ codes "done" ∷ codes "old" ∷ codes "get" ∷ codes "set" ∷ codes "fill"
    ∷ codes "slice" ∷ codes "widen" ∷ codes "join" ∷ [])

-- the signs that stand behind the first operand in parentheses
abbrev pub operators : List Token
operators =
    map Sign (codes "?" ∷ codes "+" ∷ codes "-" ∷ codes "*" ∷ codes "&" ∷ codes "|" ∷ codes "^"
    ∷ codes "<<" ∷ codes ">>" ∷ codes "<" ∷ codes "<=" ∷ codes "==" ∷ codes "!=" ∷ codes "&&" ∷ codes "||" ∷ codes "=>" ∷ [])

-- the words that stand there in version 2
abbrev pub new_operators : List Token
new_operators = map Reserved (codes "udiv" ∷ codes "urem" ∷ codes "slt" ∷ codes "sle" ∷ codes "sar" ∷ [])

-- a whole program
abbrev pub small : ℕ → List Token
small version = before_init version ++ Reserved (codes "true") ∷ Sign (codes ";") ∷ []

-- the words of items that may stand behind it
abbrev pub item_words : List Token
item_words = map Reserved (codes "invariant" ∷ codes "action" ∷ codes "proc" ∷ codes "thread" ∷ [])

-- ( )
abbrev pub nothing : List Token
nothing = Sign (codes "(") ∷ Sign (codes ")") ∷ []

-- a program, and then proc p ( ) -> ( ) root {
abbrev pub before_body : ℕ → List Token
before_body version =
    small version ++ (Reserved (codes "proc") ∷ Named (codes "p") ∷ nothing
    ++ (Sign (codes "->") ∷ nothing
    ++ (Reserved (codes "root") ∷ Sign (codes "{") ∷ [])))

-- the words with which a statement of version 1 begins
abbrev pub statement_words : List Token
statement_words =
    map Reserved (codes "call" ∷ codes "yield" ∷ codes "commit" ∷ codes "intro" ∷ codes "if" ∷ codes "while" ∷ codes "assert" ∷ [])

pub record PlaceExamples : Type 0 where
  pub at_start : Expects Program [] (Reserved (codes "civl") ∷ []) false
  pub behind_civl : Expects Program (Reserved (codes "civl") ∷ []) (Number 1 ∷ []) false
  pub behind_version : Expects Program (Reserved (codes "civl") ∷ Number 1 ∷ []) (Sign (codes ";") ∷ []) false
  pub behind_fault : Expects Program (Reserved (codes "civl") ∷ Sign (codes ";") ∷ []) [] false
  pub at_expression : Expects Program (before_init 1) (Sign (codes "(") ∷ expression_words ++ name_and_number) false
  pub in_parentheses : Expects Program (before_init 1 ++ Sign (codes "(") ∷ [])
      (map Sign (codes "(" ∷ codes "!" ∷ codes "~" ∷ codes "-" ∷ []) ++ (expression_words ++ name_and_number)) false
  pub behind_operand : Expects Program (before_init 1 ++ Sign (codes "(") ∷ Named (codes "a") ∷ []) operators false
  pub behind_operand_new : Expects Program (before_init 2 ++ Sign (codes "(") ∷ Named (codes "a") ∷ [])
      (operators ++ new_operators) false
  pub brackets_64 : Expects Program (before_init 1 ++ replicate 64 (Sign (codes "(")))
      (map Sign (codes "(" ∷ codes "!" ∷ codes "~" ∷ codes "-" ∷ []) ++ (expression_words ++ name_and_number)) false
  pub brackets_65 : Expects Program (before_init 1 ++ replicate 65 (Sign (codes "("))) [] false
  pub in_body : Expects Program (before_body 1)
      (Sign (codes "}") ∷ Reserved (codes "linear") ∷ Reserved (codes "var") ∷ statement_words ++ Named (codes "x") ∷ []) false
  pub behind_yield : Expects Program (before_body 1 ++ Reserved (codes "yield") ∷ [])
      (Sign (codes "(") ∷ expression_words ++ name_and_number) false
  pub behind_statement : Expects Program (before_body 2 ++ Reserved (codes "commit") ∷ Sign (codes ";") ∷ [])
      (Sign (codes "}") ∷ statement_words ++ Reserved (codes "spawn") ∷ Named (codes "x") ∷ []) false
  pub behind_program : Expects Program (small 1) item_words true
  pub behind_program_of_script : Expects Script (small 1) (item_words ++ Reserved (codes "schedule") ∷ []) false
  pub in_schedule : Expects Script (small 1 ++ Reserved (codes "schedule") ∷ []) (Reserved (codes "move") ∷ Named (codes "x") ∷ []) true
  pub in_outline : Expects Outline (small 1 ++ Reserved (codes "schedule") ∷ [])
      (Reserved (codes "inv") ∷ Reserved (codes "assert") ∷ []) true
