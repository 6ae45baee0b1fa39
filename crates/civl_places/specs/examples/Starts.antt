-- Tokens at which items and statements of small programs begin.
use Rattle.std.specs.Prelude.{◌≡◌, None, Some, List, [], ◌∷◌, map}
use Rattle.civl_tree.specs.declared.expr.Expr as expr
use Rattle.civl_tree.specs.declared.stmt.Stmt.{Stmt}
use Rattle.civl_tree.specs.declared.stmt.Stmt as stmt
use Rattle.civl_tree.specs.examples.SpellingWords.{named}
use Rattle.civl_tree.specs.examples.SpellingFlag.{flag}
use Rattle.civl_places.specs.Starts.{item_start, statement_start, starts_of}

-- a global, `init`, two actions, a procedure and a thread
abbrev pub FlagStarts : Type 0
FlagStarts = map (item_start flag) (0 ∷ 1 ∷ 2 ∷ 3 ∷ 4 ∷ 5 ∷ []) ≡ 9 ∷ 18 ∷ 21 ∷ 46 ∷ 71 ∷ 97 ∷ []

-- a call, a commit and the exit; no further number, and no further procedure
abbrev pub FlagStatements : Type 0
FlagStatements =
    map (statement_start flag 0) (0 ∷ 1 ∷ 2 ∷ 3 ∷ []) ≡ Some 86 ∷ Some 94 ∷ Some 96 ∷ None ∷ []

abbrev pub NoProcedure : Type 0
NoProcedure = statement_start flag 1 0 ≡ None

-- if b { commit; } else { while yield true inv false { commit; } }
-- while rank true by 0:8 inv true { while true { yield true; } }
-- commit;
abbrev pub nested : List Stmt
nested =
    stmt.If (expr.Name (named "b")) (stmt.Commit ∷ []) (stmt.YieldLoop expr.True expr.False (stmt.Commit ∷ []) ∷ [])
    ∷ stmt.RankLoop expr.True (expr.Literal 0 8) expr.True (stmt.While expr.True (stmt.Yield expr.True ∷ []) ∷ [])
    ∷ stmt.Commit
    ∷ []

abbrev pub NestedStarts : Type 0
NestedStarts = starts_of 0 nested ≡ 0 ∷ 3 ∷ 8 ∷ 14 ∷ 18 ∷ 28 ∷ 31 ∷ 36 ∷ []

pub record StartExamples : Type 0 where
  pub flag_starts : FlagStarts
  pub flag_statements : FlagStatements
  pub no_procedure : NoProcedure
  pub nested_starts : NestedStarts
