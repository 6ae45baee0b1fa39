-- Numbers of items and statements.
use Rattle.std.specs.Prelude.{◌≡◌, List, [], ◌∷◌, map}
use Rattle.civl_tree.specs.declared.expr.Two.TheVariants.{Sub}
use Rattle.civl_tree.specs.declared.expr.Expr as expr
use Rattle.civl_tree.specs.declared.stmt.Stmt.{Stmt}
use Rattle.civl_tree.specs.declared.stmt.Stmt as stmt
use Rattle.civl_tree.specs.Numbering.{global_item, init_item, invariant_item, action_item, proc_item, thread_item, item_count, size_of, numbered, inner_number, second_number, exit_number, statements_of}
use Rattle.civl_tree.specs.examples.SpellingExprs.{name_of}
use Rattle.civl_tree.specs.examples.SpellingWords.{named}
use Rattle.civl_tree.specs.examples.SpellingStmts.{acquiring, counting, stmts}
use Rattle.civl_tree.specs.examples.SpellingItems.{everything}
use Rattle.civl_tree.specs.examples.SpellingFlag.{flag}
use Rattle.civl_tree.specs.examples.SpellingPrograms.{spinlock}

-- one global, `init`, two actions, a procedure and a thread
abbrev pub FlagItems : Type 0
FlagItems =
    global_item flag 0 ∷ init_item flag ∷ action_item flag 0 ∷ action_item flag 1 ∷ proc_item flag 0 ∷ thread_item flag 0 ∷ item_count flag ∷ []
    ≡ 0 ∷ 1 ∷ 2 ∷ 3 ∷ 4 ∷ 5 ∷ 6 ∷ []

-- two globals, `init`, two invariants, two actions, three procedures and two threads
abbrev pub EverythingItems : Type 0
EverythingItems =
    global_item everything 1 ∷ init_item everything ∷ invariant_item everything 0 ∷ invariant_item everything 1 ∷ action_item everything 0 ∷ action_item everything 1
    ∷ proc_item everything 0 ∷ proc_item everything 2 ∷ thread_item everything 0 ∷ thread_item everything 1 ∷ item_count everything ∷ []
    ≡ 1 ∷ 2 ∷ 3 ∷ 4 ∷ 5 ∷ 6 ∷ 7 ∷ 9 ∷ 10 ∷ 11 ∷ 12 ∷ []

-- three globals, `init`, an invariant, nine actions, six procedures and two threads
abbrev pub SpinlockItems : Type 0
SpinlockItems =
    init_item spinlock ∷ invariant_item spinlock 0 ∷ action_item spinlock 0 ∷ proc_item spinlock 0 ∷ proc_item spinlock 4 ∷ thread_item spinlock 1 ∷ []
    ≡ 3 ∷ 4 ∷ 5 ∷ 14 ∷ 18 ∷ 21 ∷ []

-- each form of statement, how many it is
abbrev pub StmtSizes : Type 0
StmtSizes = map size_of stmts ≡ 1 ∷ 1 ∷ 4 ∷ 1 ∷ 2 ∷ 5 ∷ 2 ∷ 1 ∷ 1 ∷ 1 ∷ 1 ∷ 1 ∷ 1 ∷ 1 ∷ []

-- a branch with two loops in it, and behind it
abbrev pub first_branch : List Stmt
first_branch = stmt.Yield expr.False ∷ counting ∷ acquiring ∷ []

abbrev pub second_branch : List Stmt
second_branch = stmt.Commit ∷ []

abbrev pub branching : Stmt
branching = stmt.If (name_of "b") first_branch second_branch

abbrev pub body : List Stmt
body = stmt.Assert expr.True ∷ branching ∷ stmt.While expr.True (stmt.Yield expr.True ∷ []) ∷ stmt.Commit ∷ []

-- the number of each statement is its place here
abbrev pub BodyStatements : Type 0
BodyStatements =
    statements_of body
    ≡ stmt.Assert expr.True
    ∷ branching
    ∷ stmt.Yield expr.False
    ∷ counting
    ∷ stmt.Assign (named "i") (expr.Two Sub (name_of "i") (expr.Literal 1 8))
    ∷ acquiring
    ∷ stmt.Call (named "Cas") [] (named "ok" ∷ [])
    ∷ stmt.If (name_of "ok") (stmt.Commit ∷ stmt.Intro (named "lock") (name_of "t") ∷ []) []
    ∷ stmt.Commit
    ∷ stmt.Intro (named "lock") (name_of "t")
    ∷ stmt.Commit
    ∷ stmt.While expr.True (stmt.Yield expr.True ∷ [])
    ∷ stmt.Yield expr.True
    ∷ stmt.Commit
    ∷ []

-- the same by counts: of the body, of the first branch, of the second one, and of the exit
abbrev pub BodyNumbers : Type 0
BodyNumbers =
    (numbered 0 body ≡ (0, stmt.Assert expr.True) ∷ (1, branching) ∷ (11, stmt.While expr.True (stmt.Yield expr.True ∷ [])) ∷ (13, stmt.Commit) ∷ [])
    × (numbered (inner_number 1) first_branch ≡ (2, stmt.Yield expr.False) ∷ (3, counting) ∷ (5, acquiring) ∷ [])
    × (numbered (second_number 1 first_branch) second_branch ≡ (10, stmt.Commit) ∷ [])
    × (exit_number body ≡ 14)
    × (exit_number [] ≡ 0)
