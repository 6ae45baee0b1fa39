-- At which token of its text an item, a statement or an exit of a program begins. Tokens are counted from 0.
use Rattle.std.specs.Prelude.{ℕ, ◌+◌, Option, option_and_then, List, [], ◌∷◌, ◌++◌, length, map, take, slice_get, codes}
use Rattle.civl_tree.specs.declared.program.Proc.{Proc}
use Rattle.civl_tree.specs.declared.program.Program.{Program}
use Rattle.civl_tree.specs.declared.stmt.Stmt.{Stmt}
use Rattle.civl_tree.specs.declared.stmt.Stmt.TheOpen.{Stmt-F, If, While, YieldLoop, RankLoop}
use Rattle.civl_tree.specs.declared.stmt.Stmt.TheFolds.{para-Stmt}
use Rattle.civl_tree.specs.Token.{Token, Reserved}
use Rattle.civl_tree.specs.Spelling.{open_brace, arrow, name_token, joined, enclosed, spell_expr}
use Rattle.civl_tree.specs.SpellingStmt.{spell_stmt}
use Rattle.civl_tree.specs.SpellingProgram.{spell_param, spell_out, spell_rank_of, spell_local}
use Rattle.civl_tree.specs.SpellingLaws.{spell_header, spell_item}
use Rattle.civl_tree.specs.Numbering.{items_of, proc_item}

-- ---- items

-- the token at which the item with this number begins: behind the header and all items before it
abbrev pub item_start : Program → ℕ → ℕ
item_start program item = length (spell_header program ++ joined (map spell_item (take item (items_of program))))

-- ---- statements

-- the tokens at which these statements and those in them begin, in text order, where the first begins at this token;
-- each part is a statement with what tells this of those in it
abbrev pub starts_among : ℕ → List (Stmt × (ℕ → List ℕ)) → List ℕ
starts_among at [] = []
starts_among at (part ∷ parts) = (at ∷ part.1 at) ++ starts_among (at + length (spell_stmt part.0)) parts

-- the same of the statements in a statement that begins at this token: behind the words, the expressions and the braces
-- that stand before them
abbrev pub inner_step : Stmt-F (Stmt × (ℕ → List ℕ)) → ℕ → List ℕ
inner_step (If test first second) at =
    let inside = at + length (spell_expr test) + 2 in
    let behind = inside + length (joined (map (λ part. spell_stmt part.0) first)) + 3 in
    starts_among inside first ++ starts_among behind second
inner_step (While test body) at = starts_among (at + length (spell_expr test) + 2) body
inner_step (YieldLoop test inv body) at = starts_among (at + length (spell_expr test) + length (spell_expr inv) + 4) body
inner_step (RankLoop test rank inv body) at =
    starts_among (at + length (spell_expr test) + length (spell_expr rank) + length (spell_expr inv) + 5) body
inner_step _ at = []

abbrev pub inner_starts : Stmt → ℕ → List ℕ
inner_starts = para-Stmt (ℕ → List ℕ) inner_step

-- the tokens at which these statements and those in them begin, in text order, where the first begins at this token
abbrev pub starts_of : ℕ → List Stmt → List ℕ
starts_of at [] = []
starts_of at (stmt ∷ stmts) = (at ∷ inner_starts stmt at) ++ starts_of (at + length (spell_stmt stmt)) stmts

-- the tokens of a procedure before its first statement
abbrev pub spell_head : Proc → List Token
spell_head proc =
    Reserved (codes "proc") ∷ name_token proc.name ∷ enclosed spell_param proc.params
    ++ (arrow ∷ enclosed spell_out proc.outs
    ++ (spell_rank_of proc.refines
    ++ (open_brace ∷ joined (map spell_local proc.locals))))

-- the tokens at which the statements of a procedure begin, and behind them that of its exit, the brace that closes it,
-- where the procedure begins at this token
abbrev pub proc_starts : ℕ → Proc → List ℕ
proc_starts at proc =
    let first = at + length (spell_head proc) in
    starts_of first proc.body ++ (first + length (joined (map spell_stmt proc.body))) ∷ []

-- the token of this statement of the procedure at this place among the procedures; of its exit, where the statement is
-- its `exit_number`
abbrev pub statement_start : Program → ℕ → ℕ → Option ℕ
statement_start program place statement =
    option_and_then (λ proc. slice_get (proc_starts (item_start program (proc_item program place)) proc) statement)
    (slice_get program.procs place)
