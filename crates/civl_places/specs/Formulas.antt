-- Where the expressions of a program stand: each with the token at which it begins, counted from 0.
use Rattle.std.specs.Prelude.{ℕ, ◌+◌, Option, None, Some, option_and_then, List, [], ◌∷◌, ◌++◌, length, map, take, slice_get, codes}
use Rattle.std.specs.Option.{option_map}
use Rattle.civl_tree.specs.declared.expr.Expr.{Expr}
use Rattle.civl_tree.specs.declared.action.Action.{Action}
use Rattle.civl_tree.specs.declared.action.Choice.{Choice}
use Rattle.civl_tree.specs.declared.program.Proc.{Proc}
use Rattle.civl_tree.specs.declared.program.Thread.{Thread}
use Rattle.civl_tree.specs.declared.program.Program.{Program}
use Rattle.civl_tree.specs.declared.stmt.Stmt.{Stmt, out-Stmt}
use Rattle.civl_tree.specs.declared.stmt.Stmt.TheOpen.{Stmt-F, Assign, Assert, If, While, YieldLoop, RankLoop, Call, Yield, Intro, Spawn}
use Rattle.civl_tree.specs.Token.{Token, Reserved, Sign, Number}
use Rattle.civl_tree.specs.Spelling.{open_paren, open_brace, comma, colon, arrow, name_token, joined, enclosed, spell_sort, spell_expr}
use Rattle.civl_tree.specs.SpellingProgram.{spell_param, spell_out, spell_choice, spell_update, mover_token}
use Rattle.civl_tree.specs.Numbering.{init_item, invariant_item, action_item, proc_item, thread_item, statement_at}
use Rattle.civl_reasons.specs.Reasons.{Subformula}
use Rattle.civl_places.specs.declared.formula.Formula.{Formula}
use Rattle.civl_places.specs.declared.formula.Formula.TheVariants as formula
use Rattle.civl_places.specs.declared.formula.InAction.{InAction}
use Rattle.civl_places.specs.declared.formula.InAction.TheVariants as of_action
use Rattle.civl_places.specs.declared.formula.InStatement.{InStatement}
use Rattle.civl_places.specs.declared.formula.InStatement.TheVariants as of_statement
use Rattle.civl_places.specs.Starts.{item_start, statement_start}

-- an expression at a token
abbrev pub placed : ℕ → Expr → Subformula
placed token e = record { token = token; expr = e }

-- how many tokens of `( list(X) )` stand before the phrase with this number: the parenthesis, and the phrases before it,
-- each with its comma
abbrev pub before_in_list : {X : Type 0} → (X → List Token) → List X → ℕ → ℕ
before_in_list spell xs number = length (open_paren ∷ joined (map (λ x. spell x ++ comma ∷ []) (take number xs)))

-- the expression with this number in a list in parentheses that begins at this token
abbrev pub in_list : ℕ → List Expr → ℕ → Option Subformula
in_list at exprs number = option_map (placed (at + before_in_list spell_expr exprs number)) (slice_get exprs number)

-- ---- in actions

-- the tokens of an action before the list of its choices
abbrev pub before_choices : Action → List Token
before_choices action =
    Reserved (codes "action") ∷ name_token action.name ∷ enclosed spell_param action.params
    ++ (arrow ∷ enclosed spell_out action.outs ++ Reserved (codes "choose") ∷ [])

-- those before its gate
abbrev pub before_gate : Action → List Token
before_gate action =
    before_choices action
    ++ (enclosed spell_choice action.choices
    ++ Reserved (codes "layers") ∷ Number action.first ∷ Reserved (codes "to") ∷ Number action.last ∷ mover_token action.mover
    ∷ Reserved (codes "gate") ∷ [])

-- those before its guard
abbrev pub before_guard : Action → List Token
before_guard action = before_gate action ++ (spell_expr action.gate ++ Reserved (codes "guard") ∷ [])

-- those before its updates
abbrev pub before_updates : Action → List Token
before_updates action = before_guard action ++ (spell_expr action.guard ++ open_brace ∷ [])

-- the tokens of a choice before its offer
abbrev pub before_offer : Choice → List Token
before_offer choice = name_token choice.name ∷ colon ∷ spell_sort choice.sort ++ Sign (codes "=") ∷ []

-- an expression of an action that begins at this token; before that of an update stand `name :=`
abbrev pub in_action : ℕ → Action → InAction → Option Subformula
in_action at action of_action.Gate = Some (placed (at + length (before_gate action)) action.gate)
in_action at action of_action.Guard = Some (placed (at + length (before_guard action)) action.guard)
in_action at action (of_action.Offer number) =
    let list = at + length (before_choices action) in
    option_map (λ choice. placed (list + before_in_list spell_choice action.choices number + length (before_offer choice)) choice.offer)
    (slice_get action.choices number)
in_action at action (of_action.Update number) =
    let updates = at + length (before_updates action) in
    option_map (λ update. placed (updates + length (joined (map spell_update (take number action.updates))) + 2) update.expr)
    (slice_get action.updates number)

-- ---- in procedures and threads

-- the tokens of a procedure before what it refines
abbrev pub before_refines : Proc → List Token
before_refines proc =
    Reserved (codes "proc") ∷ name_token proc.name ∷ enclosed spell_param proc.params ++ (arrow ∷ enclosed spell_out proc.outs)

-- a value for a choice in a procedure that begins at this token: behind `refines name with`
abbrev pub in_with : ℕ → Proc → ℕ → Option Subformula
in_with at proc number = option_and_then (λ refines. in_list (at + length (before_refines proc) + 3) refines.with number) proc.refines

-- an argument of a thread that begins at this token: behind `thread name`
abbrev pub in_thread : ℕ → Thread → ℕ → Option Subformula
in_thread at thread number = in_list (at + 2) thread.args number

-- ---- in statements that begin at this token

-- behind `assert`, `if`, `while`, `while yield` or `while rank`
abbrev pub condition_in : ℕ → Stmt-F Stmt → Option Subformula
condition_in at (Assert fact) = Some (placed (at + 1) fact)
condition_in at (If test first second) = Some (placed (at + 1) test)
condition_in at (While test body) = Some (placed (at + 1) test)
condition_in at (YieldLoop test inv body) = Some (placed (at + 2) test)
condition_in at (RankLoop test rank inv body) = Some (placed (at + 2) test)
condition_in at _ = None

-- behind `while rank`, the condition and `by`
abbrev pub rank_in : ℕ → Stmt-F Stmt → Option Subformula
rank_in at (RankLoop test rank inv body) = Some (placed (at + length (spell_expr test) + 3) rank)
rank_in at _ = None

-- behind `yield`, or behind the other expressions of a loop and `inv`
abbrev pub invariant_in : ℕ → Stmt-F Stmt → Option Subformula
invariant_in at (Yield inv) = Some (placed (at + 1) inv)
invariant_in at (YieldLoop test inv body) = Some (placed (at + length (spell_expr test) + 3) inv)
invariant_in at (RankLoop test rank inv body) = Some (placed (at + length (spell_expr test) + length (spell_expr rank) + 4) inv)
invariant_in at _ = None

-- in the list behind `call name` or `spawn name`
abbrev pub argument_in : ℕ → Stmt-F Stmt → ℕ → Option Subformula
argument_in at (Call callee args results) number = in_list (at + 2) args number
argument_in at (Spawn callee args) number = in_list (at + 2) args number
argument_in at _ number = None

-- behind `name :=` or `intro name :=`
abbrev pub value_in : ℕ → Stmt-F Stmt → Option Subformula
value_in at (Assign target value) = Some (placed (at + 2) value)
value_in at (Intro target value) = Some (placed (at + 3) value)
value_in at _ = None

abbrev pub in_statement : ℕ → Stmt → InStatement → Option Subformula
in_statement at stmt of_statement.Condition = condition_in at (out-Stmt stmt)
in_statement at stmt of_statement.Rank = rank_in at (out-Stmt stmt)
in_statement at stmt of_statement.Invariant = invariant_in at (out-Stmt stmt)
in_statement at stmt (of_statement.Argument number) = argument_in at (out-Stmt stmt) number
in_statement at stmt of_statement.Value = value_in at (out-Stmt stmt)

-- ---- in programs

-- the expression of this name in a program: behind `init`, behind `invariant number`, or in what its name says; none
-- where there is no such thing. Invariants, actions, procedures and threads are named by their place among those of
-- their kind, from 0, and statements by their number.
abbrev pub formula_at : Program → Formula → Option Subformula
formula_at program formula.Init = Some (placed (item_start program (init_item program) + 1) program.init)
formula_at program (formula.Invariant place) =
    option_map (λ inv. placed (item_start program (invariant_item program place) + 2) inv.expr) (slice_get program.invariants place)
formula_at program (formula.Action place part) =
    option_and_then (λ action. in_action (item_start program (action_item program place)) action part) (slice_get program.actions place)
formula_at program (formula.With place number) =
    option_and_then (λ proc. in_with (item_start program (proc_item program place)) proc number) (slice_get program.procs place)
formula_at program (formula.Thread place number) =
    option_and_then (λ thread. in_thread (item_start program (thread_item program place)) thread number) (slice_get program.threads place)
formula_at program (formula.Statement place number part) =
    option_and_then (λ proc. option_and_then (λ stmt. option_and_then (λ at. in_statement at stmt part)
    (statement_start program place number)) (statement_at proc.body number)) (slice_get program.procs place)

-- the token at which it begins
abbrev pub formula_start : Program → Formula → Option ℕ
formula_start program name = option_map (λ part. part.token) (formula_at program name)
