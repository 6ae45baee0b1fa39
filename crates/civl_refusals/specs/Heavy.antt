-- Where a formula that weighs too much is told: at what its condition or its goal is about. Of what there isn't, at `init`.
use Rattle.std.specs.Prelude.{ℕ, nat_lt, if◌then◌else◌, List, length, codes, Option, None, Some}
use Rattle.civl_tree.specs.declared.program.Proc.{Proc}
use Rattle.civl_tree.specs.declared.program.Program.{Program}
use Rattle.civl_tree.specs.Numbering.{action_item, invariant_item, proc_item, thread_item}
use Rattle.civl_lex.specs.declared.token.Token.{Token as Placed}
use Rattle.civl_layers.specs.declared.cut.Cut.{Cut}
use Rattle.civl_conditions.specs.declared.condition.Condition.{Condition}
use Rattle.civl_conditions.specs.declared.condition.Condition.TheVariants as condition
use Rattle.civl_conditions.specs.Steps.{of_cut}
use Rattle.civl_conditions.specs.paths.Ends.{is_entry}
use Rattle.civl_goals.specs.declared.goal.Goal.{Goal}
use Rattle.civl_goals.specs.declared.goal.Goal.TheVariants as goal
use Rattle.civl_places.specs.Starts.{statement_start}
use Rattle.civl_action_stories.specs.Starts.{invariant_place}
use Rattle.civl_lines.specs.declared.render.Form.{Form}
use Rattle.civl_refusals.specs.declared.spot.Spot.{Spot}
use Rattle.civl_refusals.specs.Refusals.{at_item, init_spot, spot_told}

-- ---- items and statements

-- the invariant at this place among all
abbrev pub invariant_spot : Program → ℕ → Spot
invariant_spot program place =
    if nat_lt place (length program.invariants) then at_item (invariant_item program place) else init_spot program

-- the action with this number
abbrev pub action_spot : Program → ℕ → Spot
action_spot program x = if nat_lt x (length program.actions) then at_item (action_item program x) else init_spot program

-- the declared thread with this number
abbrev pub thread_spot : Program → ℕ → Spot
thread_spot program i = if nat_lt i (length program.threads) then at_item (thread_item program i) else init_spot program

-- the procedure with this number
abbrev pub proc_spot : Program → ℕ → Spot
proc_spot program q = if nat_lt q (length program.procs) then at_item (proc_item program q) else init_spot program

-- a statement of it, or its exit
abbrev pub statement_spot : Program → ℕ → ℕ → Spot
statement_spot program q statement =
    if nat_lt q (length program.procs)
    then record { item = proc_item program q; inside = statement_start program q statement }
    else init_spot program

-- a cut of it: the entry is the procedure itself, any other cut is a statement
abbrev pub spot_of_cut : Program → ℕ → Cut → Spot
spot_of_cut program q cut = if is_entry cut.kind then proc_spot program q else statement_spot program q cut.statement

-- the cut with this number of the procedure with this number
abbrev pub cut_spot : Program → ℕ → ℕ → Spot
cut_spot program q c = of_cut program q c (init_spot program) (λ (proc : Proc) cut. spot_of_cut program q cut)

-- ---- conditions and goals

-- of a condition: the invariant of K1; the action, of K3 to K7 the first of the two; the cut of K9 and K10
abbrev pub condition_spot : Program → Condition → Spot
condition_spot program (condition.Start step i) = invariant_spot program (invariant_place step program.invariants i)
condition_spot program (condition.Keep step x) = action_spot program x
condition_spot program (condition.Pair number step x y) = action_spot program x
condition_spot program (condition.Fire step x) = action_spot program x
condition_spot program (condition.Path part step q c) = cut_spot program q c
condition_spot program (condition.Block step q c target) = cut_spot program q c
condition_spot program (condition.Act step x target) = action_spot program x

-- of the search for an initial store, or of a condition
abbrev pub formula_spot : Program → Option Condition → Spot
formula_spot program None = init_spot program
formula_spot program (Some condition) = condition_spot program condition

-- of a goal: `init` for the invariant, the declared thread, the action, and the statement from which a frame goes on
abbrev pub goal_spot : Program → Goal → Spot
goal_spot program goal.Invariant = init_spot program
goal_spot program (goal.Thread i) = thread_spot program i
goal_spot program (goal.Linear x) = action_spot program x
goal_spot program (goal.Safe r s) = statement_spot program r s
goal_spot program (goal.Keep r s) = statement_spot program r s
goal_spot program (goal.Spawn r s) = statement_spot program r s
goal_spot program (goal.Next r s) = statement_spot program r s
goal_spot program (goal.Other r s q t) = statement_spot program r s

-- ---- what is told

abbrev pub heavy_text : List ℕ
heavy_text = codes "its formula weighs too much"

-- the first formula of a program that weighs too much: that of a condition, or of the search for an initial store
abbrev pub heavy_told : Form → List ℕ → List Placed → Program → Option Condition → List ℕ
heavy_told form bytes tokens program formula = spot_told form bytes tokens program (formula_spot program formula) heavy_text

-- the first goal of an outline that weighs too much
abbrev pub heavy_goal_told : Form → List ℕ → List Placed → Program → Goal → List ℕ
heavy_goal_told form bytes tokens program goal = spot_told form bytes tokens program (goal_spot program goal) heavy_text
