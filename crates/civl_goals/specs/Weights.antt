-- The weights of the formulas of goals: the sizes of their circuits, counted in advance.
use Rattle.std.specs.Prelude.{ℕ, ◌+◌, ◌*◌, nat_eq, nat_lt, if◌then◌else◌, List, [], ◌∷◌, length, Option, slice_get}
use Rattle.std.specs.List.{find}
use Rattle.std.specs.Option.{option_map_or}
use Rattle.civl_tree.specs.declared.stmt.Stmt.{Stmt, out-Stmt}
use Rattle.civl_tree.specs.declared.stmt.Stmt.TheOpen.{Stmt-F, Assign, Assert, If, While, YieldLoop, RankLoop, Call, Yield, Commit, Intro, Spawn}
use Rattle.civl_tree.specs.declared.program.Proc.{Proc}
use Rattle.civl_tree.specs.declared.program.Program.{Program}
use Rattle.civl_tree.specs.Numbering.{sizes_of}
use Rattle.civl_firing.specs.values.ActionWeights.{action_weight}
use Rattle.civl_outlines.specs.declared.outline.Outline.{Outline}
use Rattle.civl_meaning.specs.Places.{Spot, start_of, spot_at}
use Rattle.civl_meaning.specs.Meaning.{called, proc_number}
use Rattle.civl_meaning.specs.Layers.{topmost}
use Rattle.civl_conditions.specs.paths.Choices.{action_meant}
use Rattle.civl_conditions.specs.declared.condition.Condition.TheVariants.{Keep as KeepsPermissions}
use Rattle.civl_conditions.specs.Steps.{of_proc}
use Rattle.civl_conditions.specs.Weights.{weight_limit, lin, bits_of_variables, weights_of, global_weight, body_weight, note_weight, linear_globals, initial_own, own_weight as condition_own}
use Rattle.civl_goals.specs.declared.goal.Goal.{Goal}
use Rattle.civl_goals.specs.declared.goal.Goal.TheVariants as goal
use Rattle.civl_goals.specs.Outlines.{written_before}
use Rattle.civl_goals.specs.Variables.{variables}
use Rattle.civl_goals.specs.Failed.{held_before}
use Rattle.civl_goals.specs.Listed.{goals}

-- ---- what is said

abbrev pub invariant_weight : Program → Outline → ℕ
invariant_weight program outline = weights_of (global_weight program) outline.holds

-- a note that isn't written is `true`
abbrev pub note_before_weight : Program → Outline → ℕ → ℕ → ℕ
note_before_weight program outline r s = of_proc program r 1 (λ proc. option_map_or (λ note. note_weight program proc note.expr) (written_before program outline r s) 1)

-- the first note of the procedure of this number
abbrev pub first_note_weight : Program → Outline → ℕ → ℕ
first_note_weight program outline r = note_before_weight program outline r 0

-- ---- the statement

-- its expressions, and all of the action that it calls
abbrev pub form_weight : Program → Proc → Stmt-F Stmt → ℕ
form_weight program proc (Assign x e) = body_weight program proc e
form_weight program proc (Assert e) = body_weight program proc e
form_weight program proc (If e a b) = body_weight program proc e
form_weight program proc (While e a) = body_weight program proc e
form_weight program proc (YieldLoop e i a) = body_weight program proc e
form_weight program proc (RankLoop e r i a) = body_weight program proc e
form_weight program proc (Call f es rs) = weights_of (body_weight program proc) es + option_map_or (action_weight program) (action_meant (called (topmost program) f)) 0
form_weight program proc (Yield i) = 0
form_weight program proc Commit = 0
form_weight program proc (Intro x e) = 0
form_weight program proc (Spawn f es) = weights_of (body_weight program proc) es

-- the places that can be reached, each once
abbrev pub once : ℕ → ℕ → List ℕ
once a b = if nat_eq a b then a ∷ [] else a ∷ b ∷ []

abbrev pub form_reaches : ℕ → ℕ → Stmt-F Stmt → List ℕ
form_reaches at next (If e a b) = once (start_of a (at + 1) next) (start_of b (at + 1 + sizes_of a) next)
form_reaches at next (While e a) = once (start_of a (at + 1) at) next
form_reaches at next (YieldLoop e i a) = once (start_of a (at + 1) at) next
form_reaches at next (RankLoop e r i a) = once (start_of a (at + 1) at) next
form_reaches at next _ = next ∷ []

abbrev pub summed_at : (ℕ → ℕ) → List ℕ → ℕ
summed_at f [] = 0
summed_at f (n ∷ ns) = f n + summed_at f ns

-- ---- the goals of a statement

-- the first note of the procedure that is spawned
abbrev pub form_begins : Program → Outline → Stmt-F Stmt → ℕ
form_begins program outline (Spawn f es) = first_note_weight program outline (proc_number program f)
form_begins program outline _ = 0

-- the items of the linear globals and of this frame
abbrev pub items_at : Program → ℕ → ℕ → ℕ
items_at program r s = linear_globals program + of_proc program r 0 (λ proc. length (held_before program proc s))

-- the invariant, the note before the statement, the statement and what else the goal names count twice; so many items are
-- pairwise disjoint
abbrev pub statement_weight : Program → Outline → ℕ → ℕ → ℕ → (Spot → ℕ) → ℕ
statement_weight program outline r s items named =
    of_proc program r 0 (λ proc. option_map_or (λ spot.
    2 * (invariant_weight program outline + note_before_weight program outline r s + form_weight program proc (out-Stmt spot.stmt) + named spot) + lin program items + 1)
    (spot_at proc.body s) 0)

-- ---- all

abbrev pub own_weight : Program → Outline → Goal → ℕ
own_weight program outline goal.Invariant = 2 * invariant_weight program outline + initial_own program + 1
own_weight program outline (goal.Thread i) =
    2 * (invariant_weight program outline + option_map_or (λ t. first_note_weight program outline (proc_number program t.callee)) (slice_get program.threads i) 0)
    + initial_own program + 1
own_weight program outline (goal.Linear x) = condition_own program (KeepsPermissions (program.layers + 1) x)
own_weight program outline (goal.Safe r s) = statement_weight program outline r s (items_at program r s) (λ spot. 0)
own_weight program outline (goal.Keep r s) = statement_weight program outline r s (items_at program r s) (λ spot. 0)
own_weight program outline (goal.Spawn r s) = statement_weight program outline r s (items_at program r s) (λ spot. form_begins program outline (out-Stmt spot.stmt))
own_weight program outline (goal.Next r s) =
    statement_weight program outline r s (items_at program r s)
    (λ spot. summed_at (note_before_weight program outline r) (form_reaches spot.number spot.next (out-Stmt spot.stmt)))
own_weight program outline (goal.Other r s q t) =
    statement_weight program outline r s (items_at program r s + of_proc program q 0 (λ proc. length (held_before program proc t))) (λ spot. note_before_weight program outline q t)

unfoldable pub weight : Program → Outline → Goal → ℕ
weight program outline goal = bits_of_variables (variables program goal) + own_weight program outline goal

-- the first formula that weighs too much
abbrev pub heavy : Program → Outline → Option Goal
heavy program outline = find (λ goal. nat_lt weight_limit (weight program outline goal)) (goals program outline)
