-- By what values violate a goal of an outline (proof outlines and interference: Owicki and Gries, An axiomatic proof technique for
-- parallel programs I, Acta Informatica, 1976).
use Rattle.std.specs.Prelude.{ℕ, ◌+◌, ◌&&◌, not, if◌then◌else◌, List, map, Option, None, Some, option_map, option_and_then, slice_get}
use Rattle.civl_bits.specs.declared.value.Value.{Value}
use Rattle.civl_tree.specs.declared.action.Action.{Action}
use Rattle.civl_tree.specs.declared.program.Program.{Program}
use Rattle.civl_tree.specs.declared.program.Thread.{Thread}
use Rattle.civl_outlines.specs.declared.outline.Outline.{Outline}
use Rattle.civl_firing.specs.declared.store.Store.{Store}
use Rattle.civl_firing.specs.Fired.{gate_holds}
use Rattle.civl_firing.specs.Truth.{place_of}
use Rattle.civl_meaning.specs.declared.config.Activation.{Activation}
use Rattle.civl_meaning.specs.declared.config.Change.{Change}
use Rattle.civl_meaning.specs.Layers.{topmost}
use Rattle.civl_meaning.specs.Change.{Doing, Fails as Failing, Calls, proc_doing}
use Rattle.civl_conditions.specs.declared.condition.Condition.TheVariants.{Keep as KeepsPermissions}
use Rattle.civl_conditions.specs.Invariants.{meets_init}
use Rattle.civl_clashes.specs.declared.violations.Violation.{Violation}
use Rattle.civl_clashes.specs.declared.violations.Violation.TheVariants.{Loses as LosesPermissions}
use Rattle.civl_clashes.specs.Told.{violation}
use Rattle.civl_goals.specs.declared.goal.Goal.{Goal}
use Rattle.civl_goals.specs.declared.goal.Goal.TheVariants as goal
use Rattle.civl_goals.specs.Outlines.{invariant_holds, note_holds}
use Rattle.civl_goals.specs.Failed.{assumed, beside, does, first_frame, led_to, store_in, frame_of, chosen_of, other_of, thread_frame}
use Rattle.civl_goal_losses.specs.declared.losses.Moment.{Moment}
use Rattle.civl_goal_losses.specs.declared.losses.Fault.{Fault}
use Rattle.civl_goal_losses.specs.declared.losses.Fault.TheVariants.{FalseGate, FalseAssert}
use Rattle.civl_goal_losses.specs.declared.losses.GoalLoss.{GoalLoss}
use Rattle.civl_goal_losses.specs.declared.losses.GoalLoss.TheVariants.{Starts, Begins, Loses, Fails, Breaks, Leads, Interferes}

abbrev pub moment : Store → Activation → Moment
moment g frame = record { store = g; frame = frame }

-- ---- beginnings

-- an initial store in which the invariant is false
abbrev pub start_loss : Program → Outline → Store → Option GoalLoss
start_loss program outline g = if meets_init program g && not (invariant_holds program outline g) then Some (Starts g) else None

-- a first frame of which the first note is false
abbrev pub begin_loss : Program → Outline → Store → Activation → Option GoalLoss
begin_loss program outline g first = if note_holds program outline g first then None else Some (Begins (moment g first))

-- that of a declared thread in an initial store
abbrev pub thread_loss : Program → Outline → Store → Thread → Option GoalLoss
thread_loss program outline g thread = option_and_then (begin_loss program outline g) (thread_frame program g thread)

-- that of the declared thread with this number
abbrev pub first_loss : Program → Outline → ℕ → Store → Option GoalLoss
first_loss program outline i g =
    if meets_init program g then option_and_then (thread_loss program outline g) (slice_get program.threads i) else None

-- ---- permissions, as in K2

abbrev pub as_loss : Violation → Option GoalLoss
as_loss (LosesPermissions g x a loss) = Some (Loses g x a loss)
as_loss _ = None

abbrev pub linear_loss : Program → ℕ → List Value → Option GoalLoss
linear_loss program x values = option_and_then as_loss (violation program (KeepsPermissions (program.layers + 1) x) values)

-- ---- the statement of a frame

-- what it does in the topmost program
abbrev pub doing_at : Program → Activation → Doing
doing_at program frame = proc_doing (topmost program) None frame (slice_get program.procs frame.procedure)

abbrev pub action_number : Program → Action → ℕ
action_number program action = place_of (map (λ a. a.name) program.actions) action.name

abbrev pub gate_fault : Program → Store → Action → List Value → Option Fault
gate_fault program g action args =
    if gate_holds program.globals g action args then None else Some (FalseGate (action_number program action) args)

-- the call whose gate is false, or the assert that is
abbrev pub fault : Program → Store → Doing → Option Fault
fault program g Failing = Some FalseAssert
fault program g (Calls names locals results next action args) = gate_fault program g action args
fault program g _ = None

abbrev pub safe_loss : Program → Store → Activation → Change → Option GoalLoss
safe_loss program g frame change = option_map (Fails (moment g frame)) (fault program g (doing_at program frame))

-- where it leads
abbrev pub reached : Store → Activation → Change → Option Moment
reached g frame change = option_map (λ q. moment q.0 q.1) (led_to g frame change)

-- there the invariant is false; what isn't a call leaves the store, in which the invariant is assumed
abbrev pub broken_there : Program → Outline → Moment → Moment → Option GoalLoss
broken_there program outline here there = if invariant_holds program outline there.store then None else Some (Breaks here there)

abbrev pub keep_loss : Program → Outline → Store → Activation → Change → Option GoalLoss
keep_loss program outline g frame change = option_and_then (broken_there program outline (moment g frame)) (reached g frame change)

-- the procedure that it spawns begins with a false note
abbrev pub spawn_loss : Program → Outline → Store → Activation → Change → Option GoalLoss
spawn_loss program outline g frame change = option_and_then (begin_loss program outline g) (first_frame program change)

-- there the note is false before which the frame then stands
abbrev pub astray_there : Program → Outline → Moment → Moment → Option GoalLoss
astray_there program outline here there = if note_holds program outline there.store there.frame then None else Some (Leads here there)

abbrev pub next_loss : Program → Outline → Store → Activation → Change → Option GoalLoss
next_loss program outline g frame change = option_and_then (astray_there program outline (moment g frame)) (reached g frame change)

-- there the note of another thread's frame is false, which held before
abbrev pub spoiled_there : Program → Outline → Activation → Moment → Moment → Option GoalLoss
spoiled_there program outline other here there =
    if note_holds program outline there.store other then None else Some (Interferes here there other)

abbrev pub other_loss : Program → Outline → Activation → Store → Activation → Change → Option GoalLoss
other_loss program outline other g frame change =
    if beside program outline g frame other
    then option_and_then (spoiled_there program outline other (moment g frame)) (reached g frame change)
    else None

-- where its note and the invariant hold, what is told of what it does
abbrev pub step_loss : Program → Outline → List Value → ℕ → ℕ → (Store → Activation → Change → Option GoalLoss) → Option GoalLoss
step_loss program outline values r s loss =
    let g = store_in program values in
    let frame = frame_of program values r s in
    if assumed program outline g frame then loss g frame (does program g frame (chosen_of program values r s)) else None

-- ---- all

-- by what the values, one for each variable of the goal in their order, violate it; nothing where they don't
unfoldable pub goal_loss : Program → Outline → Goal → List Value → Option GoalLoss
goal_loss program outline goal.Invariant values = start_loss program outline (record { values = values })
goal_loss program outline (goal.Thread i) values = first_loss program outline i (record { values = values })
goal_loss program outline (goal.Linear x) values = linear_loss program x values
goal_loss program outline (goal.Safe r s) values = step_loss program outline values r s (safe_loss program)
goal_loss program outline (goal.Keep r s) values = step_loss program outline values r s (keep_loss program outline)
goal_loss program outline (goal.Spawn r s) values = step_loss program outline values r s (spawn_loss program outline)
goal_loss program outline (goal.Next r s) values = step_loss program outline values r s (next_loss program outline)
goal_loss program outline (goal.Other r s q t) values =
    step_loss program outline values r s (other_loss program outline (other_of program values r s q t))
