-- When values violate a goal of an outline (Owicki and Gries, 1976: that a statement leads from its note to the next ones,
-- and that it doesn't interfere with the notes of other threads).
use Rattle.std.specs.Prelude.{ℕ, ◌+◌, Bool, false, not, ◌&&◌, List, [], ◌++◌, length, get_or, Option, None, Some, slice_get}
use Rattle.std.specs.Option.{option_map, option_map_or}
use Rattle.civl_bits.specs.declared.value.Value.{Value}
use Rattle.civl_tree.specs.declared.program.Thread.{Thread}
use Rattle.civl_tree.specs.declared.program.Proc.{Proc}
use Rattle.civl_tree.specs.declared.program.Program.{Program}
use Rattle.civl_tree.specs.rules.Names.{names_in_proc}
use Rattle.civl_outlines.specs.declared.outline.Outline.{Outline}
use Rattle.civl_firing.specs.declared.store.Store.{Store}
use Rattle.civl_firing.specs.Eval.{values_of}
use Rattle.civl_firing.specs.Scope.{global_values}
use Rattle.civl_meaning.specs.declared.config.Activation.{Activation}
use Rattle.civl_meaning.specs.declared.config.Change.{Change}
use Rattle.civl_meaning.specs.declared.config.Change.TheVariants.{Goes, Acts, Spawns}
use Rattle.civl_meaning.specs.Permissions.{pairwise_disjoint}
use Rattle.civl_meaning.specs.Meaning.{proc_number}
use Rattle.civl_meaning.specs.Config.{moved_frame}
use Rattle.civl_meaning.specs.Layers.{topmost}
use Rattle.civl_meaning.specs.Change.{new_frame, done_by, proc_doing}
use Rattle.civl_meaning.specs.Failing.{fails_at}
use Rattle.civl_linear.specs.Cuts.{held_numbers}
use Rattle.civl_linear.specs.Held.{traced_proc}
use Rattle.civl_conditions.specs.declared.condition.Condition.TheVariants.{Keep as KeepsPermissions}
use Rattle.civl_conditions.specs.Steps.{of_proc}
use Rattle.civl_conditions.specs.Values.{part, store_of, count_of}
use Rattle.civl_conditions.specs.Permissions.{in_store, of_held}
use Rattle.civl_conditions.specs.Invariants.{meets_init}
use Rattle.civl_conditions.specs.Movers.{on_some}
use Rattle.civl_conditions.specs.Violated.{violated}
use Rattle.civl_goals.specs.declared.goal.Goal.{Goal}
use Rattle.civl_goals.specs.declared.goal.Goal.TheVariants as goal
use Rattle.civl_goals.specs.Outlines.{exists_on_top, invariant_holds, note_holds}
use Rattle.civl_goals.specs.Variables.{frame_count, choices_at}

-- ---- what is assumed of a frame

-- the numbers of the locals that are held before a statement; a number counts the parameters, outputs and locals from 0
abbrev pub held_before : Program → Proc → ℕ → List ℕ
held_before program proc s = held_numbers 0 (names_in_proc proc) (get_or (traced_proc program proc).befores s [])

-- their permissions in a frame
abbrev pub owned_in : Program → Activation → List (List ℕ)
owned_in program frame = of_proc program frame.procedure [] (λ proc. of_held (held_before program proc frame.place) frame.locals)

-- the invariant and the frame's note hold, and the permissions of the linear globals and of the frame are disjoint
abbrev pub assumed : Program → Outline → Store → Activation → Bool
assumed program outline g frame =
    invariant_holds program outline g
    && (note_holds program outline g frame && pairwise_disjoint (in_store program g ++ owned_in program frame))

-- another thread's frame: its note holds, and its permissions are disjoint from these too
abbrev pub beside : Program → Outline → Store → Activation → Activation → Bool
beside program outline g frame other =
    note_holds program outline g other && pairwise_disjoint (in_store program g ++ (owned_in program frame ++ owned_in program other))

-- ---- what the frame's statement does in the topmost program, with these values for the choices

abbrev pub does : Program → Store → Activation → List Value → Change
does program g frame chosen = done_by (topmost program) g chosen (proc_doing (topmost program) None frame (slice_get program.procs frame.procedure))

-- the store behind an action that fired
abbrev pub fired_store : Change → Option Store
fired_store (Acts store locals place) = Some store
fired_store _ = None

-- the first frame of the thread that is spawned
abbrev pub first_frame : Program → Change → Option Activation
first_frame program (Spawns thread place) = option_map (λ proc. new_frame thread.callee proc thread.args) (slice_get program.procs thread.callee)
first_frame program _ = None

-- where the statement leads: the store and the frame then
abbrev pub led_to : Store → Activation → Change → Option (Store × Activation)
led_to g frame (Goes locals place) = Some (g, moved_frame frame locals place)
led_to g frame (Acts store locals place) = Some (store, moved_frame frame locals place)
led_to g frame (Spawns thread place) = Some (g, moved_frame frame frame.locals place)
led_to g frame _ = None

-- ---- what a list of values, one for each variable of a goal, gives to the store, to frames and to choices

abbrev pub store_in : Program → List Value → Store
store_in program values = store_of (exists_on_top program) program values

-- the frame of a root before a statement, whose values stand from this place on
abbrev pub frame_in : Program → List Value → ℕ → ℕ → ℕ → Activation
frame_in program values at r s = record { procedure = r; place = s; locals = part values at (frame_count program r) }

abbrev pub frame_of : Program → List Value → ℕ → ℕ → Activation
frame_of program values r s = frame_in program values (count_of (exists_on_top program) program) r s

abbrev pub behind_frame : Program → ℕ → ℕ
behind_frame program r = count_of (exists_on_top program) program + frame_count program r

abbrev pub chosen_of : Program → List Value → ℕ → ℕ → List Value
chosen_of program values r s = part values (behind_frame program r) (length (choices_at program r s))

abbrev pub other_of : Program → List Value → ℕ → ℕ → ℕ → ℕ → Activation
other_of program values r s q t = frame_in program values (behind_frame program r + length (choices_at program r s)) q t

-- ---- the goals of a statement

-- its note and the invariant are assumed, but a test of what it does fails
abbrev pub step_fails : Program → Outline → List Value → ℕ → ℕ → (Store → Activation → Change → Bool) → Bool
step_fails program outline values r s fails =
    let g = store_in program values in
    let frame = frame_of program values r s in
    assumed program outline g frame && fails g frame (does program g frame (chosen_of program values r s))

abbrev pub loses_invariant : Program → Outline → Store → Activation → Change → Bool
loses_invariant program outline g frame change = on_some (fired_store change) (λ after. not (invariant_holds program outline after))

abbrev pub begins_badly : Program → Outline → Store → Activation → Change → Bool
begins_badly program outline g frame change = on_some (first_frame program change) (λ first. not (note_holds program outline g first))

abbrev pub leads_astray : Program → Outline → Store → Activation → Change → Bool
leads_astray program outline g frame change = on_some (led_to g frame change) (λ q. not (note_holds program outline q.0 q.1))

-- it breaks the note of another thread's frame
abbrev pub interferes : Program → Outline → Activation → Store → Activation → Change → Bool
interferes program outline other g frame change =
    beside program outline g frame other && on_some (fired_store change) (λ after. not (note_holds program outline after other))

-- ---- the goals of beginnings

-- the first frame of a declared thread, where its procedure is called in this store
abbrev pub thread_frame : Program → Store → Thread → Option Activation
thread_frame program g thread =
    let number = proc_number program thread.callee in
    option_map (λ proc. new_frame number proc (values_of (global_values program.globals g) thread.args)) (slice_get program.procs number)

abbrev pub thread_fails : Program → Outline → Store → Thread → Bool
thread_fails program outline g thread = on_some (thread_frame program g thread) (λ first. not (note_holds program outline g first))

-- ---- all

-- the values, one for each variable of the goal in their order, meet what the goal assumes and not what it concludes
unfoldable pub failed : Program → Outline → Goal → List Value → Bool
failed program outline goal.Invariant values =
    let g : Store = record { values = values } in
    meets_init program g && not (invariant_holds program outline g)
failed program outline (goal.Thread i) values =
    let g : Store = record { values = values } in
    meets_init program g && option_map_or (thread_fails program outline g) (slice_get program.threads i) false
failed program outline (goal.Linear x) values = violated program (KeepsPermissions (program.layers + 1) x) values
failed program outline (goal.Safe r s) values =
    step_fails program outline values r s (λ g frame change. fails_at (topmost program) g (proc_doing (topmost program) None frame (slice_get program.procs r)))
failed program outline (goal.Keep r s) values = step_fails program outline values r s (loses_invariant program outline)
failed program outline (goal.Spawn r s) values = step_fails program outline values r s (begins_badly program outline)
failed program outline (goal.Next r s) values = step_fails program outline values r s (leads_astray program outline)
failed program outline (goal.Other r s q t) values =
    step_fails program outline values r s (interferes program outline (other_of program values r s q t))
