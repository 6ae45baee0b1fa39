-- A frame that goes through a block of its procedure follows a path: it stands where the path from the block's cut stands,
-- which is a function of the values at its beginning and of the choices of its calls, of which those that were made are
-- known. (Blocks between yields: Hawblitzel, Petrank, Qadeer, Tasiran, CAV 2015; Kragl, Qadeer, CAV 2018. Choices that are
-- known before they are made: prophecy variables, Abadi, Lamport, The existence of refinement mappings, 1991.)
use Rattle.std.specs.Prelude.{ℕ, ◌+◌, ◌-◌, ◌<◌, ◌≤◌, ◌≡◌, Bool, true, false, nat_eq, if◌then◌else◌, ◌⊎◌, List, [], Option, None, Some}
use Rattle.std.specs.Option.{option_map_or}
use Rattle.civl_bits.specs.declared.value.Value.{Value}
use Rattle.civl_tree.specs.declared.program.Proc.{Proc}
use Rattle.civl_tree.specs.declared.program.Program.{Program}
use Rattle.civl_tree.specs.declared.stmt.Stmt.{Stmt, out-Stmt}
use Rattle.civl_tree.specs.declared.stmt.Stmt.TheOpen as stmt
use Rattle.civl_tree.specs.Numbering.{statement_at}
use Rattle.civl_firing.specs.declared.store.Store.{Store}
use Rattle.civl_meaning.specs.declared.config.Activation.{Activation}
use Rattle.civl_meaning.specs.declared.config.Stepped.TheVariants as answer
use Rattle.civl_meaning.specs.declared.config.Change.{Change}
use Rattle.civl_meaning.specs.declared.config.Change.TheVariants.{Stays, Goes, Acts}
use Rattle.civl_meaning.specs.Places.{Spot, spot_at}
use Rattle.civl_meaning.specs.Rest.{rest_at}
use Rattle.civl_meaning.specs.Change.{done_by, statement_doing}
use Rattle.civl_meaning.specs.Config.{moved_frame}
use Rattle.civl_meaning.specs.Layers.{program_at}
use Rattle.civl_layers.specs.declared.cut.Cut.{Cut}
use Rattle.civl_layers.specs.Layered.{IsLayered}
use Rattle.civl_conditions.specs.footprints.Agreement.{StoresAgree, exists_at}
use Rattle.civl_conditions.specs.paths.Paths.{Progress, Past, Comes, path_from, has_failed}
use Rattle.civl_conditions.specs.paths.Runs.{Standing, comes_to, led, yield_before, Stands, advance}
use Rattle.civl_conditions.specs.paths.Seen.{IsProcOf, lower_course}

-- ---- choices

-- the same choices for each number below this one
abbrev pub SameBelow : ℕ → (ℕ → List Value) → (ℕ → List Value) → Type 0
SameBelow bound chosen others = (number : ℕ) → number < bound → chosen number ≡ others number

-- the choices, with these values for one number
abbrev pub with_choices : (ℕ → List Value) → ℕ → List Value → ℕ → List Value
with_choices chosen number values other = if nat_eq other number then values else chosen other

-- ---- places

-- a loop; a path that comes to one ends there
abbrev pub form_loops : stmt.Stmt-F Stmt → Bool
form_loops (stmt.While e a) = true
form_loops (stmt.YieldLoop e i a) = true
form_loops (stmt.RankLoop e r i a) = true
form_loops _ = false

-- what comes next has no number below this one, or is a loop
abbrev pub IsNotBelow : ℕ → Option Spot → Type 0
IsNotBelow bound None = Unit {0}
IsNotBelow bound (Some s) = (bound ≤ s.number) ⊎ (form_loops (out-Stmt s.stmt) ≡ true)

-- the number of a loop that is a cut
abbrev pub layer_head : ℕ → stmt.Stmt-F Stmt → Option ℕ
layer_head number (stmt.YieldLoop e i a) = Some number
layer_head number (stmt.RankLoop e r i a) = Some number
layer_head number _ = None

abbrev pub head_there : Option Spot → Option ℕ
head_there None = None
head_there (Some s) = layer_head s.number (out-Stmt s.stmt)

-- the number of the cut before which a frame stands at a place: nothing but commits and intros comes before it
abbrev pub cut_ahead : List Stmt → ℕ → Option ℕ
cut_ahead body place = option_map_or (λ number. Some number) (yield_before (rest_at body place)) (head_there (spot_at body place))

-- a plain loop stands in no procedure that refines an action (E52)
abbrev pub form_plain : stmt.Stmt-F Stmt → Bool
form_plain (stmt.While e a) = true
form_plain _ = false

abbrev pub HasNoPlainLoops : Proc → Type 0
HasNoPlainLoops proc = (number : ℕ) (s : Stmt) → statement_at proc.body number ≡ Some s → form_plain (out-Stmt s) ≡ false

-- the state there, behind the commits and intros that come before the next step; these read no choices
abbrev pub led_here : Program → ℕ → Proc → Standing → Progress
led_here program step proc here = led (lower_course program step proc (λ number. [])) (rest_at proc.body here.place) here.state

-- ---- following

-- From this beginning at the cut the path with these choices stands here: whatever is chosen for the numbers from the bound
-- on, it comes to what it comes to from here; and no call with a number below the bound is still to come.
pub record IsOnPath (program : Program) (step : ℕ) (proc : Proc) (cut : Cut) (from : Progress) (chosen : ℕ → List Value) (bound : ℕ) (here : Standing) : Type 0 where
  pub comes : (others : ℕ → List Value) → SameBelow bound chosen others → path_from (lower_course program step proc others) cut from ≡ comes_to (lower_course program step proc others) here
  pub ahead : IsNotBelow bound (spot_at proc.body here.place)

-- A frame stands so too: before the same statement, with the same locals, in a store that agrees on the globals of the lower
-- program. (An introduced global has in the lower program no value that matters.)
pub record StandsAlike (program : Program) (step : ℕ) (proc : Proc) (here : Standing) (store : Store) (frame : Activation) : Type 0 where
  pub spot : spot_at proc.body here.place ≡ spot_at proc.body frame.place
  pub locals : here.state.locals ≡ frame.locals
  pub stores : StoresAgree (exists_at (step - 1)) program.globals here.state.store store

-- a frame follows the path
pub record Follows (program : Program) (step : ℕ) (proc : Proc) (cut : Cut) (from : Progress) (chosen : ℕ → List Value) (bound : ℕ) (here : Standing) (store : Store) (frame : Activation) : Type 0 where
  pub on_path : IsOnPath program step proc cut from chosen bound here
  pub alike : StandsAlike program step proc here store frame

-- a frame in its step, in the lower program
abbrev pub frame_does : Program → ℕ → Proc → Store → List Value → Activation → Spot → Change
frame_does program step proc store values frame s = done_by (program_at program (step - 1)) store values (statement_doing (program_at program (step - 1)) proc frame.locals s.number s.next (out-Stmt s.stmt))

-- the path stands one step further, with this store, and the frame follows it there
pub record FollowsOn (program : Program) (step : ℕ) (proc : Proc) (cut : Cut) (from : Progress) (chosen : ℕ → List Value) (bound : ℕ) (here : Standing) (inner store : Store) (frame : Activation) : Type 0 where
  pub next : Standing
  pub goes : advance (lower_course program step proc chosen) here ≡ Stands next
  pub place : next.place ≡ frame.place
  pub state : next.state ≡ record { store = inner; locals = frame.locals; done = (led_here program step proc here).done; again = (led_here program step proc here).again }
  pub follows : Follows program step proc cut from chosen bound next store frame

-- What a step with these values for its choices, of the statement at this spot, makes of following: the frame follows on, and
-- what an action does to its store it does to the path's; and where the step fails, so does the path.
abbrev pub StepFollows : Program → ℕ → Proc → Cut → Progress → (ℕ → List Value) → Spot → List Value → Standing → Store → Activation → Change → Type 0
StepFollows program step proc cut from chosen s values here store frame (Goes locals place) =
    FollowsOn program step proc cut from (with_choices chosen s.number values) (s.number + 1) here (led_here program step proc here).store store (moved_frame frame locals place)
StepFollows program step proc cut from chosen s values here store frame (Acts after locals place) =
    (inner : Store) × (frame_does program step proc (led_here program step proc here).store values frame s ≡ Acts inner locals place)
    × FollowsOn program step proc cut from (with_choices chosen s.number values) (s.number + 1) here inner after (moved_frame frame locals place)
StepFollows program step proc cut from chosen s values here store frame (Stays answer.Failing) = has_failed (path_from (lower_course program step proc chosen) cut from) ≡ true
StepFollows program step proc cut from chosen s values here store frame _ = Unit {0}

-- a frame that follows a path and stands before no cut follows it on in each step
abbrev pub FramesFollow : Type 0
FramesFollow =
    (program : Program) (number step : ℕ) (proc : Proc) (cut : Cut) (from : Progress) (chosen : ℕ → List Value) (bound : ℕ) (here : Standing) (store : Store) (frame : Activation) (values : List Value) (s : Spot)
    → IsLayered program → IsProcOf program number step proc → HasNoPlainLoops proc
    → Follows program step proc cut from chosen bound here store frame → cut_ahead proc.body here.place ≡ None → spot_at proc.body frame.place ≡ Some s
    → (bound ≤ s.number) × StepFollows program step proc cut from chosen s values here store frame (frame_does program step proc store values frame s)

-- where the path has ended: before a cut, or behind all statements
abbrev pub FramesArrive : Type 0
FramesArrive =
    (program : Program) (step : ℕ) (proc : Proc) (cut : Cut) (from : Progress) (chosen : ℕ → List Value) (bound : ℕ) (here : Standing)
    → IsOnPath program step proc cut from chosen bound here
    → ((number : ℕ) → cut_ahead proc.body here.place ≡ Some number
    → path_from (lower_course program step proc chosen) cut from ≡ Comes number (led_here program step proc here))
    × (cut_ahead proc.body here.place ≡ None → spot_at proc.body here.place ≡ None
    → path_from (lower_course program step proc chosen) cut from ≡ Past (led_here program step proc here))
