-- Blocks that are open: a thread goes through a block of its topmost frame, and all that the conditions assume held at the
-- cut from which its path goes. (Blocks between yields: Hawblitzel, Petrank, Qadeer, Tasiran, CAV 2015; Kragl, Qadeer, CAV
-- 2018; cut points and ranks: Floyd, Assigning meanings to programs, 1967.)
use Rattle.std.specs.Prelude.{ℕ, ◌+◌, ◌-◌, ◌<◌, ◌≡◌, true, false, List, ◌⊎◌, None, Some, slice_get, All, map}
use Rattle.std.specs.List.{Contains}
use Rattle.civl_bits.specs.Value.{IsValue}
use Rattle.civl_bits.specs.declared.value.Value.{Value}
use Rattle.civl_tree.specs.declared.action.Choice.{Choice}
use Rattle.civl_tree.specs.declared.program.Proc.{Proc}
use Rattle.civl_tree.specs.declared.program.Program.{Program}
use Rattle.civl_tree.specs.declared.stmt.Stmt.{out-Stmt}
use Rattle.civl_tree.specs.rules.Rules.{Keeps}
use Rattle.civl_firing.specs.values.Values.{HaveSorts}
use Rattle.civl_firing.specs.declared.store.Store.{Store}
use Rattle.civl_firing.specs.Stores.{IsStore}
use Rattle.civl_meaning.specs.declared.config.Activation.{Activation}
use Rattle.civl_meaning.specs.declared.config.State.TheVariants.{Inside}
use Rattle.civl_meaning.specs.declared.config.Running.{Running}
use Rattle.civl_meaning.specs.declared.config.Stepped.TheVariants as answer
use Rattle.civl_meaning.specs.declared.config.Change.{Change}
use Rattle.civl_meaning.specs.declared.config.Change.TheVariants.{Stays, Goes, Acts}
use Rattle.civl_meaning.specs.Permissions.{pairwise_disjoint}
use Rattle.civl_meaning.specs.Places.{Spot, spot_at}
use Rattle.civl_meaning.specs.Change.{change_of}
use Rattle.civl_meaning.specs.Config.{frame_sorts, ThreadIsSorted, IsStacked, moved_frame}
use Rattle.civl_meaning.specs.Layers.{program_at}
use Rattle.civl_layers.specs.declared.cut.Cut.{Cut}
use Rattle.civl_layers.specs.declared.cut.CutKind.TheVariants as kind
use Rattle.civl_layers.specs.Cuts.{proc_cuts}
use Rattle.civl_layers.specs.Layered.{IsLayered}
use Rattle.civl_linear.specs.LinearRules.{linear_rules}
use Rattle.civl_yields.specs.YieldRules.{yield_rules}
use Rattle.civl_conditions.specs.footprints.Agreement.{StoresAgree, exists_at}
use Rattle.civl_conditions.specs.paths.Paths.{Progress}
use Rattle.civl_conditions.specs.paths.Runs.{Standing, begins_at, Stands, advance}
use Rattle.civl_conditions.specs.paths.Ends.{is_rank_loop, exit_of, cut_number}
use Rattle.civl_conditions.specs.paths.Seen.{IsProcOf, lower_course}
use Rattle.civl_conditions.specs.Variables.{passed_choices}
use Rattle.civl_conditions.specs.Values.{Begun}
use Rattle.civl_conditions.specs.Assumed.{inputs_of, owned}
use Rattle.civl_conditions.specs.Violated.{AllHold}
use Rattle.civl_reduction.specs.open_blocks.Ends.{IsAssumed, Concludes}
use Rattle.civl_reduction.specs.open_blocks.Following.{layer_head, cut_ahead, led_here, StandsAlike, Follows, frame_does}

-- ---- programs and threads

-- a program that keeps the rules, all of whose conditions hold
pub record IsSound (program : Program) : Type 0 where
  pub layered : IsLayered program
  pub linear : Keeps linear_rules program
  pub yields : Keeps yield_rules program
  pub hold : AllHold program

-- the topmost frame of a thread of the lower program is this one, of the procedure with this number; all values have their
-- sorts
pub record IsTopmost (program : Program) (step q : ℕ) (thread : Running) (frame : Activation) : Type 0 where
  pub below : List Activation
  pub inside : thread.state ≡ Inside below frame
  pub procedure : frame.procedure ≡ q
  pub sorted : ThreadIsSorted (program_at program (step - 1)) thread
  pub stacked : IsStacked (program_at program (step - 1)) thread

-- ---- beginnings

-- where a path begins
abbrev pub beginning : Begun → Progress
beginning b = record { store = b.store; locals = b.locals; done = b.done; again = false }

-- the beginning with other choices
abbrev pub choosing : Begun → (ℕ → List Value) → Begun
choosing b chosen = record { store = b.store; locals = b.locals; done = b.done; old = b.old; old_outs = b.old_outs; old_done = b.old_done; chosen = chosen }

-- a path that begins behind another one of its block: with the present values of this state and the same old ones
abbrev pub begun_again : Begun → Progress → (ℕ → List Value) → Begun
begun_again b p chosen = record { store = p.store; locals = p.locals; done = p.done; old = b.old; old_outs = b.old_outs; old_done = b.old_done; chosen = chosen }

-- ---- open blocks

-- From the cut a path goes, with all assumed there, and the frame follows it; so far its store has values of their sorts, the
-- parameters are those of its beginning, and a commit that was passed stays so.
pub record IsOpen (program : Program) (step q c : ℕ) (proc : Proc) (cut : Cut) (b : Begun) (bound : ℕ) (here : Standing) (store : Store) (frame : Activation) : Type 0 where
  pub assumed : IsAssumed program step q c proc cut b
  pub follows : Follows program step proc cut (beginning b) b.chosen bound here store frame
  pub fits : IsStore program.globals here.state.store
  pub inputs : inputs_of proc here.state.locals ≡ inputs_of proc b.locals
  pub done : b.done ≡ true → here.state.done ≡ true

-- one step further it is open still, with the choices of that step; the path has this store there
pub record StaysOpen (program : Program) (step q c : ℕ) (proc : Proc) (cut : Cut) (b : Begun) (bound : ℕ) (here : Standing) (inner store : Store) (frame : Activation) : Type 0 where
  pub chosen : ℕ → List Value
  pub later : ℕ
  pub rises : bound < later
  pub next : Standing
  pub goes : advance (lower_course program step proc chosen) here ≡ Stands next
  pub place : next.place ≡ frame.place
  pub state : next.state ≡ record { store = inner; locals = frame.locals; done = (led_here program step proc here).done; again = (led_here program step proc here).again }
  pub opened : IsOpen program step q c proc cut (choosing b chosen) later next store frame

-- What a step of the thread, with these values for its choices, of the statement at this spot, makes of it. An action does to
-- the path's store what it does to the configuration's. The block doesn't fail.
abbrev pub StepStaysOpen : Program → ℕ → ℕ → ℕ → Proc → Cut → Begun → ℕ → Standing → Store → Activation → Spot → List Value → Change → Type 0
StepStaysOpen program step q c proc cut b bound here store frame s values (Goes locals place) =
    StaysOpen program step q c proc cut b bound here (led_here program step proc here).store store (moved_frame frame locals place)
StepStaysOpen program step q c proc cut b bound here store frame s values (Acts after locals place) =
    (inner : Store) × (frame_does program step proc (led_here program step proc here).store values frame s ≡ Acts inner locals place)
    × StaysOpen program step q c proc cut b bound here inner after (moved_frame frame locals place)
StepStaysOpen program step q c proc cut b bound here store frame s values (Stays answer.Failing) = ⊥
StepStaysOpen program step q c proc cut b bound here store frame s values _ = Unit {0}

-- an open block whose frame stands before no cut, and not at the exit, stays open in each step of its thread
abbrev pub OpenBlocksGoOn : Type 0
OpenBlocksGoOn =
    (program : Program) (step q c : ℕ) (proc : Proc) (cut : Cut) (b : Begun) (bound : ℕ) (here : Standing) (store : Store) (frame : Activation) (thread : Running) (values : List Value) (s : Spot)
    → IsSound program → IsOpen program step q c proc cut b bound here store frame → IsTopmost program step q thread frame → All IsValue values
    → cut_ahead proc.body here.place ≡ None → spot_at proc.body frame.place ≡ Some s
    → StepStaysOpen program step q c proc cut b bound here store frame s values (change_of (program_at program (step - 1)) store values thread)

-- ---- how blocks open

-- there are choices of their sorts for the calls of all paths from a cut
abbrev pub ChoicesAreThere : Type 0
ChoicesAreThere =
    (program : Program) (step q : ℕ) (proc : Proc) (cut : Cut) → IsLayered program → IsProcOf program q step proc
    → (chosen : ℕ → List Value) × ((number : ℕ) (choices : List Choice) → Contains (passed_choices program step proc cut) (number, choices) → HaveSorts (chosen number) (map (λ c. c.sort) choices))

-- behind the first step of a loop, which changes nothing
abbrev pub OpensInLoop : Program → ℕ → ℕ → ℕ → Proc → Cut → Begun → Store → Activation → Change → Type 0
OpensInLoop program step q c proc cut b store frame change =
    (place : ℕ) × (change ≡ Goes frame.locals place)
    × IsOpen program step q c proc cut b (cut.statement + 1) (record { place = place; state = beginning b }) store (moved_frame frame frame.locals place)

-- at the entry: behind the call that makes the frame
abbrev pub BlocksOpenAtEntries : Type 0
BlocksOpenAtEntries =
    (program : Program) (step q c : ℕ) (proc : Proc) (cut : Cut) (b : Begun) (store : Store) (frame : Activation)
    → IsAssumed program step q c proc cut b → cut.kind ≡ kind.Entry → StandsAlike program step proc (record { place = 0; state = beginning b }) store frame
    → IsOpen program step q c proc cut b 0 (record { place = 0; state = beginning b }) store frame

-- behind a yield, of which there may be several in a row before the next statement of a plain program
abbrev pub BlocksOpenBehindYields : Type 0
BlocksOpenBehindYields =
    (program : Program) (step q c : ℕ) (proc : Proc) (cut : Cut) (b : Begun) (here : Standing) (store : Store) (frame : Activation)
    → IsAssumed program step q c proc cut b → cut.kind ≡ kind.Yield → begins_at (lower_course program step proc b.chosen) cut (beginning b) ≡ Stands here → StandsAlike program step proc here store frame
    → IsOpen program step q c proc cut b 0 here store frame

-- at the head of a loop, of which there may be yields in front: behind the loop's own step
abbrev pub BlocksOpenInLoops : Type 0
BlocksOpenInLoops =
    (program : Program) (step q c : ℕ) (proc : Proc) (cut : Cut) (b : Begun) (store : Store) (frame : Activation) (thread : Running) (values : List Value) (s : Spot)
    → IsAssumed program step q c proc cut b → (cut.kind ≡ kind.YieldLoop) ⊎ (cut.kind ≡ kind.RankLoop) → IsTopmost program step q thread frame
    → spot_at proc.body frame.place ≡ Some s → layer_head s.number (out-Stmt s.stmt) ≡ Some cut.statement
    → b.locals ≡ frame.locals → StoresAgree (exists_at (step - 1)) program.globals b.store store
    → OpensInLoop program step q c proc cut b store frame (change_of (program_at program (step - 1)) store values thread)

-- ---- how they end

-- a frame before a cut stands before one of its procedure's, which is a yield, a yield loop or a rank loop
abbrev pub CutsAheadAreCuts : Type 0
CutsAheadAreCuts =
    (program : Program) (step q : ℕ) (proc : Proc) (place number : ℕ) → IsProcOf program q step proc → cut_ahead proc.body place ≡ Some number
    → (there : Cut) × (slice_get (proc_cuts proc) (cut_number proc number) ≡ Some there) × (there.statement ≡ number)

-- before a cut or at the exit, what the conditions say holds of the state there
abbrev pub OpenBlocksConclude : Type 0
OpenBlocksConclude =
    (program : Program) (step q c : ℕ) (proc : Proc) (cut : Cut) (b : Begun) (bound : ℕ) (here : Standing) (store : Store) (frame : Activation)
    → IsSound program → IsOpen program step q c proc cut b bound here store frame
    → ((number : ℕ) → cut_ahead proc.body here.place ≡ Some number → Concludes program step c proc cut b (cut_number proc number) (led_here program step proc here))
    × (cut_ahead proc.body here.place ≡ None → spot_at proc.body here.place ≡ None → Concludes program step c proc cut b (exit_of proc) (led_here program step proc here))

-- before the head of a rank loop, where what is owned is disjoint, a path begins at the loop with the old values of the
-- block's beginning: all is assumed again
abbrev pub OpenBlocksGoRound : Type 0
OpenBlocksGoRound =
    (program : Program) (step q c : ℕ) (proc : Proc) (cut : Cut) (b : Begun) (bound : ℕ) (here : Standing) (store : Store) (frame : Activation) (number : ℕ) (there : Cut)
    → IsSound program → IsOpen program step q c proc cut b bound here store frame → HaveSorts frame.locals (frame_sorts proc)
    → cut_ahead proc.body here.place ≡ Some number → slice_get (proc_cuts proc) (cut_number proc number) ≡ Some there → is_rank_loop there.kind ≡ true
    → pairwise_disjoint (owned program proc (cut_number proc number) (begun_again b (led_here program step proc here) b.chosen)) ≡ true
    → (chosen : ℕ → List Value) × IsAssumed program step q (cut_number proc number) proc there (begun_again b (led_here program step proc here) chosen)
