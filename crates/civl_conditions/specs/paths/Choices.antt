-- The choices that a path reads: those of the calls that it may pass, whatever the values, and of no other statement.
use Rattle.std.specs.Prelude.{ℕ, ◌≡◌, Bool, true, false, IsTrue, List, Option, None, Some}
use Rattle.std.specs.List.{Contains}
use Rattle.civl_bits.specs.declared.value.Value.{Value}
use Rattle.civl_tree.specs.declared.action.Action.{Action}
use Rattle.civl_tree.specs.declared.program.Proc.{Proc}
use Rattle.civl_tree.specs.declared.stmt.Stmt.{Stmt, out-Stmt}
use Rattle.civl_tree.specs.declared.stmt.Stmt.TheOpen as stmt
use Rattle.civl_tree.specs.Numbering.{statement_at}
use Rattle.civl_firing.specs.Fired.{choices_fit}
use Rattle.civl_meaning.specs.declared.config.Plain.{Plain}
use Rattle.civl_meaning.specs.Meaning.{Meaning, Does, Runs, Missing, called}
use Rattle.civl_meaning.specs.Rest.{Rest}
use Rattle.civl_layers.specs.declared.cut.Cut.{Cut}
use Rattle.civl_conditions.specs.paths.Paths.{Course, Progress, Outcome, Past, Comes, Fails, Stops, pass_all, path_from}
use Rattle.civl_conditions.specs.paths.Flows.{flow_all, flow_from}

abbrev pub course_with : Plain → Proc → (ℕ → List Value) → Course
course_with plain proc chosen = record { plain = plain; proc = proc; chosen = chosen }

-- the action that a statement calls, where it calls one
abbrev pub action_meant : Meaning → Option Action
action_meant (Does action) = Some action
action_meant (Runs number proc) = None
action_meant Missing = None

abbrev pub layer_action : Plain → stmt.Stmt-F Stmt → Option Action
layer_action plain (stmt.Call f es rs) = action_meant (called plain f)
layer_action plain _ = None

-- both give each of these statements that calls an action the same choices
abbrev pub ChoicesAgree : Plain → Rest → (ℕ → List Value) → (ℕ → List Value) → Type 0
ChoicesAgree plain passed chosen others =
    (q : ℕ × Stmt) (action : Action) → Contains passed q → layer_action plain (out-Stmt q.1) ≡ Some action → chosen q.0 ≡ others q.0

-- the same where the first fit the action
abbrev pub FittingAgree : Plain → Rest → (ℕ → List Value) → (ℕ → List Value) → Type 0
FittingAgree plain passed chosen others =
    (q : ℕ × Stmt) (action : Action) → Contains passed q → layer_action plain (out-Stmt q.1) ≡ Some action → IsTrue (choices_fit action (chosen q.0)) → chosen q.0 ≡ others q.0

-- going over statements reads the choices of those that their flow passes
abbrev pub RestsReadTheirChoices : Type 0
RestsReadTheirChoices =
    (plain : Plain) (proc : Proc) (rest : Rest) (chosen others : ℕ → List Value) (p : Progress) → ChoicesAgree plain (flow_all rest).passed chosen others →
    pass_all (course_with plain proc chosen) rest p ≡ pass_all (course_with plain proc others) rest p

-- so does a path from a cut
abbrev pub PathsReadTheirChoices : Type 0
PathsReadTheirChoices =
    (plain : Plain) (proc : Proc) (cut : Cut) (chosen others : ℕ → List Value) (p : Progress) → ChoicesAgree plain (flow_from proc cut).passed chosen others →
    path_from (course_with plain proc chosen) cut p ≡ path_from (course_with plain proc others) cut p

-- it is before a statement that isn't passed
abbrev pub has_stopped : Outcome → Bool
has_stopped (Past p) = false
has_stopped (Comes number p) = false
has_stopped (Fails p) = false
has_stopped (Stops p) = true

-- a path that doesn't stop has read choices that fit alone
abbrev pub PathsReadFittingChoices : Type 0
PathsReadFittingChoices =
    (plain : Plain) (proc : Proc) (cut : Cut) (chosen others : ℕ → List Value) (p : Progress) → FittingAgree plain (flow_from proc cut).passed chosen others →
    has_stopped (path_from (course_with plain proc chosen) cut p) ≡ false →
    path_from (course_with plain proc chosen) cut p ≡ path_from (course_with plain proc others) cut p

-- the statements that a flow passes stand in the body at their numbers
abbrev pub PassedStandInBody : Type 0
PassedStandInBody = (proc : Proc) (cut : Cut) (q : ℕ × Stmt) → Contains (flow_from proc cut).passed q → statement_at proc.body q.0 ≡ Some q.1
