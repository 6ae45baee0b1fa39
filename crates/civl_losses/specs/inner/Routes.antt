-- The path of a condition, as the code has it.
use Rattle.std.specs.Prelude.{◌≡◌, ℕ, ◌+◌, ◌&&◌, ◌++◌, if◌then◌else◌, is_some, option_copied, List, [], ◌∷◌, Option, None, Some}
use Rattle.civl_bits.specs.declared.value.Value.{Value}
use Rattle.civl_tree.specs.declared.stmt.Stmt.{Stmt}
use Rattle.civl_tree.specs.declared.program.Program.{Program}
use Rattle.civl_firing.specs.values.Operators.{nothing}
use Rattle.civl_meaning.specs.Permissions.{pairwise_disjoint}
use Rattle.civl_layers.specs.Cuts.{cut_kind}
use Rattle.civl_conditions.specs.declared.condition.Part.{Part}
use Rattle.civl_conditions.specs.declared.condition.Target.{Target}
use Rattle.civl_conditions.specs.Assumed.{cut_invariant, assumed, owned}
use Rattle.civl_conditions.specs.Targets.{target_owned}
use Rattle.civl_conditions.specs.Values.{Begun}
use Rattle.civl_conditions.specs.paths.Paths.{Course, Progress}
use Rattle.civl_traces.specs.declared.walked.Changed.{Changed}
use Rattle.civl_traces.specs.Told.{progress}
use Rattle.civl_assumed.specs.declared.begun.Place.{Place}
use Rattle.civl_losses.specs.declared.loss.Loss.{Loss}
use Rattle.civl_losses.specs.declared.route.Route.{Route}
use Rattle.civl_losses.specs.Beginnings.{begun_from}
use Rattle.civl_losses.specs.Losses.{course_of, differ, where_assumed, part_loss, target_loss}

-- the values with which it begins
abbrev pub begun_on : Route → Begun
begun_on route = begun_from route.beginning.now

-- the state in which it ends
abbrev pub end_of : Route → Progress
end_of route = progress route.walked.now.end

abbrev pub course_on : Route → Course
course_on route = course_of route.program.now route.step route.proc.now (begun_on route)

-- how many of these statements are cuts
abbrev pub cut_count : List Stmt → ℕ
cut_count [] = 0
cut_count (stmt ∷ stmts) = (if is_some (cut_kind stmt) then 1 else 0) + cut_count stmts

-- the outputs with this place, what is there after and before, if they differ
abbrev pub out_differs : ℕ → Option Value → Option Value → List Changed
out_differs at None None = []
out_differs at None (Some w) = record { place = at; before = w; after = nothing } ∷ []
out_differs at (Some v) None = record { place = at; before = nothing; after = v } ∷ []
out_differs at (Some v) (Some w) = differ at v w

-- the cut from which it begins
pub record IsPlace (route : Route) (place : Place) : Type 0 where
  pub program : place.program.now ≡ route.program.now
  pub step : place.step ≡ route.step
  pub proc : place.proc.now ≡ route.proc.now
  pub number : place.number ≡ route.number
  pub cut : place.cut ≡ route.cut
  pub note : option_copied place.note ≡ cut_invariant route.proc.now route.cut
  pub held : place.held.now ≡ route.held.now

-- K9, of a path with these values
abbrev pub path_lost : Route → Part → Option Loss
path_lost route part =
    where_assumed (assumed route.program.now route.step route.proc.now route.number route.cut (begun_on route))
    (part_loss route.program.now route.step route.proc.now route.number route.cut (begun_on route) route.walked.now part)

-- K10, of a path with these values; those of another thread's frame at the target stand from a place on
abbrev pub block_lost : Program → Route → Target → List Value → ℕ → Option Loss
block_lost program route target values at =
    where_assumed (
    assumed program route.step route.proc.now route.number route.cut (begun_on route)
    && pairwise_disjoint (owned program route.proc.now route.number (begun_on route) ++ target_owned program target values at)
    ) (target_loss program route.step route.proc.now (begun_on route) route.walked.now target values at)
