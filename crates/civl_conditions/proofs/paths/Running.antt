-- Runs of a frame are on its path, and come to its end.
use Rattle.std.proofs.Common.{◌≡◌, ℕ, zero, suc, ◌<◌, refl, sym, ap, ◌∙◌, arith, Option, None, Some}
use Rattle.std.proofs.lemmas.Option.{none-some}
use Rattle.civl_conditions.specs.paths.Paths.{Course, Outcome}
use Rattle.civl_conditions.specs.paths.Runs.{Standing, rest_of, comes_to, Advance, Ends, Stands, advance, Reaches, next_steps, after_steps, StepIsOnPath, RunsAreOnPaths, PathsAreRuns}
use Rattle.civl_conditions.proofs.paths.Going.{weight, On, step_on, reached}

pub step_is_on_path : StepIsOnPath
step_is_on_path c frame = reached c (weight (rest_of c frame)) (comes_to c frame) (advance c frame) (step_on c frame)

pub runs_are_on_paths : RunsAreOnPaths
runs_are_on_paths c zero first last e = ap (λ (o : Option Standing). option_outcome o) (sym e)
  where
    option_outcome : Option Standing → Outcome
    option_outcome None = comes_to c first
    option_outcome (Some frame) = comes_to c frame
runs_are_on_paths c (suc n) first last e = by_step (advance c first) (step_is_on_path c first) (runs_are_on_paths c n) e
  where
    by_step : (a : Advance) → Reaches c a (comes_to c first) → ((first last : Standing) → after_steps c n first ≡ Some last → comes_to c last ≡ comes_to c first) → next_steps (after_steps c n) a ≡ Some last → comes_to c last ≡ comes_to c first
    by_step (Ends o) h later e = absurd (none-some last e)
    by_step (Stands frame) h later e = later frame last e ∙ h

-- some steps end, where fewer than so many statements are left
abbrev Ended : Course → Standing → Outcome → Type 0
Ended c first outcome = (n : ℕ) × (last : Standing) × (after_steps c n first ≡ Some last) × (advance c last ≡ Ends outcome)

-- the first step, and those that follow it
more : (c : Course) (first : Standing) (outcome : Outcome) (a : Advance) → advance c first ≡ a → On c (weight (rest_of c first)) outcome a →
    ((frame : Standing) → weight (rest_of c frame) < weight (rest_of c first) → Ended c frame (comes_to c frame)) → Ended c first outcome
more c first outcome (Ends o) e h later = (0, first, refl, e ∙ ap Ends h)
more c first outcome (Stands frame) e h later =
    let rest = later frame h.1 in
    (suc rest.0, rest.1, ap (next_steps (after_steps c rest.0)) e ∙ rest.2, rest.3 ∙ ap Ends h.0)

ended : (c : Course) (bound : ℕ) (first : Standing) → weight (rest_of c first) < bound → Ended c first (comes_to c first)
ended c zero first h = absurd (omega arith)
ended c (suc bound) first h =
    more c first (comes_to c first) (advance c first) refl (step_on c first) (λ frame less. ended c bound frame (omega arith))

pub paths_are_runs : PathsAreRuns
paths_are_runs c first = ended c (suc (weight (rest_of c first))) first (omega arith)
