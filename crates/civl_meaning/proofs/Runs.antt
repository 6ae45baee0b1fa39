-- Runs, move by move.
use Rattle.std.proofs.Common.{ℕ, ◌≡◌, ◌+◌, List, [], ◌∷◌, ◌++◌, length, Option, Some, None, refl, ap, ◌∙◌, arith}
use Rattle.std.specs.Prelude.{if◌then◌else◌}
use Rattle.civl_meaning.specs.declared.config.Plain.{Plain}
use Rattle.civl_meaning.specs.declared.config.Config.{Config}
use Rattle.civl_meaning.specs.declared.config.Move.{Move}
use Rattle.civl_meaning.specs.declared.config.Stepped.{Stepped}
use Rattle.civl_meaning.specs.declared.config.Stepped.TheVariants as answer
use Rattle.civl_meaning.specs.Step.{step_of}
use Rattle.civl_meaning.specs.Run.{RunsTo, RunsAreMade, RunsJoin, has_moved, run_of}

-- a run that is stopped isn't one that isn't
stops : (k n : ℕ) (a : Stepped) (from to : Config) → ◌≡◌ {A = ℕ × Option Stepped × Config} (k, Some a, from) (n, None, to) → ⊥
stops k n a from to e = let f : Some a ≡ None = ap (λ (t : ℕ × Option Stepped × Config). t.1) e in absurd (cc)

-- a run that isn't stopped begins with a step that was made
made_if : (a : Stepped) (rest : ℕ × Option Stepped × Config) (k : ℕ) (from to : Config) (n : ℕ) → (if has_moved a then rest else (k, Some a, from)) ≡ (n, None, to) → (a ≡ answer.Moved) × (rest ≡ (n, None, to))
made_if answer.Moved rest k from to n e = (refl, e)
made_if answer.Blocked rest k from to n e = absurd (stops k n answer.Blocked from to e)
made_if answer.NoThread rest k from to n e = absurd (stops k n answer.NoThread from to e)
made_if answer.Ended rest k from to n e = absurd (stops k n answer.Ended from to e)
made_if answer.Failing rest k from to n e = absurd (stops k n answer.Failing from to e)
made_if answer.BadChoices rest k from to n e = absurd (stops k n answer.BadChoices from to e)

-- a step that was made, in a run
pub run_more : (plain : Plain) (m : Move) (ms : List Move) (k : ℕ) (from next : Config) → step_of plain from m ≡ (answer.Moved, next) → run_of plain (m ∷ ms) k from ≡ run_of plain ms (k + 1) next
run_more plain m ms k from next e =
    ap (λ (s : Stepped × Config). if has_moved s.0 then run_of plain ms (k + 1) s.1 else (k, Some s.0, from)) e

made : (plain : Plain) (ms : List Move) (k : ℕ) (from to : Config) → RunsTo plain ms from to → run_of plain ms k from ≡ (k + length ms, None, to)
made plain [] k from to r = let n : k ≡ k + 0 = omega arith in ap (λ (c : Config). (k, None, c)) r ∙ ap (λ (i : ℕ). (i, None, to)) n
made plain (m ∷ ms) k from to r =
    let n : k + 1 + length ms ≡ k + length (m ∷ ms) = omega arith in
    run_more plain m ms k from r.0 r.1 ∙ made plain ms (k + 1) r.0 to r.2 ∙ ap (λ (i : ℕ). (i, None, to)) n

runs : (plain : Plain) (ms : List Move) (k n : ℕ) (from to : Config) → run_of plain ms k from ≡ (n, None, to) → RunsTo plain ms from to
runs plain [] k n from to e = ap (λ (t : ℕ × Option Stepped × Config). t.2) e
runs plain (m ∷ ms) k n from to e =
    let s = step_of plain from m in
    let h = made_if s.0 (run_of plain ms (k + 1) s.1) k from to n e in
    (s.1, ap (λ (a : Stepped). (a, s.1)) h.0, runs plain ms (k + 1) n s.1 to h.1)

pub runs_are_made : RunsAreMade
runs_are_made plain ms from to =
    let n : 0 + length ms ≡ length ms = omega arith in
    (λ r. made plain ms 0 from to r ∙ ap (λ (i : ℕ). (i, None, to)) n, λ e. runs plain ms 0 (length ms) from to e)

pub runs_join : RunsJoin
runs_join plain [] ns k n from mid e = ap (λ (t : ℕ × Option Stepped × Config). run_of plain ns t.0 t.2) e
runs_join plain (m ∷ ms) ns k n from mid e =
    let s = step_of plain from m in
    let h = made_if s.0 (run_of plain ms (k + 1) s.1) k from mid n e in
    run_more plain m (ms ++ ns) k from s.1 (ap (λ (a : Stepped). (a, s.1)) h.0) ∙ runs_join plain ms ns (k + 1) n s.1 mid h.1
