-- The end of a run, and the relation of runs.
use Rattle.std.proofs.Common.{ℕ, ◌≡◌, ◌+◌, Bool, false, List, [], ◌∷◌, refl, sym, ap, ◌∙◌, subst, None, Some}
use Rattle.std.specs.Prelude.{IsTrue, is_some, if◌then◌else◌}
use Rattle.std.proofs.lemmas.Bool.{false≢true}
use Rattle.std.proofs.lemmas.Option.{same_Some, none-some}
use Rattle.civl_tree.proofs.Lists.{some_position}
use Rattle.civl_meaning.specs.declared.config.Move.{Move}
use Rattle.civl_meaning.specs.declared.config.Plain.{Plain}
use Rattle.civl_meaning.specs.declared.config.Config.{Config}
use Rattle.civl_meaning.specs.declared.config.Stepped.{Stepped}
use Rattle.civl_meaning.specs.declared.config.Stepped.TheVariants as answer
use Rattle.civl_meaning.specs.Step.{step_of}
use Rattle.civl_meaning.specs.Run.{RunsTo, has_moved, run_of}
use Rattle.civl_meaning.specs.Failing.{thread_fails, is_failing, failing_thread}
use Rattle.civl_meaning.proofs.Runs.{run_more}
use Rattle.civl_reduction.specs.inner.Ends.{end_by, end_of}
use Rattle.civl_reduction.specs.Swap.{RunAlike, RunsFailing}

-- a run that has an end runs to it
to_runs : (plain : Plain) (ms : List Move) (k : ℕ) (from to : Config) → end_by (run_of plain ms k from) ≡ Some to → RunsTo plain ms from to
to_runs plain [] k from to e = same_Some from to e
to_runs plain (m ∷ ms) k from to e = go (step_of plain from m) refl e (λ next. to_runs plain ms (k + 1) next to)
  where
    go : (s : Stepped × Config) → step_of plain from m ≡ s → end_by (if has_moved s.0 then run_of plain ms (k + 1) s.1 else (k, Some s.0, from)) ≡ Some to
        → ((next : Config) → end_by (run_of plain ms (k + 1) next) ≡ Some to → RunsTo plain ms next to) → RunsTo plain (m ∷ ms) from to
    go (answer.Moved, next) q h ih = (next, q, ih next h)
    go (answer.Blocked, next) q h ih = absurd (none-some to h)
    go (answer.NoThread, next) q h ih = absurd (none-some to h)
    go (answer.Ended, next) q h ih = absurd (none-some to h)
    go (answer.Failing, next) q h ih = absurd (none-some to h)
    go (answer.BadChoices, next) q h ih = absurd (none-some to h)

-- and what runs somewhere has that end
from_runs : (plain : Plain) (ms : List Move) (k : ℕ) (from to : Config) → RunsTo plain ms from to → end_by (run_of plain ms k from) ≡ Some to
from_runs plain [] k from to r = ap (λ (c : Config). Some c) r
from_runs plain (m ∷ ms) k from to r = ap end_by (run_more plain m ms k from r.0 r.1) ∙ from_runs plain ms (k + 1) r.0 to r.2

pub end_runs : (plain : Plain) (ms : List Move) (from to : Config) → end_of plain ms from ≡ Some to → RunsTo plain ms from to
end_runs plain ms from to e = to_runs plain ms 0 from to e

pub runs_end : (plain : Plain) (ms : List Move) (from to : Config) → RunsTo plain ms from to → end_of plain ms from ≡ Some to
runs_end plain ms from to r = from_runs plain ms 0 from to r

-- a step that was made, or wasn't
pub end_more : (plain : Plain) (m : Move) (ms : List Move) (k : ℕ) (from next : Config) → (answer.Moved, next) ≡ step_of plain from m → end_by (run_of plain (m ∷ ms) k from) ≡ end_by (run_of plain ms (k + 1) next)
end_more plain m ms k from next e = ap end_by (run_more plain m ms k from next (sym e))

pub end_none : (plain : Plain) (m : Move) (ms : List Move) (k : ℕ) (from next : Config) (a : Stepped) → (a, next) ≡ step_of plain from m → (a ≡ answer.Moved → ⊥) → end_by (run_of plain (m ∷ ms) k from) ≡ None
end_none plain m ms k from next a e n = ap (λ (s : Stepped × Config). end_by (if has_moved s.0 then run_of plain ms (k + 1) s.1 else (k, Some s.0, from))) (sym e) ∙ go a n
  where
    go : (b : Stepped) → (b ≡ answer.Moved → ⊥) → end_by (if has_moved b then run_of plain ms (k + 1) next else (k, Some b, from)) ≡ None
    go answer.Moved h = absurd (h refl)
    go answer.Blocked h = refl
    go answer.NoThread h = refl
    go answer.Ended h = refl
    go answer.Failing h = refl
    go answer.BadChoices h = refl

-- ---- two runs

module _ (plain : Plain) (from : Config) (moves others : List Move) where
  pub alike_not_first : None ≡ end_of plain moves from → (IsTrue false → RunAlike plain from moves others) × (RunAlike plain from moves others → IsTrue false)
  alike_not_first e = (λ h. absurd (false≢true h), λ r. absurd (none-some r.0 (e ∙ runs_end plain moves from r.0 r.1)))

  pub alike_not_second : None ≡ end_of plain others from → (IsTrue false → RunAlike plain from moves others) × (RunAlike plain from moves others → IsTrue false)
  alike_not_second e = (λ h. absurd (false≢true h), λ r. absurd (none-some r.0 (e ∙ runs_end plain others from r.0 r.2)))

  pub alike_both : (a b : Config) (same : Bool) → Some a ≡ end_of plain moves from → Some b ≡ end_of plain others from → (IsTrue same → a ≡ b) × (a ≡ b → IsTrue same) → (IsTrue same → RunAlike plain from moves others) × (RunAlike plain from moves others → IsTrue same)
  alike_both a b same e f s = (
    λ h. (a, end_runs plain moves from a (sym e), subst (RunsTo plain others from) (sym (s.0 h)) (end_runs plain others from b (sym f))),
    λ r. s.1 (same_Some a r.0 (e ∙ runs_end plain moves from r.0 r.1) ∙ sym (same_Some b r.0 (f ∙ runs_end plain others from r.0 r.2))),
  )

-- ---- a run that ends failing

module _ (plain : Plain) (from : Config) (moves : List Move) where
  pub fails_not : None ≡ end_of plain moves from → (IsTrue false → RunsFailing plain from moves) × (RunsFailing plain from moves → IsTrue false)
  fails_not e = (λ h. absurd (false≢true h), λ r. absurd (none-some r.0 (e ∙ runs_end plain moves from r.0 r.1)))

  pub fails_so : (end : Config) → Some end ≡ end_of plain moves from → (b : Bool) → b ≡ is_some (failing_thread plain end) → (IsTrue b → RunsFailing plain from moves) × (RunsFailing plain from moves → IsTrue b)
  fails_so end e b q = (
    λ h. (end, end_runs plain moves from end (sym e), sym (some_position (thread_fails plain end.store) end.threads) ∙ (sym q ∙ h)),
    λ r. q ∙ (some_position (thread_fails plain end.store) end.threads ∙ (ap (is_failing plain) (same_Some end r.0 (e ∙ runs_end plain moves from r.0 r.1)) ∙ r.2)),
  )
