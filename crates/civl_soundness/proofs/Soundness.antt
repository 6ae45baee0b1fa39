-- A step keeps configurations those of their program, and so does a run.
use Rattle.std.proofs.Common.{◌≡◌, [], ◌∷◌, refl, subst, Option, None, Some, slice_get}
use Rattle.std.proofs.lemmas.List.Elements.{All-head, All-tail}
use Rattle.civl_meaning.specs.declared.config.Move.{Move}
use Rattle.civl_meaning.specs.declared.config.Plain.{Plain}
use Rattle.civl_meaning.specs.declared.config.Running.{Running}
use Rattle.civl_meaning.specs.declared.config.Config.{Config}
use Rattle.civl_meaning.specs.declared.config.Stepped.{Stepped}
use Rattle.civl_meaning.specs.Change.{change_of}
use Rattle.civl_meaning.specs.Step.{step_in}
use Rattle.civl_meaning.specs.Failing.{IsMove}
use Rattle.civl_meaning.specs.Config.{IsPlain, IsOf, ThreadIsSorted, IsStacked}
use Rattle.civl_meaning.proofs.Begun.{start_is_of}
use Rattle.civl_meaning.proofs.Stacking.{step_keeps_stacks}
use Rattle.civl_soundness.specs.Config.{StepIsOf, RunIsOf, ReachedIsOf}
use Rattle.civl_soundness.proofs.Fitting.{all_at, Sorted, config_fits}
use Rattle.civl_soundness.proofs.Changing.{change_fits}

sorts_kept : (plain : Plain) → IsPlain plain → (config : Config) (move : Move) → IsMove move → IsOf plain config → (o : Option Running) → slice_get config.threads move.thread ≡ o → Sorted plain (step_in plain config move o).1
sorts_kept plain ok config move choices h None e = (h.store, h.sorted)
sorts_kept plain ok config move choices h (Some thread) e =
    let sorted = all_at (ThreadIsSorted plain) config.threads move.thread thread e h.sorted in
    let stacked = all_at (IsStacked plain) config.threads move.thread thread e h.stacked in
    config_fits plain config move.thread thread (change_of plain config.store move.choices thread) (h.store, h.sorted) sorted (change_fits plain ok config.store h.store move.choices choices thread sorted stacked)

pub step_is_of : StepIsOf
step_is_of plain config move ok choices h =
    let k = sorts_kept plain ok config move choices h (slice_get config.threads move.thread) refl in
    record { store = k.0; sorted = k.1; stacked = step_keeps_stacks plain config move h.stacked }

pub run_is_of : RunIsOf
run_is_of plain [] from to ok choices r h = subst (IsOf plain) r h
run_is_of plain (m ∷ ms) from to ok choices r h =
    let k : IsOf plain r.0 = subst (λ (s : Stepped × Config). IsOf plain s.1) r.1 (step_is_of plain from m ok (All-head IsMove m ms choices) h) in
    run_is_of plain ms r.0 to ok (All-tail IsMove m ms choices) r.2 k

pub reached_is_of : ReachedIsOf
reached_is_of plain store moves to ok h choices r = run_is_of plain moves _ to ok choices r (start_is_of plain store ok h)
