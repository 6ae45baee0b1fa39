-- The procedures that refine an action at a step.
use Rattle.std.proofs.Common.{◌≡◌, ◌∙◌, ℕ, true, ap, Option, None, Some, slice_get, refl}
use Rattle.std.proofs.lemmas.Bool.{false≢true, eqb-true, eq-eqb}
use Rattle.civl_tree.specs.declared.program.Refines.{Refines}
use Rattle.civl_tree.specs.declared.program.Proc.{Proc}
use Rattle.civl_tree.specs.declared.program.Program.{Program}
use Rattle.civl_conditions.specs.paths.Seen.{IsProcOf}
use Rattle.civl_conditions.specs.Steps.{refines_at, has_layer}

pub layered_by : (layer : ℕ) (o : Option Refines) → refines_at layer o ≡ true → (r : Refines) × (o ≡ Some r) × (r.layer ≡ layer)
layered_by layer None e = absurd (false≢true e)
layered_by layer (Some r) e = (r, refl, eqb-true r.layer layer e)

pub has_its_layer : (program : Program) (number step : ℕ) (proc : Proc) → IsProcOf program number step proc → has_layer step proc ≡ true
has_its_layer program number step proc of = ap (refines_at step) of.refined ∙ eq-eqb of.refines.layer step of.layered

pub of_layer : (program : Program) (number step : ℕ) (proc : Proc) → slice_get program.procs number ≡ Some proc → has_layer step proc ≡ true → IsProcOf program number step proc
of_layer program number step proc at = by_refines proc.refines refl
  where
    by_refines : (o : Option Refines) → proc.refines ≡ o → refines_at step o ≡ true → IsProcOf program number step proc
    by_refines None e h = absurd (false≢true h)
    by_refines (Some r) e h = record { there = at; refines = r; refined = e; layered = eqb-true r.layer step h }
