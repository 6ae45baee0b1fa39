-- The action that a call means in the program of a layer is the one that the phases speak of.
use Rattle.std.proofs.Common.{◌≡◌, ℕ, Bool, true, false, refl, sym, ap, ◌∙◌, Option, None, Some, slice_get}
use Rattle.std.proofs.lemmas.Bool.{not-false}
use Rattle.civl_tree.specs.declared.name.Name.{Name}
use Rattle.civl_tree.specs.declared.action.Action.{Action}
use Rattle.civl_tree.specs.declared.program.Refines.{Refines}
use Rattle.civl_tree.specs.declared.program.Proc.{Proc}
use Rattle.civl_tree.specs.rules.Names.{action_named, proc_named}
use Rattle.civl_meaning.specs.declared.config.Plain.{Plain}
use Rattle.civl_meaning.specs.Meaning.{Does, proc_number, meaning_of_action, refined, meaning_by, meaning_else, called}
use Rattle.civl_meaning.proofs.Begun.{proc_is}
use Rattle.civl_yields.specs.Movers.{refined_action, proc_action, first_action, called_action, turns}
use Rattle.civl_layers.specs.Movers.{is_left}
use Rattle.civl_yields.specs.Phases.{called_phase}
use Rattle.civl_yields.specs.Places.{too_late}
use Rattle.civl_reduction.specs.blocks.Ahead.{stops}
use Rattle.civl_reduction.proofs.blocks.Standing.Flowing as flow

module _ (plain : Plain) where
  by_action : (o : Option Action) (a : Action) → meaning_of_action o ≡ Does a → o ≡ Some a
  by_action None a e = absurd cc
  by_action (Some b) a e = cc

  by_refines : (o : Option Refines) (a : Action) → refined plain.program o ≡ Does a → refined_action plain.program o ≡ Some a
  by_refines None a e = absurd cc
  by_refines (Some r) a e = by_action (action_named plain.program r.action) a e

  by_number : (body : Option Bool) (k : ℕ) (o : Option Proc) (a : Action) → meaning_by plain.program body k o ≡ Does a → proc_action plain.program o ≡ Some a
  by_number body k None a e = absurd cc
  by_number (Some true) k (Some p) a e = absurd cc
  by_number (Some false) k (Some p) a e = by_refines p.refines a e
  by_number None k (Some p) a e = absurd cc

  pub means_same : (name : Name) (a : Action) → called plain name ≡ Does a → called_action plain.program name ≡ Some a
  means_same name a e = go (action_named plain.program name) refl e
    where
      go : (o : Option Action) → action_named plain.program name ≡ o → meaning_else plain name o ≡ Does a → first_action o (proc_action plain.program (proc_named plain.program name)) ≡ Some a
      go (Some b) q h = cc
      go None q h =
          ap (proc_action plain.program) (sym (proc_is plain.program name))
          ∙ by_number (slice_get plain.bodies (proc_number plain.program name)) (proc_number plain.program name) (slice_get plain.program.procs (proc_number plain.program name)) a h

  -- a call that doesn't stop left movers is of one
  pub follows : (name : Name) (a : Action) → called plain name ≡ Does a → stops plain.program name ≡ false → is_left a.mover ≡ true
  follows name a e s = not-false (is_left a.mover) (sym (ap too_late (means_same name a e)) ∙ s)

  -- a call of an action that isn't a right mover turns the phase
  pub turned : (name : Name) (a : Action) → called plain name ≡ Does a → turns a.mover ≡ true → flow.turns plain.program name ≡ true
  turned name a e t = ap (λ (o : Option Action). called_phase o false) (means_same name a e) ∙ t
