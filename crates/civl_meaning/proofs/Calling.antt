-- The action of a name, as the code finds it: by its place.
use Rattle.std.proofs.Common.{◌≡◌, ℕ, ◌<◌, ◌≤◌, List, length, map, get_or, slice_get, refl, sym, ap, ◌∙◌, Some, None}
use Rattle.std.proofs.lemmas.Option.{slice_get_read, slice_get_past}
use Rattle.civl_tree.specs.declared.name.Name.{Name}
use Rattle.civl_tree.specs.declared.action.Action.{Action}
use Rattle.civl_tree.specs.declared.program.Program.{Program}
use Rattle.civl_tree.specs.rules.Names.{action_named}
use Rattle.civl_firing.specs.Truth.{place_of}
use Rattle.civl_firing.proofs.Finding.{found_at}

module _ (program : Program) (shown : List Action) (is_shown : shown ≡ program.actions) (name : Name) (at : ℕ)
    (at_is : at ≡ place_of (map (λ (a : Action). a.name) shown) name) where
  by_place : slice_get shown at ≡ action_named program name
  by_place =
      ap (slice_get shown) at_is
      ∙ ap (λ (actions : List Action). slice_get actions (place_of (map (λ (a : Action). a.name) actions) name)) is_shown
      ∙ found_at (λ (a : Action). a.name) program.actions name

  pub action_there : (action : Action) → at < length shown → action ≡ get_or shown at action → action_named program name ≡ Some action
  action_there action within is = sym by_place ∙ slice_get_read shown (length shown) at action refl within is

  pub no_action : length shown ≤ at → action_named program name ≡ None
  no_action past = sym by_place ∙ slice_get_past shown at past
