-- Actions that exist in both layers do the same beside.
use Rattle.std.proofs.Common.{◌≡◌, ℕ, ◌+◌, true, List, refl, sym, ap, ◌∙◌, subst, Option, None, Some, slice_get}
use Rattle.civl_bits.specs.declared.value.Value.{Value}
use Rattle.civl_tree.specs.declared.action.Action.{Action}
use Rattle.civl_tree.specs.declared.program.Program.{Program}
use Rattle.civl_firing.specs.declared.store.Store.{Store}
use Rattle.civl_firing.specs.Fired.{gate_holds, fires}
use Rattle.civl_layers.specs.Ranges.{exists_in}
use Rattle.civl_layers.specs.Names.{action_range}
use Rattle.civl_layers.specs.Layered.{IsLayered}
use Rattle.civl_conditions.specs.footprints.Agreement.{StoresAgree, exists_at}
use Rattle.civl_conditions.specs.footprints.Laws.{FireAlike, ActsAlike}
use Rattle.civl_conditions.proofs.footprints.Acting.{acts_alike}
use Rattle.civl_conditions.proofs.footprints.Existing.{uses_what_exists}

module _ (program : Program) (layer : ℕ) (src : IsLayered program) (number : ℕ) (action : Action) (at : slice_get program.actions number ≡ Some action) (high : exists_in (layer + 1) (action_range action) ≡ true)
    (from to : Store) (near : StoresAgree (exists_at (layer + 1)) program.globals from to) (args : List Value) where
  -- in stores that agree on the globals of the upper program
  pub alike : ActsAlike (exists_at (layer + 1)) program.globals from to action args
  alike = acts_alike (exists_at (layer + 1)) program.globals from to action args near (uses_what_exists program number (layer + 1) action src at high)

  pub same_gate : gate_holds program.globals from action args ≡ gate_holds program.globals to action args
  same_gate = alike.gate

  -- what fires in the one fires in the other
  pub record FiresToo (chosen : List Value) (after : Store) (outs : List Value) : Type 0 where
    pub to_store : Store
    pub fires : fires program.globals to action args chosen ≡ Some (to_store, outs)
    pub agree : StoresAgree (exists_at (layer + 1)) program.globals after to_store

  pub fires_too : (chosen : List Value) (after : Store) (outs : List Value) → fires program.globals from action args chosen ≡ Some (after, outs) → FiresToo chosen after outs
  fires_too chosen after outs e = go (fires program.globals to action args chosen) refl (subst (λ (o : Option (Store × List Value)). FireAlike (exists_at (layer + 1)) program.globals o (fires program.globals to action args chosen)) e (alike.fired chosen))
    where
      go : (o : Option (Store × List Value)) → fires program.globals to action args chosen ≡ o → FireAlike (exists_at (layer + 1)) program.globals (Some (after, outs)) o → FiresToo chosen after outs
      go None q f = absurd f
      go (Some p) q f = record { to_store = p.0; fires = q ∙ ap (λ (os : List Value). Some (p.0, os)) (sym f.1); agree = f.0 }
