-- Part of the claim: docs/CLAIM.md.
-- What a layered program is verified for: its lowest program fails only where its topmost one does.
use Rattle.civl_tree.specs.declared.program.Program.{Program}
use Rattle.civl_firing.specs.declared.store.Store.{Store}
use Rattle.civl_meaning.specs.Failing.{CanFail}
use Rattle.civl_meaning.specs.Layers.{lowest, topmost}
use Rattle.civl_meaning.specs.Initial.{IsInitial}

-- there is an initial store, and from each initial store from which the lowest program can fail, the topmost one can
pub record Preserves (program : Program) : Type 0 where
  pub starts : (store : Store) × IsInitial program store
  pub preserved : (store : Store) → IsInitial program store → CanFail (lowest program) store → CanFail (topmost program) store
