-- Serves private functions: the shadow before and behind a step.
use Rattle.std.specs.Prelude.{ℕ, ◌≡◌, Bool, true, false, Option, None, Some}
use Rattle.civl_tree.specs.declared.program.Program.{Program}
use Rattle.civl_firing.specs.declared.store.Store.{Store}
use Rattle.civl_reduction.specs.blocks.Shadow.{Shadow, merged, with_done}
use Rattle.civl_shadows.specs.declared.notes.Progress.{Progress}
use Rattle.civl_shadows.specs.declared.shadow.Shadow as kept
use Rattle.civl_shadows.specs.Shadows.{done_in}

-- with what took effect for the thread, if something did
abbrev pub with_effect : ℕ → Option Progress → Shadow → Shadow
with_effect t None shadow = shadow
with_effect t (Some p) shadow = record { store = record { values = p.values.items }; done = with_done shadow.done t p.done }

-- where the thread stood in no frame of the layer, a frame that is new has passed no commit
abbrev pub begun_by : ℕ → Bool → Shadow → Shadow
begun_by t true shadow = shadow
begun_by t false shadow = record { store = shadow.store; done = with_done shadow.done t false }

-- the state of the thread's frame in this store with the shadow's values
pub record IsProgressIn (program : Program) (layer number : ℕ) (store : Store) (kept : kept.Shadow) (p : Progress) : Type 0 where
  pub values : p.values.items ≡ (merged program layer store kept.store).values
  pub done : p.done ≡ done_in kept.done.items number
  pub again : p.again ≡ false
