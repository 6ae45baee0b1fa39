-- The code's shadows are those of civl_reduction::blocks.
use Rattle.std.specs.Prelude.{ℕ, ◌≡◌, Bool, false, List, length, slice_index_or}
use Rattle.civl_meaning.specs.declared.config.Plain.{Plain}
use Rattle.civl_meaning.specs.Layers.{program_at}
use Rattle.civl_layers.specs.Layered.{IsLayered}
use Rattle.civl_reduction.specs.blocks.Shadow.{Shadow, Shadowed}
use Rattle.civl_shadows.specs.declared.shadow.Shadow as code
use Rattle.civl_shadows.specs.declared.shadow.Shadowed as given

-- what a list says of each thread: of one that isn't there, that it has passed no commit
abbrev pub done_in : List Bool → ℕ → Bool
done_in done t = slice_index_or done t false

-- it has the values of this shadow, and says the same of each thread
pub record IsShadow (kept : code.Shadow) (shadow : Shadow) : Type 0 where
  pub store : kept.store ≡ shadow.store
  pub done : (t : ℕ) → done_in kept.done.items t ≡ shadow.done t

-- with the configuration
pub record Shows (kept : given.Shadowed) (s : Shadowed) : Type 0 where
  pub config : kept.config ≡ s.config
  pub shadow : IsShadow kept.shadow s.shadow
  pub one_each : length kept.shadow.done.items ≡ length kept.config.threads

-- the plain program is that of this layer of a layered program
pub record IsLayerOf (plain : Plain) (layer : ℕ) : Type 0 where
  pub layered : IsLayered plain.program
  pub is : plain ≡ program_at plain.program layer
