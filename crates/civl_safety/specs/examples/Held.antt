-- The flag program whose root calls an action with the flag as its gate (civl_goals, examples): with the flag as invariant an outline
-- proves that the call doesn't fail, and the outline that says nothing doesn't. All conditions of the program hold; so no
-- interleaving of its lowest program, where the root runs the procedure's body, fails.
use Rattle.std.specs.Prelude.{[], ◌∷◌, codes}
use Rattle.civl_tree.specs.declared.program.Program.{Program}
use Rattle.civl_firing.specs.examples.Written.{name}
use Rattle.civl_firing.specs.declared.store.Store.{Store}
use Rattle.civl_meaning.specs.Failing.{CanFail}
use Rattle.civl_meaning.specs.Initial.{IsInitial}
use Rattle.civl_meaning.specs.Layers.{lowest}
use Rattle.civl_reduction.specs.simulation.Followed.{IsAccepted}
use Rattle.civl_outlines.specs.declared.outline.Outline.{Outline}
use Rattle.civl_goals.specs.examples.Flag.{sets, outline_of}
use Rattle.civl_safety.specs.Outlined.{IsOutlined}

-- it begins with the flag set
abbrev pub gated : Program
gated = sets (name (codes "f")) (name (codes "f"))

abbrev pub held : Outline
held = outline_of gated (name (codes "f") ∷ []) []

abbrev pub silent : Outline
silent = outline_of gated [] []

abbrev pub HeldIsOutlined : Type 0
HeldIsOutlined = IsOutlined gated held

abbrev pub SilentIsNot : Type 0
SilentIsNot = IsOutlined gated silent → ⊥

abbrev pub GatedIsAccepted : Type 0
GatedIsAccepted = IsAccepted gated

abbrev pub GatedIsSafe : Type 0
GatedIsSafe = (store : Store) → IsInitial gated store → CanFail (lowest gated) store → ⊥
