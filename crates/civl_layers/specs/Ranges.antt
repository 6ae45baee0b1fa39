-- The layers in which a global or an action exists (layered concurrent programs, Kragl, Qadeer, CAV 2018). One that is
-- declared with `layers a to b` exists in the layers a to b.
use Rattle.std.specs.Prelude.{ℕ, ◌-◌, Bool, ◌&&◌, ◌||◌, nat_lt, nat_le, Option, None, Some}
use Rattle.civl_tree.specs.declared.program.Refines.{Refines}
use Rattle.civl_tree.specs.declared.program.Program.{Program}

-- the layers from the first to the last
pub record Range : Type 0 where
  pub first : ℕ
  pub last : ℕ

-- this layer is in the range
abbrev pub exists_in : ℕ → Range → Bool
exists_in layer range = nat_le range.first layer && nat_le layer range.last

-- all layers from this one to that one are in the range
abbrev pub exists_through : ℕ → ℕ → Range → Bool
exists_through from to range = nat_lt to from || (nat_le range.first from && nat_le to range.last)

-- the layer of a step or the one below it, between which the step goes, is in the range
abbrev pub exists_around : ℕ → Range → Bool
exists_around step range = exists_in (step - 1) range || exists_in step range

-- the last layer of the life of a body, which begins with layer 0: that below the procedure's layer; for a root the top
abbrev pub life_end : Program → Option Refines → ℕ
life_end program None = program.layers
life_end program (Some refines) = refines.layer - 1
