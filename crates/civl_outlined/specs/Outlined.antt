-- Outlines that fit a program, and what is answered where one doesn't, or where a goal weighs too much.
use Rattle.std.specs.Prelude.{◌≡◌, [], map, Option, None, Some, ⊤}
use Rattle.civl_tree.specs.declared.program.Program.{Program}
use Rattle.civl_tree.specs.rules.Rules.{first_of}
use Rattle.civl_outlines.specs.declared.outline.Outline.{Outline}
use Rattle.civl_goals.specs.Rules.{unfit, descending}
use Rattle.civl_goals.specs.Told.{told}
use Rattle.civl_goals.specs.Weights.{heavy}
use Rattle.civl_outlined.specs.declared.answer.OutlineFault.{OutlineFault}
use Rattle.civl_outlined.specs.declared.answer.OutlineFault.TheVariants.{Note, Roots, Heavy, Memory}

-- its holds and notes are expressions of their places; and in the topmost program threads run roots, and roots call actions
pub record Fits (program : Program) (outline : Outline) : Type 0 where
  pub notes : unfit program outline ≡ []
  pub roots : descending program ≡ []

-- this is the first hold or note that doesn't fit; or all fit, and this is the first place at which a root is called, or another
-- procedure is run; or the outline fits, and this is its first goal that weighs too much; or memory is wanting
abbrev pub IsFault : Program → Outline → OutlineFault → Type 0
IsFault program outline (Note number) = first_of (unfit program outline) ≡ Some number
IsFault program outline (Roots item statement) = (unfit program outline ≡ []) × (first_of (map told (descending program)) ≡ Some (item, statement))
IsFault program outline (Heavy goal) = Fits program outline × (heavy program outline ≡ Some goal)
IsFault program outline Memory = ⊤

-- the outline fits, or this is what it breaks
abbrev pub IsMisfit : Program → Outline → Option OutlineFault → Type 0
IsMisfit program outline None = Fits program outline
IsMisfit program outline (Some fault) = IsFault program outline fault
