-- Serves private functions: what an outline says, weighed.
use Rattle.std.specs.Prelude.{◌≡◌}
use Rattle.civl_tree.specs.declared.program.Program.{Program}
use Rattle.civl_tree.specs.Numbered.{IsNumbered}
use Rattle.civl_outlines.specs.declared.outline.Outline.{Outline}
use Rattle.civl_goals.specs.Weights.{invariant_weight}
use Rattle.civl_weighing.specs.Weighing.{Weighs}
use Rattle.civl_outlined.specs.declared.said.Said.{Said}
use Rattle.civl_outlined.specs.inner.Notes.{AreNotes}

-- it is what this outline says of this program
pub record IsOf (program : Program) (outline : Outline) (said : Said) : Type 0 where
  pub in_program : said.program.now ≡ program
  pub of_outline : said.outline.now ≡ outline

-- the weights are those of its outline in its program
pub record IsSaid (said : Said) : Type 0 where
  pub numbered : IsNumbered said.program.now
  pub holds : Weighs said.holds (invariant_weight said.program.now said.outline.now)
  pub notes : AreNotes said.program.now said.outline.now.notes said.notes
