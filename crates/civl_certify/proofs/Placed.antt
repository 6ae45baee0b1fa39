-- What stands at a place of a list is in it; and where no formula is heavy, each condition of the list is light.
use Rattle.std.specs.Prelude.{Contains}
use Rattle.std.proofs.Common.{◌≡◌, ◌≤◌, length, refl, sym, None}
use Rattle.std.proofs.lemmas.Option.{slice_get_read}
use Rattle.civl_tree.specs.declared.program.Program.{Program}
use Rattle.civl_conditions.specs.declared.condition.Condition.{Condition}
use Rattle.civl_conditions.specs.Listed.{conditions}
use Rattle.civl_conditions.specs.Weights.{weight, weight_limit, heavy}
use Rattle.civl_verdicts.proofs.judging.Lightness.{conditions_are_light}

pub light_by : (program : Program) → heavy program ≡ None → (c : Condition) → Contains (conditions program) c → weight program c ≤ weight_limit
light_by program light c listed = conditions_are_light program light listed.0 c (slice_get_read (conditions program) (length (conditions program)) listed.0 c refl listed.1 (sym listed.2))
