-- Which globals a condition has variables for.
use Rattle.std.specs.Prelude.{Bool, true, List, map, filter}
use Rattle.civl_tree.specs.declared.expr.Sort.{Sort}
use Rattle.civl_tree.specs.declared.program.Global.{Global}
use Rattle.civl_tree.specs.declared.program.Program.{Program}
use Rattle.civl_conditions.specs.footprints.Agreement.{exists_at}
use Rattle.civl_conditions.specs.paths.Seen.{exists_near}
use Rattle.civl_states.specs.declared.stores.Existing.{Existing}
use Rattle.civl_states.specs.declared.stores.Existing.TheVariants.{Layer, Near, All}

-- those of a layer, those of the two layers of a step, or all
abbrev pub passes : Existing → Global → Bool
passes (Layer layer) = exists_at layer
passes (Near step) = exists_near step
passes All = λ g. true

-- their sorts
abbrev pub existing_sorts : Existing → Program → List Sort
existing_sorts which program = map (λ g. g.sort) (filter (passes which) program.globals)
