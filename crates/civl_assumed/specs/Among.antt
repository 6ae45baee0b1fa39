-- Which globals have values in a condition.
use Rattle.std.specs.Prelude.{Bool, true}
use Rattle.civl_tree.specs.declared.program.Global.{Global}
use Rattle.civl_conditions.specs.footprints.Agreement.{exists_at}
use Rattle.civl_conditions.specs.paths.Seen.{exists_near}
use Rattle.civl_assumed.specs.declared.stores.Among.{Among}
use Rattle.civl_assumed.specs.declared.stores.Among.TheVariants.{All, Layer, Step}

abbrev pub test_of : Among → Global → Bool
test_of All = λ global. true
test_of (Layer layer) = exists_at layer
test_of (Step step) = exists_near step
