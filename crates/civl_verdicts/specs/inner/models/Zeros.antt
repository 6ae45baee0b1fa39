-- Serves private functions alone: the zeros of some sorts.
use Rattle.std.specs.Prelude.{List, map}
use Rattle.civl_bits.specs.declared.value.Value.{Value}
use Rattle.civl_tree.specs.declared.expr.Sort.{Sort}
use Rattle.civl_firing.specs.values.Values.{zero_of}

abbrev pub zeros_of : List Sort → List Value
zeros_of sorts = map zero_of sorts
