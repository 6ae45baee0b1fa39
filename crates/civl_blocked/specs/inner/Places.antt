-- Serves private functions: the code's places are those of the reduction.
use Rattle.civl_reduction.specs.interleavings.Reduction as reduction
use Rattle.civl_blocked.specs.declared.place.Place.{Place}
use Rattle.civl_blocked.specs.declared.place.Place.TheVariants as code

abbrev pub place_of : Place → reduction.Place
place_of code.Between = reduction.Between
place_of code.Early = reduction.Early
place_of code.Late = reduction.Late
