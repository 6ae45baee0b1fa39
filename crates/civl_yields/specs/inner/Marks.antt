-- Serves private functions: phases as the code finds them.
use Rattle.std.specs.Prelude.{Bool, true, false}
use Rattle.civl_yields.specs.declared.strays.Leave.{Leave as Lent}
use Rattle.civl_yields.specs.Places.{Leave}
use Rattle.civl_yields.specs.declared.phase.Phase.{Phase}
use Rattle.civl_yields.specs.declared.phase.Phase.TheVariants.{Right, Left, AsHead}

-- whether the block may have passed its turning point, where that is told of the head of the loop around
abbrev pub seen : Bool → Phase → Bool
seen head Right = false
seen head Left = true
seen head AsHead = head

-- what may stand in an expression, as the code says it
abbrev pub leave_of : Lent → Leave
leave_of lent = record { done = lent.done; old = lent.old }
