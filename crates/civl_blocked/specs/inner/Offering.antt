-- Serves private functions: the parts of what is offered.
use Rattle.std.specs.Prelude.{List, [], Option, None, Some}
use Rattle.civl_bits.specs.declared.value.Value.{Value}
use Rattle.civl_tree.specs.declared.action.Action.{Action}
use Rattle.civl_tree.specs.declared.program.Global.{Global}
use Rattle.civl_firing.specs.declared.store.Store.{Store}
use Rattle.civl_firing.specs.Fired.{offers}

abbrev pub offers_in : List Global → Store → Option Action → List Value → List Value
offers_in globals store None inputs = []
offers_in globals store (Some action) inputs = offers globals store action inputs
