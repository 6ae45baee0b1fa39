-- What an action with its values means, where it is held by references.
use Rattle.civl_conditions.specs.Values.{Invoked}
use Rattle.civl_clashes.specs.declared.call.Call.{Call}

abbrev pub meant : Call → Invoked
meant call = record { action = call.action.now; inputs = call.inputs.now; chosen = call.chosen.now }
