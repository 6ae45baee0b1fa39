-- For private functions alone: the scope of an action's gate at a call whose arguments are looked up in the frame of the
-- call.
use Rattle.std.specs.Prelude.{List, ◌++◌}
use Rattle.civl_bits.specs.declared.value.Value.{Value}
use Rattle.civl_firing.specs.declared.scope.Scope.{Scope}
use Rattle.civl_firing.specs.declared.asking.Asked.{Asked}
use Rattle.civl_firing.specs.Eval.{values_of}
use Rattle.civl_firing.specs.Names.{names_of}
use Rattle.civl_firing.specs.Scope.{present_values, zeros_of_params, zeros_of_globals}
use Rattle.civl_firing.specs.Settings.{scope_in}

abbrev pub asked_values : Asked → List Value
asked_values a =
    a.gate.store.now
    ++ (a.gate.inputs.now
    ++ (values_of (scope_in a.frame) a.args.now ++ (zeros_of_params a.gate.zeros.now ++ zeros_of_globals a.gate.names.behind.now)))

abbrev pub scope_asked : Asked → Scope
scope_asked a = present_values (names_of a.gate.names) (asked_values a)
