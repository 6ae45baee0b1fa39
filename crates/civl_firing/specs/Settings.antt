-- The scope at a place of a program.
use Rattle.std.specs.Prelude.{List, ◌++◌}
use Rattle.civl_bits.specs.declared.value.Value.{Value}
use Rattle.civl_firing.specs.declared.scope.Scope.{Scope}
use Rattle.civl_firing.specs.declared.setting.Setting.{Setting}
use Rattle.civl_firing.specs.Names.{names_of}
use Rattle.civl_firing.specs.Scope.{present_values, zeros_of_params, zeros_of_globals}

abbrev pub values_in : Setting → List Value
values_in s = s.store.now ++ (s.inputs.now ++ (s.chosen.now ++ (zeros_of_params s.zeros.now ++ zeros_of_globals s.names.behind.now)))

abbrev pub scope_in : Setting → Scope
scope_in s = present_values (names_of s.names) (values_in s)
