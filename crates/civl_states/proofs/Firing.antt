-- An action that fires and then meets a test.
use Rattle.std.specs.Prelude.{if◌then◌else◌}
use Rattle.std.proofs.Common.{◌≡◌, Bool, true, false, ◌&&◌, List, refl, Some, None}
use Rattle.civl_bits.specs.declared.value.Value.{Value}
use Rattle.civl_tree.specs.declared.action.Action.{Action}
use Rattle.civl_tree.specs.declared.program.Program.{Program}
use Rattle.civl_firing.specs.declared.store.Store.{Store}
use Rattle.civl_firing.specs.Fired.{guard_holds, store_after, outs_after, fires}
use Rattle.civl_conditions.specs.Movers.{on_some}

pub fires_where : (guard : Bool) (s : Store × List Value) (test : Store × List Value → Bool) → on_some (if guard then Some s else None) test ≡ (guard && test s)
fires_where true s test = refl
fires_where false s test = refl

pub fires_is : (program : Program) (g : Store) (a : Action) (i c : List Value) (test : Store × List Value → Bool)
    → on_some (fires program.globals g a i c) test ≡ (guard_holds program.globals g a i c && test (store_after program.globals g a i c, outs_after program.globals g a i c))
unfolding fires
fires_is program g a i c test = fires_where (guard_holds program.globals g a i c) (store_after program.globals g a i c, outs_after program.globals g a i c) test
