-- What an action gives has its sorts.
use Rattle.std.specs.Prelude.{◌≡◌, List}
use Rattle.civl_bits.specs.declared.value.Value.{Value}
use Rattle.civl_tree.specs.declared.action.Action.{Action}
use Rattle.civl_tree.specs.declared.program.Program.{Program}
use Rattle.civl_tree.specs.rules.Uses.{param_sorts}
use Rattle.civl_firing.specs.declared.store.Store.{Store}
use Rattle.civl_firing.specs.declared.firing.Fired.TheVariants.{Moved}
use Rattle.civl_firing.specs.Fired.{store_after, outs_after, fired}
use Rattle.civl_firing.specs.Stores.{IsStore}
use Rattle.civl_firing.specs.values.Values.{HaveSorts}
use Rattle.civl_soundness.specs.Scope.{Given}
use Rattle.civl_meaning.specs.Config.{choice_sorts}

-- from a store with the sorts of the globals, inputs with those of its parameters and choices with theirs, an action of a
-- program that keeps the static rules updates to a store with the sorts of the globals and to outputs with the sorts that
-- it declares, whatever its gate and its guard
abbrev pub UpdatesKeepSorts : Type 0
UpdatesKeepSorts =
    (program : Program) (action : Action) (store : Store) (inputs chosen : List Value) →
    Given program action store inputs → HaveSorts chosen (choice_sorts action) →
    IsStore program.globals (store_after program.globals store action inputs chosen)
    × HaveSorts (outs_after program.globals store action inputs chosen) (param_sorts action.outs)

-- so does what it gives where it fires
abbrev pub FiredIsSorted : Type 0
FiredIsSorted =
    (program : Program) (action : Action) (store after : Store) (inputs chosen outs : List Value) →
    Given program action store inputs → HaveSorts chosen (choice_sorts action) → fired program.globals store action inputs chosen ≡ Moved after outs →
    IsStore program.globals after × HaveSorts outs (param_sorts action.outs)
