-- The names in a scope.
use Rattle.std.specs.Prelude.{List, ◌++◌}
use Rattle.civl_tree.specs.declared.name.Name.{Name}
use Rattle.civl_firing.specs.declared.names.Names.{Names}
use Rattle.civl_firing.specs.Scope.{choice_names, local_names}
use Rattle.civl_tree.specs.rules.Names.{global_names, param_names}

abbrev pub names_of : Names → List Name
names_of ns =
    global_names ns.globals.now
    ++ (param_names ns.params.now
    ++ (choice_names ns.choices.now ++ (param_names ns.outs.now ++ (local_names ns.locals.now ++ global_names ns.behind.now))))
