use Rattle.std.proofs.Common.{◌≡◌, ◌++◌, map, take}
use Rattle.civl_tree.specs.rules.Names.{param_names}
use Rattle.civl_subjects.proofs.naming.push_params.Given as goal

abbrev pub invariant-loop-param : goal.invariant-loop-param
invariant-loop-param l =
    map (λ name. name.now) l.names.items ≡ map (λ name. name.now) l.fn.names.items ++ param_names (take l.param-index l.params)
