use Rattle.std.proofs.Common.{◌≡◌, drop}
use Rattle.civl_tree.specs.rules.Scopes.{sort_in, bind_params}
use Rattle.civl_types.proofs.view.param_sort.Given as goal

abbrev pub invariant-loop-param : goal.invariant-loop-param
invariant-loop-param l = sort_in (bind_params (drop l.param-index l.params)) l.name ≡ sort_in (bind_params l.fn.params) l.fn.name
