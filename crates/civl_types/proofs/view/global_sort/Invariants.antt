use Rattle.std.proofs.Common.{◌≡◌, drop}
use Rattle.civl_tree.specs.rules.Scopes.{sort_in, bind_globals}
use Rattle.civl_types.proofs.view.global_sort.Given as goal

abbrev pub invariant-loop-global : goal.invariant-loop-global
invariant-loop-global l = sort_in (bind_globals (drop l.global-index l.globals)) l.name ≡ sort_in (bind_globals l.fn.globals) l.fn.name
