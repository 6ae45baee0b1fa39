use Rattle.std.proofs.Common.{◌≡◌, drop}
use Rattle.civl_tree.specs.rules.Scopes.{sort_in, bind_locals}
use Rattle.civl_types.proofs.view.local_sort.Given as goal

abbrev pub invariant-loop-local : goal.invariant-loop-local
invariant-loop-local l = sort_in (bind_locals (drop l.local-index l.locals)) l.name ≡ sort_in (bind_locals l.fn.locals) l.fn.name
