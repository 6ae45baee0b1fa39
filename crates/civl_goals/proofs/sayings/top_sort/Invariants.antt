use Rattle.std.proofs.Common.{◌≡◌, drop}
use Rattle.std.specs.Prelude.{filter}
use Rattle.civl_tree.specs.rules.Scopes.{sort_in, bind_globals}
use Rattle.civl_goals.specs.Outlines.{exists_on_top, top_globals}
use Rattle.civl_goals.proofs.sayings.top_sort.Given as goal

abbrev pub invariant-loop-global : goal.invariant-loop-global
invariant-loop-global l =
    sort_in (bind_globals (filter (exists_on_top l.program) (drop l.global-index l.global-items))) l.name ≡ sort_in (bind_globals (top_globals l.fn.program)) l.name
