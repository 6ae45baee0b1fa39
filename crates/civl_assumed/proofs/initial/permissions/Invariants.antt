use Rattle.std.proofs.Common.{◌≡◌, ◌++◌, drop, flat_map}
use Rattle.civl_meaning.specs.Initial.{of_thread}
use Rattle.civl_meaning.specs.Permissions.{of_globals}
use Rattle.civl_assumed.proofs.initial.permissions.Given as goal

abbrev pub invariant-loop-thread : goal.invariant-loop-thread
invariant-loop-thread l =
    l.lists.items ++ flat_map (of_thread l.program l.store) (drop l.thread-index l.program.threads)
    ≡ of_globals l.program.globals l.store.values ++ flat_map (of_thread l.program l.store) l.program.threads
