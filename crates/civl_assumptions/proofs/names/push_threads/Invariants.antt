use Rattle.std.proofs.Common.{◌≡◌, ◌++◌, drop, flat_map}
use Rattle.civl_assumptions.specs.Names.{of_thread}
use Rattle.civl_assumptions.proofs.names.push_threads.Given as goal

abbrev pub invariant-loop-thread : goal.invariant-loop-thread
invariant-loop-thread l =
    l.names.items ++ flat_map (of_thread l.program) (drop l.thread-index l.program.threads)
    ≡ l.fn.names.items ++ flat_map (of_thread l.program) l.program.threads
