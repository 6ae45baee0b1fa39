use Rattle.std.proofs.Common.{◌≡◌, map, take}
use Rattle.civl_meaning.specs.Step.{begun}
use Rattle.civl_meaning.proofs.starting.start.Given as goal

abbrev pub invariant-loop-thread : goal.invariant-loop-thread
invariant-loop-thread l = l.threads.items ≡ map (begun l.plain.program l.store) (take l.thread-index l.thread-items)
