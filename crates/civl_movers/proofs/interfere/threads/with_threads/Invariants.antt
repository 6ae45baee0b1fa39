use Rattle.std.specs.Prelude.{take}
use Rattle.civl_movers.proofs.interfere.Gathering.{ThreadsSo}
use Rattle.civl_movers.proofs.interfere.threads.with_threads.Given as goal

abbrev pub invariant-loop-thread : goal.invariant-loop-thread
invariant-loop-thread l = ThreadsSo l.fn.terms l.program l.globals l.fn.carried (take l.thread-index l.thread-items) l.terms l.more
