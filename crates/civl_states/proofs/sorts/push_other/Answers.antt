use Rattle.civl_states.specs.inner.Sorted.{thread_sorts}
use Rattle.civl_states.proofs.Grouping.{none_behind}
use Rattle.civl_states.proofs.sorts.push_other.Goals as goal

pub returns-in-None : goal.returns-in-None
returns-in-None c =
    rw c.in-Yield.is (none_behind thread_sorts c.args.sorts.now.items _ c.args.program.now.procs c.in-Yield.number c.as_slice.ensures c.in-None.ensures.lookup.3)
