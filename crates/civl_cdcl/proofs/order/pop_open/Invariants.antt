use Rattle.std.specs.BinaryHeap.{heap_len}
use Rattle.civl_cdcl.proofs.order.pop_open.Given as goal

abbrev pub decreases-entries : goal.decreases-entries
decreases-entries l = heap_len l.queue
