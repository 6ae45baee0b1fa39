use Rattle.std.proofs.Common.{cond}
use Rattle.civl_proofs.specs.inner.Reading.{Opening, Remark, IsReadTo}
use Rattle.civl_proofs.proofs.heading.comments_end.Given as goal

abbrev pub invariant-loop-at : goal.invariant-loop-at
invariant-loop-at l = IsReadTo l.bytes l.at (cond l.within Remark Opening)
