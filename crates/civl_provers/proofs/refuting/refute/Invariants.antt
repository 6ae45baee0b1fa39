use Rattle.std.proofs.Common.{◌≡◌, ◌++◌, List, vec_len}
use Rattle.civl_cnf.specs.Literal.{Literal}
use Rattle.civl_cnf.specs.ClauseSet.{ClauseSet}
use Rattle.civl_provers.specs.Splitter.{IsRefuted}
use Rattle.civl_provers.proofs.refuting.refute.Given as goal

abbrev pub invariant-loop-falses : goal.invariant-loop-falses
invariant-loop-falses l = record {
  refuted : (set : ClauseSet) → IsRefuted set l.fn.falses.items l.fn.log → IsRefuted set l.falses.items l.log;
  tail : List Literal;
  was : l.fn.falses.items ≡ l.falses.items ++ tail;
}

abbrev pub decreases-loop-falses : goal.decreases-loop-falses
decreases-loop-falses l = vec_len l.falses
