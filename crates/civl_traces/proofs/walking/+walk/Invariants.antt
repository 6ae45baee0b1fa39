use Rattle.std.proofs.Common.{◌≡◌, ◌+◌, drop}
use Rattle.civl_tree.specs.Numbering.{sizes_of, numbered}
use Rattle.civl_traces.specs.Traces.{tell_all}
use Rattle.civl_traces.specs.inner.Walking.{course_of}
use Rattle.civl_traces.proofs.Going.{Goes}
use Rattle.civl_traces.proofs.walking.+walk.Given as goal

abbrev pub invariant-walk_stmts-loop-stmt : goal.invariant-walk_stmts-loop-stmt
invariant-walk_stmts-loop-stmt l = record {
  counted : l.here + sizes_of (drop l.stmt-index l.stmt-items) ≡ l.fn.number + sizes_of l.fn.stmts;
  going : Goes l.initial.walker (tell_all (course_of l.fn.way) (numbered l.fn.number l.fn.stmts)) l.walker (tell_all (course_of l.fn.way) (numbered l.here (drop l.stmt-index l.stmt-items)));
}
