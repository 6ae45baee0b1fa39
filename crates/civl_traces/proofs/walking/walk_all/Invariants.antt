use Rattle.std.proofs.Common.{drop}
use Rattle.civl_meaning.specs.Remaining.{rest_of}
use Rattle.civl_traces.specs.Traces.{tell_all}
use Rattle.civl_traces.specs.inner.Walking.{course_of, AreWithin}
use Rattle.civl_traces.proofs.Going.{Goes}
use Rattle.civl_traces.proofs.walking.walk_all.Given as goal

abbrev pub invariant-loop-one : goal.invariant-loop-one
invariant-loop-one l = record {
  within : AreWithin (rest_of (drop l.one-index l.rest));
  going : Goes l.initial.walker (tell_all (course_of l.fn.way) (rest_of l.fn.rest)) l.walker (tell_all (course_of l.fn.way) (rest_of (drop l.one-index l.rest)));
}
