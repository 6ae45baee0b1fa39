use Rattle.std.proofs.Common.{Bool, ◌≡◌, ◌++◌, map, drop}
use Rattle.civl_yields.specs.inner.Marks.{seen}
use Rattle.civl_yields.specs.Phases.{passed_all}
use Rattle.civl_yields.proofs.marking.+mark.Given as goal

abbrev pub invariant-mark_all-loop-stmt : goal.invariant-mark_all-loop-stmt
invariant-mark_all-loop-stmt l =
    ((head : Bool) → (passed_all l.program (drop l.stmt-index l.stmt-items) (seen head l.phase)).after ≡ (passed_all l.fn.program l.fn.stmts (seen head l.fn.before)).after)
    × ((head : Bool) → map (seen head) l.marks.items ++ (passed_all l.program (drop l.stmt-index l.stmt-items) (seen head l.phase)).befores
    ≡ map (seen head) l.fn.marks.items ++ (passed_all l.fn.program l.fn.stmts (seen head l.fn.before)).befores)
