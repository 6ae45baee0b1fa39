use Rattle.std.proofs.Common.{◌≡◌, ◌+◌, drop}
use Rattle.civl_tree.specs.Numbering.{sizes_of}
use Rattle.civl_conditions.specs.paths.Meets.{walk_all}
use Rattle.civl_conditions.proofs.paths.met.+meet.Given as goal

abbrev pub invariant-meet_all-loop-stmt : goal.invariant-meet_all-loop-stmt
invariant-meet_all-loop-stmt l = record {
  counted : l.here + sizes_of (drop l.stmt-index l.stmt-items) ≡ l.fn.number + sizes_of l.fn.stmts;
  walked : walk_all l.fn.from (drop l.stmt-index l.stmt-items) l.here l.met ≡ walk_all l.fn.from l.fn.stmts l.fn.number l.initial.met;
}
