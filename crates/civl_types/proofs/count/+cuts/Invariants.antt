use Rattle.std.proofs.Common.{◌≡◌, ◌+◌, ◌≤◌, min, drop}
use Rattle.civl_tree.specs.rules.Count.{cuts_in}
use Rattle.civl_types.proofs.count.+cuts.Given as goal

abbrev pub invariant-cuts_in-loop-stmt : goal.invariant-cuts_in-loop-stmt
invariant-cuts_in-loop-stmt l = (min (l.total + cuts_in (drop l.stmt-index l.stmt-items)) 257 ≡ min (cuts_in l.fn.stmts) 257) × (l.total ≤ 257)
