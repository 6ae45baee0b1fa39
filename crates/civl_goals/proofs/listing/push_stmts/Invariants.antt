use Rattle.std.proofs.Common.{◌≡◌, ◌++◌, drop, map}
use Rattle.civl_conditions.specs.Steps.{each_at}
use Rattle.civl_goals.specs.Listed.{stmt_goals}
use Rattle.civl_goals.proofs.listing.push_stmts.Given as goal

abbrev pub invariant-loop-at : goal.invariant-loop-at
invariant-loop-at l = l.list ++ each_at (stmt_goals l.program l.others l.proc) l.at (map (λ stmt. stmt.now) (drop l.at l.flat)) ≡ l.fn.list ++ each_at (stmt_goals l.program l.others l.proc) 0 (map (λ stmt. stmt.now) l.flat)
