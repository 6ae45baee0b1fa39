use Rattle.std.proofs.Common.{◌≡◌, ◌++◌, map, take}
use Rattle.civl_cnf.proofs.cnf.push_all.Given as goal

abbrev pub invariant-loop-lits : goal.invariant-loop-lits
invariant-loop-lits l = l.clauses.items ≡ l.initial.clauses.items ++ map (λ lits. lits.now) (take l.lits-index l.added)
