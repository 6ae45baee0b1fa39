use Rattle.std.proofs.Common.{ℕ, List, ◌++◌, take}
use Rattle.civl_cnf.specs.Literal.{Literal}
use Rattle.civl_rup.specs.inner.Standing.{Stands}
use Rattle.civl_rup.proofs.replaying.load_log.Given as goal

abbrev pub invariant-loop-clause : goal.invariant-loop-clause
invariant-loop-clause l = (variables : ℕ) (so_far : List (List Literal)) → Stands l.fn.engine variables so_far l.begun → Stands l.engine variables (so_far ++ take l.clause-index l.clauses) l.refuted
