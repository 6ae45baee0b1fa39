use Rattle.std.proofs.Common.{◌≡◌, ◌≤◌, ◌-◌, ◌++◌, length}
use Rattle.civl_cnf.specs.ClauseSet.{AreBelow}
use Rattle.civl_propagation.specs.Engine.{EndsBy}
use Rattle.civl_cdcl.specs.inner.Notes.{IsClear}
use Rattle.civl_cdcl.specs.Outcome.{HaveLearned}
use Rattle.civl_cdcl.proofs.solving.search.Given as goal

abbrev pub invariant-turns : goal.invariant-turns
invariant-turns l = record {
  size : length l.engine.trail.marks ≡ l.cnf.variables;
  below : AreBelow l.cnf.variables l.cnf.clauses;
  clauses : l.engine.clauses ≡ l.cnf.clauses ++ l.log;
  ends : EndsBy l.engine l.ended;
  learned : HaveLearned l.cnf l.log (length l.log);
  few : length l.log ≤ l.budget;
  clear : IsClear l.notes.seen.items l.cnf.variables;
}

abbrev pub decreases-turns : goal.decreases-turns
decreases-turns l = l.budget - length l.log
