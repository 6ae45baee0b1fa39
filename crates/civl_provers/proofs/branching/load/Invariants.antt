use Rattle.std.proofs.Common.{◌≡◌, [], length, take}
use Rattle.civl_propagation.specs.Trail.{AreDecided}
use Rattle.civl_propagation.specs.Engine.{IsAtRest}
use Rattle.civl_provers.proofs.branching.load.Given as goal

abbrev pub invariant-loop-at : goal.invariant-loop-at
invariant-loop-at l = record {
  rest : IsAtRest l.engine;
  clauses : l.engine.clauses ≡ take l.at l.cnf.clauses;
  size : length l.engine.trail.marks ≡ l.cnf.variables;
  decided : AreDecided l.engine.trail [];
}
