use Rattle.std.proofs.Common.{take}
use Rattle.civl_propagation.specs.Watches.{BestSays}
use Rattle.civl_propagation.proofs.choice.best_of.Given as goal

abbrev pub invariant-loop-lit : goal.invariant-loop-lit
invariant-loop-lit l = BestSays l.trail (take l.lit-index l.clause) l.best
