use Rattle.civl_cdcl.specs.inner.Analysis.{AreFound}
use Rattle.civl_cdcl.proofs.Analysing.{SeesSome}
use Rattle.civl_cdcl.proofs.analysis.see.Given as goal

abbrev pub invariant-loop-lit : goal.invariant-loop-lit
invariant-loop-lit l = record {
  sees : SeesSome l.places l.root l.fn.seen l.seen l.clause l.lit-index;
  found : AreFound l.seen l.found.items;
}
