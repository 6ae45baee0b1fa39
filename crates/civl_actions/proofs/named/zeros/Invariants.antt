use Rattle.std.proofs.Common.{take}
use Rattle.civl_terms.specs.Building.{Grows}
use Rattle.civl_actions.specs.inner.Steps.{AreZeros}
use Rattle.civl_actions.proofs.named.zeros.Given as goal

abbrev pub invariant-loop-out : goal.invariant-loop-out
invariant-loop-out l = AreZeros l.initial.terms l.terms (take l.out-index l.outs) l.ids.items × Grows l.initial.terms l.terms
