use Rattle.std.proofs.Common.{take}
use Rattle.civl_terms.specs.Building.{Grows}
use Rattle.civl_moves.specs.Expressions.{AreZeros}
use Rattle.civl_moves.proofs.expressions.zeros.Given as goal

abbrev pub invariant-loop-global : goal.invariant-loop-global
invariant-loop-global l = AreZeros l.initial.terms l.terms (take l.global-index l.globals) l.ids.items × Grows l.initial.terms l.terms
