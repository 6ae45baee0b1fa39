use Rattle.civl_units.proofs.MarkLemmas.{Scanned}
use Rattle.civl_units.proofs.rule.rule_of.Given as goal

abbrev pub invariant-loop-lit : goal.invariant-loop-lit
invariant-loop-lit l = Scanned l.marks l.clause l.open l.lit-index
