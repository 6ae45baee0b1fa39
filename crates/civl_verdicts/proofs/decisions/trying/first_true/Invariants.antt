use Rattle.std.specs.Prelude.{◌≡◌, ℕ, ◌<◌, false}
use Rattle.civl_firing.specs.values.Values.{is_true}
use Rattle.civl_terms.specs.Graphs.{listed, value_at}
use Rattle.civl_verdicts.specs.decisions.Numbered.{values_numbered}
use Rattle.civl_verdicts.proofs.decisions.trying.first_true.Given as goal

abbrev pub invariant-loop-number : goal.invariant-loop-number
invariant-loop-number l = (n : ℕ) → n < l.number → is_true (value_at (listed (values_numbered l.sorts n)) l.terms l.id) ≡ false
