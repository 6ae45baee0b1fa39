-- Serves private functions alone: what is known where the search spent its budget.
use Rattle.std.specs.Prelude.{◌≡◌, ℕ, ◌^◌, ◌<◌, false, List, IsTrue}
use Rattle.civl_bits.specs.declared.value.Value.{Value}
use Rattle.civl_tree.specs.declared.expr.Sort.{Sort}
use Rattle.civl_firing.specs.values.Values.{HaveSorts, is_true}
use Rattle.civl_cnf.specs.Literal.{Literal}
use Rattle.civl_terms.specs.declared.node.Node.{Node}
use Rattle.civl_terms.specs.Graphs.{listed, value_at}
use Rattle.civl_verdicts.specs.decisions.Numbered.{bits_together}
use Rattle.civl_verdicts.specs.declared.decisions.decision.Decision.{Decision}
use Rattle.civl_verdicts.specs.declared.decisions.decision.Decision.TheVariants.{Never, At, Spent}

-- the bool is true at no values; it is true at these; or there are more lists of values than the budget, and this is the log
abbrev pub IsAnswered : List Node → ℕ → List Sort → ℕ → List (List Literal) → Decision → Type 0
IsAnswered ns id sorts budget log Never = (values : List Value) → HaveSorts values sorts → is_true (value_at (listed values) ns id) ≡ false
IsAnswered ns id sorts budget log (At values) = HaveSorts values sorts × IsTrue (is_true (value_at (listed values) ns id))
IsAnswered ns id sorts budget log (Spent other) = (other ≡ log) × (budget < 2 ^ bits_together sorts)
