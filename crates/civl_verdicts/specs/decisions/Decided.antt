-- What the decision of a formula says (satisfiability: a model, or that there is none, or a search that was stopped by its budget).
use Rattle.std.specs.Prelude.{◌≡◌, ℕ, zero, suc, ◌*◌, ◌≤◌, false, List, IsTrue}
use Rattle.civl_bits.specs.declared.value.Value.{Value}
use Rattle.civl_tree.specs.declared.expr.Sort.{Sort}
use Rattle.civl_firing.specs.values.Values.{HaveSorts}
use Rattle.civl_cnf.specs.ClauseSet.{ClauseSet}
use Rattle.civl_cdcl.specs.declared.outcome.Outcome.{Outcome}
use Rattle.civl_portfolio.specs.Prover.{Meanings}
use Rattle.civl_portfolio.specs.Asked.{IsRound}
use Rattle.civl_terms.specs.declared.node.Node.{Node}
use Rattle.civl_terms.specs.Weights.{graph_weight}
use Rattle.civl_states.specs.Formulas.{IsFormula}
use Rattle.civl_verdicts.specs.Formulas.{Formula}
use Rattle.civl_verdicts.specs.Verdicts.{IsSpentOn}
use Rattle.civl_verdicts.specs.declared.decisions.decision.Decision.{Decision}
use Rattle.civl_verdicts.specs.declared.decisions.decision.Decision.TheVariants.{Never, At, Spent}

-- a formula over variables of these sorts, whose term this is, in a graph of at most four times its weight
pub record IsTermOf (ns : List Node) (id : ℕ) (sorts : List Sort) (formula : Formula) : Type 0 where
  pub same : formula.sorts ≡ sorts
  pub term : IsFormula ns id formula.sorts formula.truth
  pub weighs : graph_weight ns ≤ 4 * formula.weight

-- it is true at no values of its variables; it is true at these; or the log spends the budget on clauses that stand for it, and it
-- is wide for the budget
abbrev pub IsDecided : ℕ → Formula → Decision → Type 0
IsDecided budget formula Never = (values : List Value) → HaveSorts values formula.sorts → formula.truth values ≡ false
IsDecided budget formula (At values) = HaveSorts values formula.sorts × IsTrue (formula.truth values)
IsDecided budget formula (Spent log) = IsSpentOn budget formula log

-- the provers were asked in one round, about some clause set, with this budget
pub record WasAsked {B : Type 0} (before after : List B) (budget : ℕ) (m : Meanings B) : Type 0 where
  pub set : ClauseSet
  pub retired : ℕ
  pub outcome : Outcome
  pub round : IsRound before after retired set budget outcome m

-- and so in so many rounds, one after the other
abbrev pub WereAsked : {B : Type 0} → List B → List B → ℕ → ℕ → Meanings B → Type 0
WereAsked before after zero budget m = after ≡ before
WereAsked {B} before after (suc rounds) budget m = (between : List B) × WereAsked before between rounds budget m × WasAsked between after budget m
