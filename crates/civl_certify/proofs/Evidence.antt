-- What the clauses that stand for a term show of the formula whose term it is.
use Rattle.std.specs.Prelude.{All, IsTrue}
use Rattle.std.proofs.Common.{ℕ, ◌*◌, ◌+◌, ◌≤◌, List}
use Rattle.civl_tree.specs.declared.expr.Sort.{Sort}
use Rattle.civl_firing.specs.values.Values.{is_sort}
use Rattle.civl_cnf.specs.Literal.{Literal}
use Rattle.civl_cnf.specs.ClauseSet.{ClauseSet, AreBelow}
use Rattle.civl_rup.specs.Rup.{Refutes, Spends}
use Rattle.civl_rup.proofs.Replays.{refuted}
use Rattle.civl_terms.specs.declared.node.Node.{Node}
use Rattle.civl_terms.specs.Weights.{graph_weight, term_weight}
use Rattle.civl_blast.specs.declared.blasted.Place.{Place}
use Rattle.civl_blast.specs.Standing.{NamesCells, StandsFor, GivesValues, IsSmall}
use Rattle.civl_states.specs.formula_parts.Given.{AreVariablesOf}
use Rattle.civl_verdicts.specs.Formulas.{Formula}
use Rattle.civl_verdicts.specs.decisions.Decided.{IsTermOf}
use Rattle.civl_verdicts.proofs.decisions.Concluding.{never_true, stands_for, decided_never}
use Rattle.civl_certify.specs.inner.Examined.{IsEvidence}
use Rattle.civl_certify.specs.declared.examining.Evidence.TheVariants.{Refuted, Spent}

module _ (ns : List Node) (id : ℕ) (sorts : List Sort) (budget : ℕ) (formula : Formula) (term : IsTermOf ns id sorts formula) (v_is : AreVariablesOf ns sorts) where
  module _ (set : ClauseSet) (places : List Place) (stands : StandsFor ns id set places) (gives : GivesValues ns places) (names : NamesCells ns id set.variables places) (limits : All (λ s. IsTrue (is_sort s)) sorts)
      (small : IsSmall set (4 * term_weight ns id + 2)) (less : term_weight ns id ≤ graph_weight ns) where
    -- the log refutes the clauses
    pub evidence_refuted : (log : List (List Literal)) → Refutes set log → AreBelow set.variables set.clauses → IsEvidence budget formula (Refuted set log)
    evidence_refuted log refutes below = (
      decided_never ns id sorts budget formula term (never_true ns id sorts v_is set places stands gives (refuted set log refutes)),
      record { stands = stands_for ns id sorts v_is set places stands gives names limits formula term small less; refutes = refutes; below = below },
    )

    -- the log spends the budget on the clauses
    pub evidence_spent : (log : List (List Literal)) → Spends set log budget → IsEvidence budget formula (Spent log)
    evidence_spent log spends = (set, stands_for ns id sorts v_is set places stands gives names limits formula term small less, spends)
