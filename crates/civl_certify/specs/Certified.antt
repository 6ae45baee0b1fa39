-- What is shown of one condition, with its certificate: clauses that stand for its violation (Tseitin, "On the complexity of derivation in
-- propositional calculus", 1968) and a log that refutes them (Goldberg and Novikov, "Verification of proofs of unsatisfiability for CNF
-- formulas", 2003), values that violate it, or a log that spends the budget.
use Rattle.std.specs.Prelude.{◌≡◌, ℕ, List, slice_get, Some}
use Rattle.civl_tree.specs.declared.program.Program.{Program}
use Rattle.civl_firing.specs.declared.store.Store.{Store}
use Rattle.civl_meaning.specs.Initial.{IsInitial}
use Rattle.civl_cnf.specs.Literal.{Literal}
use Rattle.civl_cnf.specs.ClauseSet.{ClauseSet, AreBelow}
use Rattle.civl_rup.specs.Rup.{Refutes}
use Rattle.civl_portfolio.specs.Prover.{Meanings}
use Rattle.civl_conditions.specs.declared.condition.Condition.{Condition}
use Rattle.civl_conditions.specs.Listed.{conditions}
use Rattle.civl_conditions.specs.Violated.{Violates, Holds as HoldsOf}
use Rattle.civl_verdicts.specs.Formulas.{Formula, violation_formula, IsWide, StandsForFormula}
use Rattle.civl_verdicts.specs.Verdicts.{SpendsOn}
use Rattle.civl_verdicts.specs.Surveys.{IsInitialFound}
use Rattle.civl_verdicts.specs.decisions.Decided.{WereAsked}
use Rattle.civl_certify.specs.declared.certified.Shown.{Shown}
use Rattle.civl_certify.specs.declared.certified.Shown.TheVariants.{Holds, Fails, Undecided}
use Rattle.civl_certify.specs.declared.certified.Certified.{Certified}
use Rattle.civl_certify.specs.declared.certified.Certified.TheVariants.{NoInitial, Answer}

-- the clause set stands for the formula, and the log refutes it
pub record IsRefutation (formula : Formula) (set : ClauseSet) (log : List (List Literal)) : Type 0 where
  pub stands : StandsForFormula formula set
  pub refutes : Refutes set log
  pub below : AreBelow set.variables set.clauses

-- the formula has no more lists of values than the budget
abbrev pub IsNarrow : ℕ → Formula → Type 0
IsNarrow budget formula = IsWide budget formula → ⊥

-- The condition holds, and the log refutes a clause set that stands for its violation; these values violate it; or the log spends the
-- budget on a clause set that stands for its violation, and the condition holds if its violation isn't wide.
abbrev pub IsShown : Program → ℕ → Condition → Shown → Type 0
IsShown program budget condition (Holds set log) = HoldsOf program condition × IsRefutation (violation_formula program condition) set log
IsShown program budget condition (Fails counter) = (counter.condition ≡ condition) × Violates program condition counter.values
IsShown program budget condition (Undecided log) = SpendsOn budget (violation_formula program condition) log × (IsNarrow budget (violation_formula program condition) → HoldsOf program condition)

-- No store is initial; or one is, or the search for one spent the budget, and this is shown of the condition.
abbrev pub IsCertified : Program → ℕ → Condition → Certified → Type 0
IsCertified program budget condition NoInitial = (store : Store) → IsInitial program store → ⊥
IsCertified program budget condition (Answer initial shown) = IsInitialFound program budget initial × IsShown program budget condition shown

-- the same of the condition with this number
abbrev pub IsCertifiedAt : Program → ℕ → ℕ → Certified → Type 0
IsCertifiedAt program budget number certified = (condition : Condition) × (slice_get (conditions program) number ≡ Some condition) × IsCertified program budget condition certified

-- ---- how often the provers were asked

-- once for the initial store, and once for the condition
abbrev pub searches_of : Certified → ℕ
searches_of NoInitial = 1
searches_of (Answer initial shown) = 2

-- the provers were asked in as many rounds as searches were made
abbrev pub CertifiedBy : {B : Type 0} → Certified → ℕ → List B → List B → Meanings B → Type 0
CertifiedBy certified budget before after m = WereAsked before after (searches_of certified) budget m
