-- Serves private functions alone: what is found of a formula by its term, with its certificate.
use Rattle.std.specs.Prelude.{◌≡◌, ℕ, false, List, IsTrue}
use Rattle.civl_bits.specs.declared.value.Value.{Value}
use Rattle.civl_firing.specs.values.Values.{HaveSorts}
use Rattle.civl_verdicts.specs.Formulas.{Formula}
use Rattle.civl_certify.specs.Certified.{IsRefutation}
use Rattle.civl_verdicts.specs.Verdicts.{SpendsOn}
use Rattle.civl_certify.specs.declared.examining.Evidence.{Evidence}
use Rattle.civl_certify.specs.declared.examining.Evidence.TheVariants.{Refuted, At, Spent}

-- no values of its variables make the formula true
abbrev pub IsNever : Formula → Type 0
IsNever formula = (values : List Value) → HaveSorts values formula.sorts → formula.truth values ≡ false

-- the log refutes the clause set, which stands for the formula; these values make it true; or the log spends the budget
abbrev pub IsEvidence : ℕ → Formula → Evidence → Type 0
IsEvidence budget formula (Refuted set log) = IsNever formula × IsRefutation formula set log
IsEvidence budget formula (At values) = HaveSorts values formula.sorts × IsTrue (formula.truth values)
IsEvidence budget formula (Spent log) = SpendsOn budget formula log
