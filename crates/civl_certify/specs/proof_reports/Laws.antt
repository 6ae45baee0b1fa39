-- What follows from the definitions.
use Rattle.std.specs.Prelude.{◌≡◌, ℕ, List, Option, IsTrue}
use Rattle.civl_tree.specs.SpellingDomain.{allows_program}
use Rattle.civl_tree.specs.declared.program.Program.{Program}
use Rattle.civl_tree.specs.rules.Rules.{Keeps}
use Rattle.civl_tree.specs.rules.Typing.{typing_rules}
use Rattle.civl_cnf.specs.Literal.{Literal}
use Rattle.civl_cnf.specs.ClauseSet.{ClauseSet}
use Rattle.civl_rup.specs.Rup.{IsUnsatisfiable}
use Rattle.civl_rup.specs.declared.answer.Replay.TheVariants.{Refutes}
use Rattle.civl_proofs.specs.Text.{IsCertificate}
use Rattle.civl_proofs.specs.Lean.{IsLean}
use Rattle.civl_conditions.specs.declared.condition.Condition.{Condition}
use Rattle.civl_conditions.specs.Violated.{Holds as HoldsOf}
use Rattle.civl_verdicts.specs.Formulas.{violation_formula, StandsForFormula}
use Rattle.civl_certify.specs.declared.certified.Shown.TheVariants.{Holds}
use Rattle.civl_certify.specs.declared.certified.Certified.TheVariants.{Answer}
use Rattle.civl_certify.specs.declared.proof_reports.making.Making.{Making}
use Rattle.civl_certify.specs.declared.proof_reports.making.Making.TheVariants.{Shown}
use Rattle.civl_certify.specs.declared.proof_reports.replaying.Replaying.{Replaying}
use Rattle.civl_certify.specs.declared.proof_reports.replaying.Replaying.TheVariants.{Read}
use Rattle.civl_certify.specs.proof_reports.Making.{IsMaking}
use Rattle.civl_certify.specs.proof_reports.Replaying.{IsReplaying}
use Rattle.civl_certify.specs.proof_reports.Reports.{certificate_text}
use Rattle.civl_certify.specs.proof_reports.Agreement.{Agree}

-- The text is a certificate of the clause set and the log. The clause set stands for the violation of the condition, the log is lean for
-- it, the condition holds, and what is found of the text is that its log refutes its clause set.
pub record StandsAlone (program : Program) (condition : Condition) (set : ClauseSet) (log : List (List Literal)) (text : List ℕ) : Type 0 where
  pub certificate : IsCertificate text set log
  pub stands : StandsForFormula (violation_formula program condition) set
  pub lean : IsLean set log
  pub holds : HoldsOf program condition
  pub replayed : IsReplaying text (Read Refutes)

-- what is printed of a condition that holds stands alone, where a text can spell the program
abbrev pub PrintedStandsAlone : Type 0
PrintedStandsAlone = (program : Program) (budget at : ℕ) (condition : Condition) (initial : Option (List (List Literal))) (set : ClauseSet) (log : List (List Literal)) → IsTrue (allows_program program)
    → IsMaking program budget at (Shown condition (Answer initial (Holds set log))) → StandsAlone program condition set log (certificate_text program condition set log)

-- where it is found that the log of a text refutes its clause set, no bits make its clauses true
abbrev pub RefutedIsUnsatisfiable : Type 0
RefutedIsUnsatisfiable = (text : List ℕ) (set : ClauseSet) (log : List (List Literal)) → IsReplaying text (Read Refutes) → IsCertificate text set log → IsUnsatisfiable set.clauses

abbrev pub MakingsAgree : Type 0
MakingsAgree = (program : Program) (budget limit at : ℕ) (first second : Making) → IsMaking program budget at first → IsMaking program limit at second → Agree first second

-- something is found of each program that keeps the rules on names and sorts, under each budget, by each number
abbrev pub EachProgramHasAMaking : Type 0
EachProgramHasAMaking = (program : Program) (budget at : ℕ) → Keeps typing_rules program → (making : Making) × IsMaking program budget at making

-- something is found of each text
abbrev pub EachTextHasAReplaying : Type 0
EachTextHasAReplaying = (text : List ℕ) → (replaying : Replaying) × IsReplaying text replaying

abbrev pub OneReplaying : Type 0
OneReplaying = (text : List ℕ) (first second : Replaying) → IsReplaying text first → IsReplaying text second → first ≡ second
