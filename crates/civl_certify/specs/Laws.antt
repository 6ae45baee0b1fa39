-- What follows from the definitions: answers on one condition agree.
use Rattle.std.specs.Prelude.{ℕ}
use Rattle.civl_tree.specs.declared.program.Program.{Program}
use Rattle.civl_conditions.specs.declared.condition.Condition.{Condition}
use Rattle.civl_certify.specs.declared.certified.Certified.{Certified}
use Rattle.civl_certify.specs.Certified.{IsCertified}
use Rattle.civl_certify.specs.Agreement.{CertifiedAgree}

abbrev pub AnswersOnOneAgree : Type 0
AnswersOnOneAgree = (program : Program) (condition : Condition) (budget limit : ℕ) (first second : Certified) → IsCertified program budget condition first → IsCertified program limit condition second → CertifiedAgree first second
