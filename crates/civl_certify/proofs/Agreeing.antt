-- Answers on one condition agree.
use Rattle.std.proofs.Common.{◌∙◌, ℕ, sym, None, Some}
use Rattle.std.proofs.lemmas.Bool.{false≢true}
use Rattle.civl_tree.specs.declared.program.Program.{Program}
use Rattle.civl_conditions.specs.declared.condition.Condition.{Condition}
use Rattle.civl_certify.specs.declared.certified.Shown.{Shown}
use Rattle.civl_certify.specs.declared.certified.Shown.TheVariants.{Holds, Fails, Undecided}
use Rattle.civl_certify.specs.declared.certified.Certified.{Certified}
use Rattle.civl_certify.specs.declared.certified.Certified.TheVariants.{NoInitial, Answer}
use Rattle.civl_certify.specs.Certified.{IsShown, IsCertified}
use Rattle.civl_certify.specs.Agreement.{ShownAgree, CertifiedAgree}
use Rattle.civl_certify.specs.Laws.{AnswersOnOneAgree}

module _ (program : Program) (condition : Condition) (budget limit : ℕ) where
  shown_agree : (first second : Shown) → IsShown program budget condition first → IsShown program limit condition second → ShownAgree first second
  shown_agree (Holds set log) (Holds other more) a b = tt
  shown_agree (Holds set log) (Fails counter) a b = false≢true (sym (a.0 counter.values b.1.fit) ∙ b.1.fail)
  shown_agree (Holds set log) (Undecided more) a b = tt
  shown_agree (Fails counter) (Holds other more) a b = false≢true (sym (b.0 counter.values a.1.fit) ∙ a.1.fail)
  shown_agree (Fails counter) (Fails other) a b = tt
  shown_agree (Fails counter) (Undecided more) a b = tt
  shown_agree (Undecided log) (Holds other more) a b = tt
  shown_agree (Undecided log) (Fails other) a b = tt
  shown_agree (Undecided log) (Undecided more) a b = tt

  certified_agree : (first second : Certified) → IsCertified program budget condition first → IsCertified program limit condition second → CertifiedAgree first second
  certified_agree NoInitial NoInitial a b = tt
  certified_agree NoInitial (Answer None shown) a b = a b.0.0 b.0.1
  certified_agree NoInitial (Answer (Some log) shown) a b = tt
  certified_agree (Answer None shown) NoInitial a b = b a.0.0 a.0.1
  certified_agree (Answer (Some log) shown) NoInitial a b = tt
  certified_agree (Answer None shown) (Answer None other) a b = shown_agree shown other a.1 b.1
  certified_agree (Answer None shown) (Answer (Some more) other) a b = shown_agree shown other a.1 b.1
  certified_agree (Answer (Some log) shown) (Answer None other) a b = shown_agree shown other a.1 b.1
  certified_agree (Answer (Some log) shown) (Answer (Some more) other) a b = shown_agree shown other a.1 b.1

pub answers_on_one_agree : AnswersOnOneAgree
answers_on_one_agree program condition budget limit first second a b = certified_agree program condition budget limit first second a b
