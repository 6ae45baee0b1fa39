use Rattle.std.proofs.Common.{◌∙◌, sym}
use Rattle.civl_outlined.proofs.Fitted.{none_first, none_told}
use Rattle.civl_outlined.proofs.answer.misfit.Goals as goal

pub returns-in-Some : goal.returns-in-Some
returns-in-Some c = sym (sym c.in-Some.is ∙ c.in_ok-number.ensures)

pub returns-in-Some-first_descending : goal.returns-in-Some-first_descending
returns-in-Some-first_descending c = (none_first _ (sym c.in-None.is ∙ c.in_ok-number.ensures), sym c.in-Some-first_descending.ensures)

pub returns-in-None-first_descending : goal.returns-in-None-first_descending
returns-in-None-first_descending c = record {
  notes = none_first _ (sym c.in-None.is ∙ c.in_ok-number.ensures);
  roots = none_told _ c.in-None-first_descending.ensures;
}
