use Rattle.std.proofs.Common.{◌∙◌, sym}
use Rattle.civl_types.proofs.Answering.{is_answer, names_are_first, others_are_next}
use Rattle.civl_types.proofs.answer.refusal.Goals as goal

pub returns-in-Some-clause-same : goal.returns-in-Some-clause-same
returns-in-Some-clause-same c = names_are_first c.args.program.now c.in-Some.refusal (sym c.in-Some.is ∙ c.in_ok-refusal.ensures.same)

pub returns-in-Some-clause-first : goal.returns-in-Some-clause-first
returns-in-Some-clause-first c = is_answer c.args.program.now _ (names_are_first c.args.program.now c.in-Some.refusal (sym c.in-Some.is ∙ c.in_ok-refusal.ensures.same))

pub returns-clause-same : goal.returns-clause-same
returns-clause-same c = c.first_of_rules.ensures ∙ others_are_next c.args.program.now (sym c.in_ok-refusal.ensures.same ∙ c.in_default.is)

pub returns-clause-first : goal.returns-clause-first
returns-clause-first c = is_answer c.args.program.now _ (c.first_of_rules.ensures ∙ others_are_next c.args.program.now (sym c.in_ok-refusal.ensures.same ∙ c.in_default.is))
