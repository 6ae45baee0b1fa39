use Rattle.std.proofs.Common.{sym, ap, ◌∙◌}
use Rattle.civl_types.specs.Views.{scope_of}
use Rattle.civl_subjects.specs.inner.Meant.{all_meant, sorts_at}
use Rattle.civl_subjects.proofs.Arguments.{next_argument}
use Rattle.civl_subjects.proofs.uses.arguments_subject.Goals as goal

pub returns-in-Some : goal.returns-in-Some
returns-in-Some c =
    sym (sym c.loop-at.invariant ∙ next_argument c.args.rule (scope_of c.args.view.now) c.args.args.now (sorts_at c.args.slots.now) c.loop-at.at c.index-args-at.result c.slot.result _
    c.loop-at-test.true c.index-args-at.is c.slot.ensures (sym (ap all_meant c.in-Some.is) ∙ c.target_subject.ensures))

pub loop-at-preserved : goal.loop-at-preserved
loop-at-preserved c =
    sym (next_argument c.args.rule (scope_of c.args.view.now) c.args.args.now (sorts_at c.args.slots.now) c.loop-at.at c.index-args-at.result c.slot.result _
    c.loop-at-test.true c.index-args-at.is c.slot.ensures (sym (ap all_meant c.in_default.is) ∙ c.target_subject.ensures))
    ∙ c.loop-at.invariant
