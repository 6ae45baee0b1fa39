use Rattle.std.proofs.Common.{IsTrue, subst, ap, sym, ◌∙◌}
use Rattle.std.proofs.lemmas.Bool.{true≢false}
use Rattle.civl_firing.specs.values.Values.{is_of}
use Rattle.civl_script.proofs.One.{one_value}
use Rattle.civl_script.proofs.schedule.entry_value.Goals as goal

pub returns-else-is_sorted-clause-none : goal.returns-else-is_sorted-clause-none
returns-else-is_sorted-clause-none c none value h =
    let same = one_value c.args.entry.now value c.in_ok-value.value h.written c.in_ok-value.ensures.some in
    true≢false (sym (subst IsTrue (ap (λ v. is_of v c.args.global.now.sort) same ∙ sym c.if-is_sorted.ensures) h.sorted))
