use Rattle.std.proofs.Common.{◌≡◌, ◌∙◌, List, ap, sym, false}
use Rattle.civl_bits.specs.declared.value.Value.{Value}
use Rattle.civl_firing.specs.Fired.{guard_holds}
use Rattle.civl_clashes.specs.inner.Calls.{meant}
use Rattle.civl_clashes.proofs.Offering.{waits_told, told_as}
use Rattle.civl_clashes.proofs.waiting.fire_violation.Goals as goal

pub returns-else-guard_holds : goal.returns-else-guard_holds
returns-else-guard_holds c =
    let x = c.args.call.now in
    let guard : guard_holds c.args.program.now.globals c.args.store x.action.now x.inputs.now c.in-Ok.chosen ≡ false =
    ap (λ (cs : List Value). guard_holds c.args.program.now.globals c.args.store x.action.now x.inputs.now cs) (sym c.as_slice.ensures)
    ∙ (sym c.guard_holds.ensures ∙ c.if-guard_holds.false) in
    told_as c.waits.result _ _ (sym (waits_told c.args.program.now c.args.store x.number (meant x) (sym c.gate_of.ensures ∙ c.if-not-gate_of.false) c.in-Ok.chosen c.in-Ok.ensures guard)) c.waits.ensures
