use Rattle.std.proofs.Common.{◌≡◌, ◌+◌, ◌<◌, length, take, subst, sym, ◌∙◌, arith}
use Rattle.civl_script.specs.Schedules.{AreEntriesOf, IsWrongEntry}
use Rattle.civl_script.proofs.Matching.{entries_on, entries_off, entries_end}
use Rattle.civl_script.proofs.schedule.store_values.Goals as goal

pub returns-in-None : goal.returns-in-None
returns-in-None c =
    let short : c.loop-at.at < length c.args.globals.now = grind (arith, c.min-common.ensures, c.loop-at-test.true) in
    let within : c.loop-at.at < length c.args.entries.now = grind (arith, c.min-common.ensures, c.loop-at-test.true) in
    entries_off c.args.globals.now c.args.entries.now c.loop-at.values.items c.loop-at.at c.index-globals-at.result c.index-entries-at.result
    short within c.index-globals-at.is c.index-entries-at.is c.loop-at.invariant (c.entry_value.ensures.none c.in-None.is)

pub loop-at-preserved : goal.loop-at-preserved
loop-at-preserved c =
    let short : c.loop-at.at < length c.args.globals.now = grind (arith, c.min-common.ensures, c.loop-at-test.true) in
    let within : c.loop-at.at < length c.args.entries.now = grind (arith, c.min-common.ensures, c.loop-at-test.true) in
    subst (λ values. AreEntriesOf (take (c.loop-at.at + 1) c.args.globals.now) (take (c.loop-at.at + 1) c.args.entries.now) values) (sym c.in_ok-push-in-Some.ensures.items) (
    entries_on c.args.globals.now c.args.entries.now c.loop-at.values.items c.loop-at.at c.index-globals-at.result c.index-entries-at.result c.in-Some.value
    short within c.index-globals-at.is c.index-entries-at.is c.loop-at.invariant c.in-Some.ensures.some)

pub returns-else-globals-entries : goal.returns-else-globals-entries
returns-else-globals-entries c =
    let is : c.loop-at.at ≡ c.min-common.result = omega (arith, c.loop-at-test.false, c.loop-at.auto.at-end) in
    subst (λ n. IsWrongEntry c.args.globals.now c.args.entries.now n) is (
    entries_end c.args.globals.now c.args.entries.now c.loop-at.values.items c.loop-at.at (is ∙ c.min-common.ensures) c.if-globals-entries.false c.loop-at.invariant)
