use Rattle.std.proofs.Common.{◌∙◌, sym}
use Rattle.civl_goals.specs.Rules.{descending_thread}
use Rattle.civl_goals.specs.Told.{told}
use Rattle.civl_goals.proofs.Placed.{found_item, found_behind, found_none}
use Rattle.civl_goals.proofs.rules.first_of_threads.Goals as goal

pub returns-in-Some : goal.returns-in-Some
returns-in-Some c =
    sym (sym c.loop-place.invariant
    ∙ found_item told (descending_thread c.args.program.now) c.as_slice-threads.result.now c.loop-place.place c.index-threads-place.result c.in-Some.first c.loop-place-test.true c.index-threads-place.is c.in-Some.ensures)

pub loop-place-preserved : goal.loop-place-preserved
loop-place-preserved c =
    found_behind told (descending_thread c.args.program.now) c.as_slice-threads.result.now c.loop-place.place c.index-threads-place.result c.loop-place-test.true c.index-threads-place.is c.in_default.ensures
    ∙ c.loop-place.invariant

pub returns : goal.returns
returns c = sym (sym c.loop-place.invariant ∙ found_none told (descending_thread c.args.program.now) c.as_slice-threads.result.now c.loop-place.place c.loop-place-test.false)
