use Rattle.std.proofs.Common.{sym, ap, ◌∙◌, arith, List, Bool}
use Rattle.civl_blast.specs.reach.Marks.{marked}
use Rattle.civl_blast.proofs.rows.Walked.{walk_none, walk_step, walk_room, walk_parts, walk_all}
use Rattle.civl_blast.proofs.rows.walk.flatten.Goals as goal

pub loop-at-init : goal.loop-at-init
loop-at-init c = rw (c.new-cells.ensures.items, c.new-table.ensures.items) (walk_none c.args.terms.now c.args.id c.in_ok-marks.marks.items)

pub visit-requires-clause-room : goal.visit-requires-clause-room
visit-requires-clause-room c = λ y.
    let on = sym (ap (λ (xs : List Bool). marked xs c.loop-at.at) c.as_slice.ensures.value) ∙ y in
    omega (arith, walk_room c.len-count.ensures.graph c.in_ok-marks.ensures c.loop-at.invariant (omega arith) c.requires.within on, c.requires.light, c.next_number-first.ensures.low, c.len.ensures)

pub visit-requires-clause-shaped : goal.visit-requires-clause-shaped
visit-requires-clause-shaped c = λ y n e.
    let on = sym (ap (λ (xs : List Bool). marked xs c.loop-at.at) c.as_slice.ensures.value) ∙ y in
    rw c.as_slice-in-loop-at.ensures.value (walk_parts c.len-count.ensures.graph c.in_ok-marks.ensures c.loop-at.invariant (omega arith) c.requires.within on n e)

pub loop-at-preserved : goal.loop-at-preserved
loop-at-preserved c =
    walk_step _ _ _ _ _ _ c.len-count.ensures.graph c.len-count.ensures.distinct c.in_ok-marks.ensures c.loop-at.invariant (omega arith) c.requires.within
    c.as_slice.ensures.value c.as_slice-in-loop-at.ensures.value c.in_ok-ids.ensures.steps c.in_ok-ids.ensures.other c.in_ok-push.ensures.items

pub returns-clause-within : goal.returns-clause-within
returns-clause-within c = (walk_all _ _ c.len-count.ensures.graph c.in_ok-marks.ensures c.loop-at.invariant (omega arith) c.requires.within c.requires.boolean c.as_slice-2.ensures.value c.cell-id.ensures).within

pub returns-clause-rowless : goal.returns-clause-rowless
returns-clause-rowless c = (walk_all _ _ c.len-count.ensures.graph c.in_ok-marks.ensures c.loop-at.invariant (omega arith) c.requires.within c.requires.boolean c.as_slice-2.ensures.value c.cell-id.ensures).rowless

pub returns-clause-entries : goal.returns-clause-entries
returns-clause-entries c = rw c.from_vec.ensures ((walk_all _ _ c.len-count.ensures.graph c.in_ok-marks.ensures c.loop-at.invariant (omega arith) c.requires.within c.requires.boolean c.as_slice-2.ensures.value c.cell-id.ensures).entries)

pub returns-clause-fits : goal.returns-clause-fits
returns-clause-fits c = rw c.from_vec.ensures ((walk_all _ _ c.len-count.ensures.graph c.in_ok-marks.ensures c.loop-at.invariant (omega arith) c.requires.within c.requires.boolean c.as_slice-2.ensures.value c.cell-id.ensures).fits)

pub returns-clause-value : goal.returns-clause-value
returns-clause-value c = rw c.from_vec.ensures ((walk_all _ _ c.len-count.ensures.graph c.in_ok-marks.ensures c.loop-at.invariant (omega arith) c.requires.within c.requires.boolean c.as_slice-2.ensures.value c.cell-id.ensures).value)

pub returns-clause-weight : goal.returns-clause-weight
returns-clause-weight c = (walk_all _ _ c.len-count.ensures.graph c.in_ok-marks.ensures c.loop-at.invariant (omega arith) c.requires.within c.requires.boolean c.as_slice-2.ensures.value c.cell-id.ensures).weight

pub returns-clause-variables : goal.returns-clause-variables
returns-clause-variables c = rw c.from_vec.ensures ((walk_all _ _ c.len-count.ensures.graph c.in_ok-marks.ensures c.loop-at.invariant (omega arith) c.requires.within c.requires.boolean c.as_slice-2.ensures.value c.cell-id.ensures).variables)

pub returns-clause-reaches : goal.returns-clause-reaches
returns-clause-reaches c = rw c.from_vec.ensures ((walk_all _ _ c.len-count.ensures.graph c.in_ok-marks.ensures c.loop-at.invariant (omega arith) c.requires.within c.requires.boolean c.as_slice-2.ensures.value c.cell-id.ensures).reaches)
