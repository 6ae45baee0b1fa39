use Rattle.std.proofs.Common.{◌∙◌, ◌<◌, List, length, true, subst}
use Rattle.civl_tree.specs.declared.program.Proc.{Proc}
use Rattle.civl_goals.proofs.Unheld.{of_some, of_none}
use Rattle.civl_goal_losses.specs.inner.Frames.{framed, holds_before}
use Rattle.civl_goal_losses.proofs.saying.note_holds.Goals as goal

pub holds_before-requires-clause-place : goal.holds_before-requires-clause-place
holds_before-requires-clause-place c = subst (λ (ps : List Proc). c.args.frame.now.procedure < length ps) c.as_slice.ensures c.in-Some.ensures.lookup.3.0

pub returns-in-Some : goal.returns-in-Some
returns-in-Some c =
    let frame = framed c.args.frame.now in
    c.holds_before.ensures
    ∙ of_some (holds_before c.args.program.now c.args.outline.now c.args.store.now frame) true c.args.program.now c.as_slice.result.now frame.procedure c.in-Some.proc.now c.as_slice.ensures c.in-Some.ensures.lookup.3.0 c.in-Some.ensures.lookup.1

pub returns-in-None : goal.returns-in-None
returns-in-None c =
    let frame = framed c.args.frame.now in
    of_none (holds_before c.args.program.now c.args.outline.now c.args.store.now frame) true c.args.program.now c.as_slice.result.now frame.procedure c.as_slice.ensures c.in-None.ensures.lookup.3
