use Rattle.std.proofs.Common.{rules, Bool, List, ◌≡◌, ◌++◌, map, ◌∙◌, ap, false}
use Rattle.std.specs.Prelude.{◌||◌}
use Rattle.civl_yields.specs.inner.Marks.{seen}
use Rattle.civl_yields.specs.Phases.{passed_all}
use Rattle.civl_yields.specs.declared.phase.Phase.{Phase}
use Rattle.civl_yields.proofs.Stepping.{stepping, seen_pushed, seen_then}
use Rattle.civl_yields.proofs.marking.+mark.Goals as goal

pub mark-returns-in-Yield-clause-marks : goal.mark-returns-in-Yield-clause-marks
mark-returns-in-Yield-clause-marks t c = λ head. seen_pushed head _ _ _ c.in_ok-push.ensures.items ∙ search (rules, stepping)

pub mark-returns-in-Call-clause-marks : goal.mark-returns-in-Call-clause-marks
mark-returns-in-Call-clause-marks t c = λ head. seen_pushed head _ _ _ c.in_ok-push.ensures.items ∙ search (rules, stepping)

pub mark-returns-in-Assign-clause-marks : goal.mark-returns-in-Assign-clause-marks
mark-returns-in-Assign-clause-marks t c = λ head. seen_pushed head _ _ _ c.in_ok-push.ensures.items ∙ search (rules, stepping)

pub mark-returns-in-Assign-2-clause-marks : goal.mark-returns-in-Assign-2-clause-marks
mark-returns-in-Assign-2-clause-marks t c = λ head. seen_pushed head _ _ _ c.in_ok-push.ensures.items ∙ search (rules, stepping)

pub mark-returns-in-Assign-3-clause-marks : goal.mark-returns-in-Assign-3-clause-marks
mark-returns-in-Assign-3-clause-marks t c = λ head. seen_pushed head _ _ _ c.in_ok-push.ensures.items ∙ search (rules, stepping)

pub mark-returns-in-Assign-4-clause-marks : goal.mark-returns-in-Assign-4-clause-marks
mark-returns-in-Assign-4-clause-marks t c = λ head. seen_pushed head _ _ _ c.in_ok-push.ensures.items ∙ search (rules, stepping)

pub mark-returns-in-Assign-5-clause-marks : goal.mark-returns-in-Assign-5-clause-marks
mark-returns-in-Assign-5-clause-marks t c = λ head. seen_pushed head _ _ _ c.in_ok-push.ensures.items ∙ search (rules, stepping)

pub mark-returns-in_ok-mark_all-in-YieldLoop-clause-marks : goal.mark-returns-in_ok-mark_all-in-YieldLoop-clause-marks
mark-returns-in_ok-mark_all-in-YieldLoop-clause-marks t c = λ head. seen_then head _ _ _ _ _ c.in_ok-push.ensures.items (c.in_ok-mark_all-in-YieldLoop.ensures.marks head) ∙ search (rules, stepping)

pub mark-returns-in_ok-add_inside-in-While-clause-marks : goal.mark-returns-in_ok-add_inside-in-While-clause-marks
mark-returns-in_ok-add_inside-in-While-clause-marks t c = λ head.
    let w : Bool = seen head c.at_head-head.result in
    let left : Bool = seen head c.args.before in
    let body = c.in-While.body in
    let program = c.args.program.now in
    let found : map (seen w) c.deref.result.now ≡ (passed_all program body w).befores =
    ap (map (seen w)) c.deref.ensures.value ∙ c.in_ok-end-in-While.ensures.marks w ∙ ap (λ (ps : List Phase). map (seen w) ps ++ (passed_all program body w).befores) c.new-found.ensures.items in
    let here : w ≡ (left || (passed_all program body false).after) = c.at_head-head.ensures head ∙ ap (λ (b : Bool). left || b) (c.in_ok-end-in-While.ensures.behind false) in
    seen_then head _ _ _ _ _ c.in_ok-push.ensures.items (c.in_ok-add_inside-in-While.ensures head ∙ ap (λ (bs : List Bool). map (seen head) c.push.new.self.items ++ bs) (found ∙ ap (λ (b : Bool). (passed_all program body b).befores) here))
    ∙ search (rules, stepping)
