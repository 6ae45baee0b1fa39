use Rattle.civl_conditions.specs.Targets.{frame_size}
use Rattle.std.specs.Prelude.{◌+◌, ◌-◌, ◌≤◌, length, List, ℕ, Some, slice_get}
use Rattle.std.proofs.Common.{◌≡◌, ◌∙◌, ◌++◌, sym, ap, subst, arith}
use Rattle.civl_tree.specs.declared.expr.Sort.{Sort}
use Rattle.civl_tree.specs.declared.program.Proc.{Proc}
use Rattle.civl_tree.specs.declared.program.Program.{Program}
use Rattle.civl_conditions.specs.declared.condition.Target.TheVariants as target
use Rattle.civl_states.specs.Groups.{StandFrom}
use Rattle.civl_states.proofs.Picking.{same_some}
use Rattle.civl_refine.specs.inner.steadiness.Others.{other_sorts}
use Rattle.civl_refine.specs.inner.steadiness.Making.{IsFrameFrom, others_from}
use Rattle.civl_refine.proofs.steadiness.Framing.{others_are, others_long, others_weigh, others_front, last_stand, frame_ends, frame_says}
use Rattle.civl_refine.proofs.steadiness.makers.yield_target.Goals as goal

pub frame_from-requires-clause-stand : goal.frame_from-requires-clause-stand
frame_from-requires-clause-stand c =
    let p = c.args.src.now in
    let q = c.get-proc.result.now in
    let r = c.args.number in
    let y = c.args.place in
    let ss = c.args.sorts.now in
    let front = c.requires.end.front in
    let at = subst (λ (o : Program). slice_get o.procs r ≡ Some q) c.program-program.ensures.same c.get-proc.ensures in
    let here : length ss - (c.len.result + (c.len-2.result + c.len-3.result) + 1) ≡ length front =
    omega (arith, others_front ss p (target.Yield r y) front c.requires.end.is, others_long p r y q at, c.len.ensures, c.len-2.ensures, c.len-3.ensures) in
    subst (λ (n : ℕ). StandFrom ss n (other_sorts q)) (sym here) (last_stand ss front (other_sorts q) (c.requires.end.is ∙ ap (λ (xs : List Sort). front ++ xs) (others_are p r y q at)))

pub returns-clause-says : goal.returns-clause-says
returns-clause-says c = λ n l.
    let p = c.args.src.now in
    let q = c.get-proc.result.now in
    let r = c.args.number in
    let y = c.args.place in
    let ss = c.args.sorts.now in
    let front = c.requires.end.front in
    let m = c.frame_from.new.terms in
    let place = c.yield_at-at.result in
    let at = subst (λ (o : Program). slice_get o.procs r ≡ Some q) c.program-program.ensures.same c.get-proc.ensures in
    let same : q ≡ place.proc.now = same_some _ q place.proc.now c.get-proc.ensures c.yield_at-at.ensures.at.proc in
    let here : length ss - (c.len.result + (c.len-2.result + c.len-3.result) + 1) ≡ others_from ss p (target.Yield r y) =
    omega (arith, others_front ss p (target.Yield r y) front c.requires.end.is, others_long p r y q at, c.len.ensures, c.len-2.ensures, c.len-3.ensures) in
    let long = frame_ends ss p r y q at front c.requires.end.is in
    let frame = subst (λ (o : Proc). IsFrameFrom m o (length ss - (c.len.result + (c.len-2.result + c.len-3.result) + 1)) c.in_ok-frame.frame) same c.in_ok-frame.ensures.frame in
    frame_says m place.proc.now c.in_ok-frame.frame _ (others_from ss p (target.Yield r y)) n frame here (omega (arith, l, subst (λ (o : Proc). others_from ss p (target.Yield r y) + frame_size o + 1 ≤ length ss) same long))

pub returns-clause-weighs : goal.returns-clause-weighs
returns-clause-weighs c =
    let at = subst (λ (o : Program). slice_get o.procs c.args.number ≡ Some c.get-proc.result.now) c.program-program.ensures.same c.get-proc.ensures in
    omega (arith, c.in_ok-frame.ensures.weighs, others_weigh c.args.src.now c.args.number c.args.place c.get-proc.result.now at)
