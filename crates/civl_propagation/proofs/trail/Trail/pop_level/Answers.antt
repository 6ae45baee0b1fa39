use Rattle.std.proofs.Common.{arith, ◌≡◌, ◌<◌, ◌-◌, length, get_or, sym, ◌∙◌, ap, List, ℕ}
use Rattle.std.proofs.lemmas.List.{length-take-le}
use Rattle.civl_propagation.proofs.Cutting.{cutting_none, cutting_pop, pops, cut_by}
use Rattle.civl_propagation.proofs.trail.Trail.pop_level.Goals as goal

pub loop-self-init : goal.loop-self-init
loop-self-init c =
    let t = c.requires.standing.1 in
    let low = t.low (length c.args.self.now.starts - 1) (omega (arith, c.requires.some)) in
    record { cutting = cutting_none c.args.self.now; low = omega (arith, c.top-top.ensures) }

pub pop-requires-clause-last : goal.pop-requires-clause-last
pop-requires-clause-last c = pops c.args.self.now c.loop-self.self c.requires.standing c.loop-self.invariant.cutting (omega arith)

pub loop-self-preserved : goal.loop-self-preserved
loop-self-preserved c =
    let first = c.args.self.now in
    let now = c.loop-self.self in
    let inv = c.loop-self.invariant in
    let size = ap length inv.cutting.starts in
    let some : 0 < length now.starts = omega (arith, c.requires.some) in
    let top : get_or now.starts (length now.starts - 1) 0 ≡ c.top-top.result = ap (λ (x : List ℕ). get_or x (length x - 1) 0) inv.cutting.starts ∙ sym c.top-top.ensures in
    record {
      cutting = cutting_pop first now c.pop.new.self c.requires.standing inv.cutting c.pop.ensures some (omega arith);
      low = omega (arith, ap length c.pop.ensures.steps, length-take-le (length now.steps - 1) now.steps (omega arith));
    }

pub returns : goal.returns
returns c =
    let inv = c.loop-self.invariant in
    cut_by c.args.self.now c.loop-self.self c.unstart.new.self c.requires.some inv.cutting (omega (arith, inv.low, sym c.top-top.ensures)) c.unstart.ensures
