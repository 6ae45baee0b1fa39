use Rattle.std.proofs.Common.{arith, ◌-◌, length, sym, subst, ℕ}
use Rattle.civl_propagation.specs.Trail.{IsCut}
use Rattle.civl_propagation.proofs.Cutting.{cut_more, cut_standing, cut_count}
use Rattle.civl_propagation.proofs.trail.Trail.cut.Goals as goal

pub loop-self-init : goal.loop-self-init
loop-self-init c =
    let first = c.args.self.now in
    let n = length first.starts - 1 in
    let count = cut_count first c.pop_level.new.self n (omega arith) c.pop_level.ensures in
    record {
      cut = subst (λ (k : ℕ). IsCut first c.pop_level.new.self k) (sym count) c.pop_level.ensures;
      left = omega (arith, c.requires.some);
      fewer = omega (arith, c.requires.some);
    }

pub pop_level-requires-in-loop-self-clause-standing : goal.pop_level-requires-in-loop-self-clause-standing
pop_level-requires-in-loop-self-clause-standing c = cut_standing c.args.self.now c.loop-self.self (length c.loop-self.self.starts) c.requires.standing c.loop-self.invariant.cut

pub loop-self-preserved : goal.loop-self-preserved
loop-self-preserved c =
    let first = c.args.self.now in
    let now = c.loop-self.self in
    let new = c.pop_level-in-loop-self.new.self in
    let inv = c.loop-self.invariant in
    let n = length now.starts - 1 in
    let after = cut_more first now new c.requires.standing inv.fewer (omega arith) inv.cut c.pop_level-in-loop-self.ensures in
    let count = cut_count first new n (omega (arith, inv.fewer)) after in
    record {
      cut = subst (λ (k : ℕ). IsCut first new k) (sym count) after;
      left = omega arith;
      fewer = omega (arith, inv.fewer);
    }
