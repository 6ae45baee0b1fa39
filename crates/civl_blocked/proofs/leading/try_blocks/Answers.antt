use Rattle.std.proofs.Common.{◌≡◌, ◌+◌, length, drop, arith, sym, subst}
use Rattle.std.specs.Prelude.{All}
use Rattle.civl_meaning.specs.Failing.{IsMove}
use Rattle.civl_blocked.specs.inner.Segments.{over, FailsTo}
use Rattle.civl_blocked.proofs.leading.try_blocks.Goals as goal

pub returns : goal.returns
returns c =
    let g = c.args.ground.now in
    let a = c.in_ok-arranged.arranged in
    let n : length a.blocks.items + length a.others.items ≡ c.args.count = omega (arith, a.blocks.ok.0, a.others.ok.0) in
    record {
      end = c.places_along.new.config;
      leads = c.in_ok-leads.ensures c.if-not-branch.false;
      fails = subst (λ k. FailsTo (over g) (drop k c.args.rest.now.items) c.places_along.new.config) (sym n) c.in_ok-places.ensures.fails;
      some = omega (arith, a.blocks.ok.0);
      there = omega (arith, n, c.args.rest.now.ok.0);
      block_moves = subst (All IsMove) c.as_slice-2.ensures.value c.are_moves.ensures;
      other_moves = subst (All IsMove) c.as_slice-3.ensures.value c.are_moves-2.ensures;
    }
