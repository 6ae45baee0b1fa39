use Rattle.std.proofs.Common.{◌≡◌, ◌-◌, get_or, subst, arith, rules}
use Rattle.civl_circuits.proofs.Divisions.{low_less}
use Rattle.civl_circuits.proofs.dividing.width_below.Goals as goal

same : (c : goal.Else-ne) → c.index-word-width.result ≡ c.args.zero
same c = search rules

pub loop-width-preserved : goal.loop-width-preserved
loop-width-preserved c = low_less _ _ _ _ (omega (arith, c.loop-width-test.true)) c.loop-width.invariant (subst (λ l. l ≡ get_or c.args.word.now (c.loop-width.width - 1) l) (same c) c.index-word-width.is)
