-- Kinds of cuts.
use Rattle.std.proofs.Common.{◌≡◌, true, not, refl}
use Rattle.std.proofs.lemmas.Bool.{false≢true}
use Rattle.civl_layers.specs.declared.cut.CutKind.{CutKind}
use Rattle.civl_layers.specs.declared.cut.CutKind.TheVariants as kind
use Rattle.civl_conditions.specs.paths.Ends.{is_rank_loop, is_yield_cut}

-- a yield is no loop with a rank
pub yield_unranked : (k : CutKind) → is_yield_cut k ≡ true → not (is_rank_loop k) ≡ true
yield_unranked kind.Entry y = refl
yield_unranked kind.Yield y = refl
yield_unranked kind.YieldLoop y = refl
yield_unranked kind.RankLoop y = absurd (false≢true y)
