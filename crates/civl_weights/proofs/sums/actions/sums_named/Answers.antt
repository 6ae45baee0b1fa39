use Rattle.std.proofs.Common.{arith, sym, ◌∙◌}
use Rattle.civl_weighing.proofs.Listing.{got}
use Rattle.civl_weights.proofs.sums.Acting.{named_shown}
use Rattle.civl_weights.proofs.sums.actions.sums_named.Goals as goal

pub returns-then-same_name : goal.returns-then-same_name
returns-then-same_name c = named_shown c.args.program.now _ c.args.sums.now c.args.name.now c.loop-at.at c.index-actions-at.result _ c.as_slice-actions.ensures c.requires (omega arith) c.index-actions-at.is (sym c.same_name.ensures ∙ c.if-same_name.true) c.loop-at.invariant (c.copied.ensures ∙ got c.args.sums.now c.loop-at.at c.get.result c.get.ensures.lookup)
