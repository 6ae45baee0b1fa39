use Rattle.std.proofs.Common.{arith, sym, ◌∙◌, [], filter}
use Rattle.std.specs.Prelude.{if◌then◌else◌}
use Rattle.civl_tree.specs.rules.StoreSize.{bits_of}
use Rattle.civl_conditions.specs.paths.Seen.{exists_near}
use Rattle.civl_weighing.proofs.Capping.{weighs_same}
use Rattle.civl_conditions.specs.Variables.{variable}
use Rattle.civl_weighing.proofs.Summing.{one_more, kept, bits_mapped, whole}
use Rattle.civl_weighing.proofs.bits.globals_near.Goals as goal

pub loop-global-preserved : goal.loop-global-preserved
loop-global-preserved c = one_more (λ x. if exists_near c.args.step x then bits_of x.sort else 0) c.args.globals.now c.loop-global.global-index c.global-item.result (omega arith) c.global-item.is c.plus-total.ensures (rw (← c.exists_near.ensures) c.bits_where.ensures) c.loop-global.invariant

pub returns : goal.returns
returns c = weighs_same (kept (exists_near c.args.step) (λ x. bits_of x.sort) c.args.globals.now ∙ sym (bits_mapped (λ g. variable [] g.name g.sort) (filter (exists_near c.args.step) c.args.globals.now))) (whole (λ x. if exists_near c.args.step x then bits_of x.sort else 0) c.args.globals.now c.loop-global.global-index (omega arith) c.loop-global.invariant)
