use Rattle.std.proofs.Common.{arith, sym, ◌∙◌, [], filter}
use Rattle.std.specs.Prelude.{if◌then◌else◌}
use Rattle.civl_tree.specs.rules.StoreSize.{bits_of}
use Rattle.civl_conditions.specs.footprints.Agreement.{exists_at}
use Rattle.civl_weighing.proofs.Capping.{weighs_same}
use Rattle.civl_conditions.specs.Variables.{variable}
use Rattle.civl_weighing.proofs.Summing.{one_more, kept, bits_mapped, whole}
use Rattle.civl_weighing.proofs.bits.globals_at.Goals as goal

pub loop-global-preserved : goal.loop-global-preserved
loop-global-preserved c = one_more (λ x. if exists_at c.args.layer x then bits_of x.sort else 0) c.args.globals.now c.loop-global.global-index c.global-item.result (omega arith) c.global-item.is c.plus-total.ensures (rw (← c.exists_at.ensures) c.bits_where.ensures) c.loop-global.invariant

pub returns : goal.returns
returns c = weighs_same (kept (exists_at c.args.layer) (λ x. bits_of x.sort) c.args.globals.now ∙ sym (bits_mapped (λ g. variable [] g.name g.sort) (filter (exists_at c.args.layer) c.args.globals.now))) (whole (λ x. if exists_at c.args.layer x then bits_of x.sort else 0) c.args.globals.now c.loop-global.global-index (omega arith) c.loop-global.invariant)
