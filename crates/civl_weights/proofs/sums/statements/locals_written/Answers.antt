use Rattle.std.proofs.Common.{arith, map}
use Rattle.std.specs.Prelude.{if◌then◌else◌}
use Rattle.civl_tree.specs.rules.StoreSize.{bits_of}
use Rattle.civl_tree.specs.rules.Names.{has_name}
use Rattle.civl_weighing.proofs.Capping.{weighs_same}
use Rattle.civl_weights.proofs.sums.Naming.{written_is}
use Rattle.civl_weighing.proofs.Summing.{one_more, whole}
use Rattle.civl_weights.proofs.sums.statements.locals_written.Goals as goal

pub loop-local-preserved : goal.loop-local-preserved
loop-local-preserved c = one_more (λ x. if has_name (map (λ n. n.now) c.args.names.now) x.name then bits_of x.sort else 0) c.args.locals.now c.loop-local.local-index c.local-item.result (omega arith) c.local-item.is c.plus-total.ensures (rw (← c.is_any.ensures) c.bits_where.ensures) c.loop-local.invariant

pub returns : goal.returns
returns c = weighs_same (written_is (map (λ n. n.now) c.args.names.now) (λ x. record { name = x.name; sort = x.sort }) c.args.locals.now) (whole (λ x. if has_name (map (λ n. n.now) c.args.names.now) x.name then bits_of x.sort else 0) c.args.locals.now c.loop-local.local-index (omega arith) c.loop-local.invariant)
