use Rattle.std.proofs.Common.{subst, sym, arith}
use Rattle.civl_script.proofs.Powers.{IsSize, is_size}
use Rattle.civl_script.proofs.written.index_of.Goals as goal

pub returns-in_default-clause-none : goal.returns-in_default-clause-none
returns-in_default-clause-none c e index low high size =
    let is = subst IsSize (sym size) (is_size index low high) in omega (arith, is, c.in_default)
