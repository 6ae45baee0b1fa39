use Rattle.std.proofs.Common.{refl, arith}
use Rattle.civl_blast.proofs.rows.Built.{makes_one, is_some_plain, two_parts}
use Rattle.civl_blast.proofs.rows.building.two.Goals as goal

pub two-requires-clause-fits : goal.two-requires-clause-fits
two-requires-clause-fits c = is_some_plain _ c.requires.plain

pub returns-clause-made : goal.returns-clause-made
returns-clause-made c = makes_one _ _ (record { below = (c.requires.a, c.requires.b); other = refl; parts = λ s u k q. two_parts s c.args.a c.args.b k u.0 u.1 q; first = λ s u. u.0; second = λ s u. u.1; third = λ s u. u.1; light = omega arith }) c.two.ensures.grows c.requires.plain c.in_ok-id.ensures.node c.in_ok-id.ensures.built
