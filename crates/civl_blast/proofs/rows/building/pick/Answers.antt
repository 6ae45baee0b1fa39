use Rattle.std.proofs.Common.{refl, arith}
use Rattle.civl_blast.proofs.rows.Built.{makes_one, is_some_plain, three_parts}
use Rattle.civl_blast.proofs.rows.building.pick.Goals as goal

pub pick-requires-clause-fits : goal.pick-requires-clause-fits
pick-requires-clause-fits c = is_some_plain _ c.requires.plain

pub returns-clause-made : goal.returns-clause-made
returns-clause-made c = makes_one _ _ (record { below = (c.requires.c, c.requires.a, c.requires.b); other = refl; parts = λ s u k q. three_parts s c.args.c c.args.a c.args.b k u.0 u.1 u.2 q; first = λ s u. u.0; second = λ s u. u.1; third = λ s u. u.2; light = omega arith }) c.pick.ensures.grows c.requires.plain c.in_ok-id.ensures.node c.in_ok-id.ensures.built
