use Rattle.std.proofs.Common.{refl, arith}
use Rattle.civl_blast.proofs.rows.Built.{makes_one, is_some_plain, one_part}
use Rattle.civl_blast.proofs.rows.building.widen.Goals as goal

pub widen-requires-clause-fits : goal.widen-requires-clause-fits
widen-requires-clause-fits c = is_some_plain _ c.requires.plain

pub returns-clause-made : goal.returns-clause-made
returns-clause-made c = makes_one _ _ (record { below = c.requires.a; other = refl; parts = λ s u k q. one_part s c.args.a k u q; first = λ s u. u; second = λ s u. u; third = λ s u. u; light = omega arith }) c.widen.ensures.grows c.requires.plain c.in_ok-id.ensures.node c.in_ok-id.ensures.built
