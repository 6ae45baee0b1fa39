use Rattle.std.proofs.Common.{arith}
use Rattle.std.proofs.lemmas.List.{length-take-le}
use Rattle.civl_circuits.proofs.Divisions.{quotient_as, remainder_as}
use Rattle.civl_circuits.proofs.dividing.divide.Goals as goal

pub returns-clause-quotient : goal.returns-clause-quotient
returns-clause-quotient c = quotient_as _ _ _ c.requires.one c.divisor_width-width.ensures.value c.in_ok-quotient.ensures.quotient

pub returns-clause-remainder : goal.returns-clause-remainder
returns-clause-remainder c =
    remainder_as _ _ _ c.requires.one c.divisor_width-width.ensures.value c.in_ok-quotient.ensures.remainder
    (omega (arith, length-take-le c.divisor_width-width.result c.args.b.now c.divisor_width-width.ensures.within, c.divisor_width-width.ensures.within, c.requires.size))
    (rw c.as_slice.ensures.value at c.in_ok-remainder.ensures.word)
