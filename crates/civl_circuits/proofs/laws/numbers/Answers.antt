use Rattle.std.proofs.Common.{refl}
use Rattle.civl_circuits.specs.Circuits.{blank}
use Rattle.civl_circuits.proofs.Numbers.{number-lt, number-append}
use Rattle.civl_circuits.proofs.BitByBit.{bit_at-number}
use Rattle.civl_circuits.proofs.laws.numbers.Goals as goal

pub returns-clause-examples : goal.returns-clause-examples
returns-clause-examples c = record { five = refl; two = refl; none = refl }

pub returns-clause-bits : goal.returns-clause-bits
returns-clause-bits c = λ v word j h. bit_at-number v word j blank h

pub returns-clause-fit : goal.returns-clause-fit
returns-clause-fit c = number-lt

pub returns-clause-join : goal.returns-clause-join
returns-clause-join c = number-append
