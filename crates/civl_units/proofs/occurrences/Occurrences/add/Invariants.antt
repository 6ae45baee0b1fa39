use Rattle.std.proofs.Common.{◌≡◌, length, take}
use Rattle.civl_units.specs.Occurrences.{AreListed}
use Rattle.civl_units.proofs.occurrences.Occurrences.add.Given as goal

abbrev pub invariant-loop-lit : goal.invariant-loop-lit
invariant-loop-lit l = record {
  size : length l.self.variables ≡ length l.fn.self.variables;
  listed : AreListed l.fn.self l.self (take l.lit-index l.clause) l.number;
  units : l.self.units ≡ l.fn.self.units;
}
