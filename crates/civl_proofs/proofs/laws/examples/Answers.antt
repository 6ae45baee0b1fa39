use Rattle.std.proofs.Common.{refl}
use Rattle.civl_proofs.proofs.Outcomes.{certificate_is, fault_is}
use Rattle.civl_proofs.proofs.laws.examples.Goals as goal

pub returns : goal.returns
returns c = record {
  refuting = certificate_is _ _ _ refl;
  least = certificate_is _ _ _ refl;
  free = certificate_is _ _ _ refl;
  unknown = fault_is _ _ refl;
  leading = fault_is _ _ refl;
  signed = fault_is _ _ refl;
  many = fault_is _ _ refl;
  long = fault_is _ _ refl;
  few = fault_is _ _ refl;
  more = fault_is _ _ refl;
  inside = fault_is _ _ refl;
  return = fault_is _ _ refl;
  late = fault_is _ _ refl;
  ends = fault_is _ _ refl;
  nothing = fault_is _ _ refl;
}
