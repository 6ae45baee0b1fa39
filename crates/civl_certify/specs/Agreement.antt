-- What two answers on one condition of one program may say: nothing against each other. Where one leaves open what the search for an
-- initial store or for violating values comes to, the other may say anything.
use Rattle.std.specs.Prelude.{None, Some, ⊤}
use Rattle.civl_certify.specs.declared.certified.Shown.{Shown}
use Rattle.civl_certify.specs.declared.certified.Shown.TheVariants.{Holds, Fails}
use Rattle.civl_certify.specs.declared.certified.Certified.{Certified}
use Rattle.civl_certify.specs.declared.certified.Certified.TheVariants.{NoInitial, Answer}

-- not one that the condition holds, and the other that it fails
abbrev pub ShownAgree : Shown → Shown → Type 0
ShownAgree (Holds set log) (Fails counter) = ⊥
ShownAgree (Fails counter) (Holds set log) = ⊥
ShownAgree first second = ⊤

-- not one that some store is initial, and the other that none is; and they agree on the condition
abbrev pub CertifiedAgree : Certified → Certified → Type 0
CertifiedAgree NoInitial NoInitial = ⊤
CertifiedAgree NoInitial (Answer None shown) = ⊥
CertifiedAgree NoInitial (Answer (Some log) shown) = ⊤
CertifiedAgree (Answer None shown) NoInitial = ⊥
CertifiedAgree (Answer (Some log) shown) NoInitial = ⊤
CertifiedAgree (Answer initial shown) (Answer other more) = ShownAgree shown more
