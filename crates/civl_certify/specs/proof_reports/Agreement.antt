-- What may be found of one program and one number twice.
use Rattle.std.specs.Prelude.{◌≡◌}
use Rattle.civl_certify.specs.Agreement.{CertifiedAgree}
use Rattle.civl_certify.specs.declared.proof_reports.making.Making.{Making}
use Rattle.civl_certify.specs.declared.proof_reports.making.Making.TheVariants.{Heavy, Beyond, Shown}

-- the same refusal; or the same condition, and answers on it that agree
abbrev pub Agree : Making → Making → Type 0
Agree (Heavy first) (Heavy other) = first ≡ other
Agree (Beyond count) (Beyond other) = count ≡ other
Agree (Shown condition certified) (Shown other found) = (condition ≡ other) × CertifiedAgree certified found
Agree making other = ⊥
