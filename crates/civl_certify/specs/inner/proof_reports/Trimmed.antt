-- Serves private functions alone: what is shown of a condition, with a lean log; and that nothing is.
use Rattle.std.specs.Prelude.{◌≡◌, ⊤}
use Rattle.civl_rup.specs.Rup.{Refutes}
use Rattle.civl_proofs.specs.Lean.{IsLean}
use Rattle.civl_certify.specs.declared.certified.Shown.{Shown}
use Rattle.civl_certify.specs.declared.certified.Shown.TheVariants.{Holds, Fails, Undecided}
use Rattle.civl_certify.specs.declared.proof_reports.making.Making.{Making}
use Rattle.civl_certify.specs.declared.proof_reports.making.Making.TheVariants as making

-- a log that is there refutes its clause set
abbrev pub IsRefuting : Shown → Type 0
IsRefuting (Holds set log) = Refutes set log
IsRefuting (Fails counter) = ⊤
IsRefuting (Undecided log) = ⊤

-- the same, but that a log that is there is lean
abbrev pub IsTrimmed : Shown → Shown → Type 0
IsTrimmed (Holds set log) (Holds other lean) = (other ≡ set) × IsLean set lean
IsTrimmed (Holds set log) (Fails counter) = ⊥
IsTrimmed (Holds set log) (Undecided other) = ⊥
IsTrimmed (Fails counter) new = new ≡ Fails counter
IsTrimmed (Undecided log) new = new ≡ Undecided log

-- nothing is shown of a condition
abbrev pub IsUnshown : Making → Type 0
IsUnshown (making.Heavy first) = ⊤
IsUnshown (making.Beyond count) = ⊤
IsUnshown (making.Shown condition certified) = ⊥
