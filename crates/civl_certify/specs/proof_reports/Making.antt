-- What is found of a program and one of its conditions, by its number.
use Rattle.std.specs.Prelude.{◌≡◌, ℕ, ◌≤◌, List, slice_get, length, None, Some, ⊤}
use Rattle.civl_tree.specs.declared.program.Program.{Program}
use Rattle.civl_portfolio.specs.Prover.{Meanings}
use Rattle.civl_proofs.specs.Lean.{IsLean}
use Rattle.civl_conditions.specs.declared.condition.Condition.{Condition}
use Rattle.civl_conditions.specs.Listed.{conditions}
use Rattle.civl_conditions.specs.Weights.{heavy}
use Rattle.civl_certify.specs.declared.certified.Shown.TheVariants.{Holds, Fails, Undecided}
use Rattle.civl_certify.specs.declared.certified.Certified.{Certified}
use Rattle.civl_certify.specs.declared.certified.Certified.TheVariants.{NoInitial, Answer}
use Rattle.civl_certify.specs.Certified.{IsCertified, CertifiedBy}
use Rattle.civl_certify.specs.declared.proof_reports.making.Making.{Making}
use Rattle.civl_certify.specs.declared.proof_reports.making.Making.TheVariants.{Heavy, Beyond, Shown}

-- where the condition holds, its log is lean
abbrev pub HasLeanLog : Certified → Type 0
HasLeanLog NoInitial = ⊤
HasLeanLog (Answer initial (Holds set log)) = IsLean set log
HasLeanLog (Answer initial (Fails counter)) = ⊤
HasLeanLog (Answer initial (Undecided log)) = ⊤

-- no formula weighs too much, the condition has the number, and this is shown of it
pub record IsShownAt (program : Program) (budget at : ℕ) (condition : Condition) (certified : Certified) : Type 0 where
  pub light : heavy program ≡ None
  pub there : slice_get (conditions program) at ≡ Some condition
  pub is : IsCertified program budget condition certified
  pub lean : HasLeanLog certified

-- this formula is the first that weighs too much; else no condition has the number, and there are so many; else this is shown of the
-- condition that has it
abbrev pub IsMaking : Program → ℕ → ℕ → Making → Type 0
IsMaking program budget at (Heavy first) = heavy program ≡ Some first
IsMaking program budget at (Beyond count) = (heavy program ≡ None) × (count ≡ length (conditions program)) × (count ≤ at)
IsMaking program budget at (Shown condition certified) = IsShownAt program budget at condition certified

-- the provers were asked in as many rounds as searches were made, where something is shown, and else not at all
abbrev pub MadeBy : {B : Type 0} → Making → ℕ → List B → List B → Meanings B → Type 0
MadeBy (Heavy first) budget before after m = after ≡ before
MadeBy (Beyond count) budget before after m = after ≡ before
MadeBy (Shown condition certified) budget before after m = CertifiedBy certified budget before after m
