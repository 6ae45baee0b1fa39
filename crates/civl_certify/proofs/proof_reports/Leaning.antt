-- What is shown of a condition, once its log is lean.
use Rattle.std.specs.Prelude.{slice_get}
use Rattle.std.proofs.Common.{◌≡◌, ◌∙◌, ℕ, List, refl, sym, subst, Option, None, Some}
use Rattle.std.proofs.lemmas.Option.{same_Some}
use Rattle.civl_tree.specs.declared.program.Program.{Program}
use Rattle.civl_cnf.specs.Literal.{Literal}
use Rattle.civl_cnf.specs.ClauseSet.{ClauseSet}
use Rattle.civl_proofs.specs.Lean.{IsLean}
use Rattle.civl_conditions.specs.declared.condition.Condition.{Condition}
use Rattle.civl_conditions.specs.Listed.{conditions}
use Rattle.civl_conditions.specs.Weights.{heavy}
use Rattle.civl_verdicts.specs.Formulas.{violation_formula}
use Rattle.civl_certify.specs.declared.certified.Shown.{Shown}
use Rattle.civl_certify.specs.declared.certified.Shown.TheVariants.{Holds, Fails, Undecided}
use Rattle.civl_certify.specs.declared.certified.Certified.{Certified}
use Rattle.civl_certify.specs.declared.certified.Certified.TheVariants.{Answer}
use Rattle.civl_certify.specs.Certified.{IsShown, IsCertified, IsCertifiedAt, IsRefutation}
use Rattle.civl_portfolio.specs.Prover.{Meanings}
use Rattle.civl_certify.specs.declared.proof_reports.making.Making.{Making}
use Rattle.civl_certify.specs.declared.proof_reports.making.Making.TheVariants as making
use Rattle.civl_certify.specs.proof_reports.Making.{IsShownAt, HasLeanLog, MadeBy}
use Rattle.civl_certify.specs.inner.proof_reports.Trimmed.{IsRefuting, IsTrimmed, IsUnshown}

-- what is said of the condition with a number, of that condition
pub certified_here : (program : Program) (budget at : ℕ) (c : Condition) (certified : Certified) → slice_get (conditions program) at ≡ Some c → IsCertifiedAt program budget at certified → IsCertified program budget c certified
certified_here program budget at c certified there h = subst (λ (d : Condition). IsCertified program budget d certified) (same_Some h.0 c (sym h.1 ∙ there)) h.2

refuting_by : (program : Program) (budget : ℕ) (c : Condition) (shown : Shown) → IsShown program budget c shown → IsRefuting shown
refuting_by program budget c (Holds set log) h = h.1.refutes
refuting_by program budget c (Fails counter) h = tt
refuting_by program budget c (Undecided log) h = tt

pub refuting : (program : Program) (budget : ℕ) (c : Condition) (initial : Option (List (List Literal))) (shown : Shown) → IsCertified program budget c (Answer initial shown) → IsRefuting shown
refuting program budget c initial shown h = refuting_by program budget c shown h.1

lean_refutation : (program : Program) (c : Condition) (set other : ClauseSet) (log lean : List (List Literal)) → other ≡ set → IsLean set lean → IsRefutation (violation_formula program c) set log → IsRefutation (violation_formula program c) other lean
lean_refutation program c set other log lean e l h = subst (λ (s : ClauseSet). IsRefutation (violation_formula program c) s lean) (sym e) (record { stands = h.stands; refutes = l.refutes; below = h.below })

shown_lean : (program : Program) (budget : ℕ) (c : Condition) (shown new : Shown) → IsShown program budget c shown → IsTrimmed shown new → IsShown program budget c new
shown_lean program budget c (Holds set log) (Holds other lean) h t = (h.0, lean_refutation program c set other log lean t.0 t.1 h.1)
shown_lean program budget c (Holds set log) (Fails counter) h t = absurd t
shown_lean program budget c (Holds set log) (Undecided other) h t = absurd t
shown_lean program budget c (Fails counter) new h t = subst (IsShown program budget c) (sym t) h
shown_lean program budget c (Undecided log) new h t = subst (IsShown program budget c) (sym t) h

has_lean : (initial : Option (List (List Literal))) (shown new : Shown) → IsTrimmed shown new → HasLeanLog (Answer initial new)
has_lean initial (Holds set log) (Holds other lean) t = subst (λ (s : ClauseSet). IsLean s lean) (sym t.0) t.1
has_lean initial (Holds set log) (Fails counter) t = absurd t
has_lean initial (Holds set log) (Undecided other) t = absurd t
has_lean initial (Fails counter) new t = subst (λ (s : Shown). HasLeanLog (Answer initial s)) (sym t) tt
has_lean initial (Undecided log) new t = subst (λ (s : Shown). HasLeanLog (Answer initial s)) (sym t) tt

pub shown_at : (program : Program) (budget at : ℕ) (c : Condition) (initial : Option (List (List Literal))) (shown new : Shown) → heavy program ≡ None → slice_get (conditions program) at ≡ Some c → IsCertified program budget c (Answer initial shown) → IsTrimmed shown new
    → IsShownAt program budget at c (Answer initial new)
shown_at program budget at c initial shown new light there h t = record {
  light = light;
  there = there;
  is = (h.0, shown_lean program budget c shown new h.1 t);
  lean = has_lean initial shown new t;
}

-- where nothing is shown, nobody was asked
pub unshown_made : {B : Type 0} (m : Meanings B) (made : Making) (budget : ℕ) (provers : List B) → IsUnshown made → MadeBy made budget provers provers m
unshown_made m (making.Heavy first) budget provers h = refl
unshown_made m (making.Beyond count) budget provers h = refl
unshown_made m (making.Shown condition certified) budget provers h = absurd h
