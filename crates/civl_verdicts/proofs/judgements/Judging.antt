-- There is a verdict on each program, and verdicts on one program agree.
use Rattle.std.specs.Prelude.{slice_get, length, Option, None, Some}
use Rattle.std.proofs.Common.{◌≡◌, ◌∙◌, ℕ, suc, ◌+◌, inl, inr, List, [], ◌∷◌, refl, sym, ap, subst, arith}
use Rattle.std.proofs.lemmas.Bool.{cases_lt}
use Rattle.civl_tree.specs.declared.program.Program.{Program}
use Rattle.civl_tree.proofs.Pairs.{contains_at}
use Rattle.civl_cnf.specs.Literal.{Literal}
use Rattle.civl_conditions.specs.declared.condition.Condition.{Condition}
use Rattle.civl_conditions.specs.Listed.{conditions}
use Rattle.civl_conditions.specs.Violated.{Violates}
use Rattle.civl_verdicts.specs.declared.survey.Found.{Found}
use Rattle.civl_verdicts.specs.declared.survey.Found.TheVariants as found
use Rattle.civl_verdicts.specs.declared.survey.Survey.{Survey}
use Rattle.civl_verdicts.specs.declared.survey.Survey.TheVariants as survey
use Rattle.civl_verdicts.specs.declared.verdict.Counter.{Counter}
use Rattle.civl_verdicts.specs.declared.verdict.Verdict.{Verdict}
use Rattle.civl_verdicts.specs.declared.verdict.Verdict.TheVariants.{Accepted, Rejected, Undecided, NoInitial}
use Rattle.civl_verdicts.specs.Surveys.{AreFound, IsSurvey}
use Rattle.civl_verdicts.specs.Verdicts.{HasInitial, IsReached, IsVerdict}
use Rattle.civl_verdicts.proofs.Excluding.{not_both, not_before, same_place}
use Rattle.civl_verdicts.proofs.judging.Verdicts.{HoldBefore, none_before, one_more, all_hold}
use Rattle.civl_verdicts.proofs.findings.Surveying.{each_program_has_a_survey}
use Rattle.civl_verdicts.specs.judgements.Agreement.{StandsUpTo, IsSearchedBy, VerdictsAgree}
use Rattle.civl_verdicts.specs.judgements.Laws.{EachProgramHasAVerdict, VerdictsOnOneAgree}

-- ---- the verdict that a survey gives

module _ (program : Program) (budget : ℕ) (initial : HasInitial program) where
  abbrev HasVerdict : Type 0
  HasVerdict = (verdict : Verdict) × IsVerdict program budget verdict

  -- these are the conditions from this place on
  record AreFrom (place : ℕ) (cs : List Condition) : Type 0 where
    at : (i : ℕ) → slice_get (conditions program) (place + i) ≡ slice_get cs i
    all : length (conditions program) ≡ place + length cs

  first_of : (place : ℕ) (c : Condition) (cs : List Condition) → AreFrom place (c ∷ cs) → slice_get (conditions program) place ≡ Some c
  first_of place c cs h = let none : place + 0 ≡ place = omega arith in subst (λ (n : ℕ). slice_get (conditions program) n ≡ Some c) none (h.at 0)

  others_of : (place : ℕ) (c : Condition) (cs : List Condition) → AreFrom place (c ∷ cs) → AreFrom (place + 1) cs
  others_of place c cs h = record {
    at = λ i. let next : place + suc i ≡ place + 1 + i = omega arith in subst (λ (n : ℕ). slice_get (conditions program) n ≡ slice_get cs i) next (h.at (suc i));
    all = let e = h.all in omega (arith, e);
  }

  reached : (place : ℕ) (c : Condition) (cs : List Condition) → AreFrom place (c ∷ cs) → HoldBefore program place → IsReached program c place
  reached place c cs h before = record { initial = initial; there = first_of place c cs h; before = before }

  from_findings : (place : ℕ) (cs : List Condition) (fs : List Found) → AreFrom place cs → HoldBefore program place → AreFound program budget cs fs → HasVerdict
  from_findings place [] [] h before k = (Accepted (length (conditions program)), (initial, all_hold program place before (let e = h.all in omega (arith, e)), refl))
  from_findings place [] (f ∷ fs) h before k = absurd k
  from_findings place (c ∷ cs) [] h before k = absurd k
  from_findings place (c ∷ cs) (found.Holds ∷ fs) h before k = from_findings (place + 1) cs fs (others_of place c cs h) (one_more program place c before (first_of place c cs h) k.0) k.1
  from_findings place (c ∷ cs) (found.Fails counter ∷ fs) h before k = (
    Rejected counter,
    (
      (place, subst (λ (d : Condition). IsReached program d place) (sym k.0.0) (reached place c cs h before)),
      subst (λ (d : Condition). Violates program d counter.values) (sym k.0.0) k.0.1,
    ),
  )
  from_findings place (c ∷ cs) (found.Undecided log ∷ fs) h before k = (Undecided (Some c) log, ((place, reached place c cs h before), k.0))

from_survey : (program : Program) (budget : ℕ) (s : Survey) → IsSurvey program budget s → (verdict : Verdict) × IsVerdict program budget verdict
from_survey program budget survey.NoInitial h = (NoInitial, h)
from_survey program budget (survey.Findings (Some log) fs) h = (Undecided None log, h.0)
from_survey program budget (survey.Findings None fs) h = from_findings program budget h.0 0 (conditions program) fs (record { at = λ i. none_more i; all = omega arith }) (none_before program) h.1
  where
    none_more : (i : ℕ) → slice_get (conditions program) (0 + i) ≡ slice_get (conditions program) i
    none_more i = let same : 0 + i ≡ i = omega arith in ap (slice_get (conditions program)) same

pub each_program_has_a_verdict : EachProgramHasAVerdict
each_program_has_a_verdict program budget keeps = let s = each_program_has_a_survey program budget keeps in from_survey program budget s.0 s.1

-- ---- verdicts on one program

none_initial : (program : Program) (budget : ℕ) → HasInitial program → IsVerdict program budget NoInitial → ⊥
none_initial program budget initial none = none initial.0 initial.1

-- a condition that isn't decided stands no later than one that is violated, since all before it hold
open_before : (program : Program) (first : Condition) (counter : Counter) (i j : ℕ) → IsReached program first i → IsReached program counter.condition j
    → Violates program counter.condition counter.values → StandsUpTo program first counter.condition
open_before program first counter i j open_ rejected violates = elim (cases_lt j i) [
  | inl less ↦ absurd (not_before program counter.condition first j i counter.values rejected open_ violates less)
  | inr up_to ↦ record { place = i; there = open_.there; bound = j; ends = rejected.there; up_to = up_to }
]

module _ (program : Program) where
  open_by : (budget limit : ℕ) (formula : Option Condition) (log : List (List Literal)) (counter : Counter) → IsVerdict program budget (Undecided formula log) → IsVerdict program limit (Rejected counter) → IsSearchedBy program formula counter.condition
  open_by budget limit None log counter a b = tt
  open_by budget limit (Some first) log counter a b = open_before program first counter a.0.0 b.0.0 a.0.1 b.0.1 b.1

  open_first : (budget limit : ℕ) (formula : Option Condition) (log : List (List Literal)) → IsVerdict program budget (Undecided formula log) → IsVerdict program limit NoInitial → formula ≡ None
  open_first budget limit None log a b = refl
  open_first budget limit (Some first) log a b = absurd (none_initial program limit a.0.1.initial b)

  agree : (budget limit : ℕ) (first second : Verdict) → IsVerdict program budget first → IsVerdict program limit second → VerdictsAgree program first second
  agree budget limit (Accepted count) (Accepted other) a b = a.2 ∙ sym b.2
  agree budget limit (Accepted count) (Rejected counter) a b = not_both program counter.condition counter.values (a.1 counter.condition (contains_at (conditions program) b.0.0 counter.condition b.0.1.there)) b.1
  agree budget limit (Accepted count) (Undecided formula log) a b = tt
  agree budget limit (Accepted count) NoInitial a b = none_initial program limit a.0 b
  agree budget limit (Rejected counter) (Accepted count) a b = not_both program counter.condition counter.values (b.1 counter.condition (contains_at (conditions program) a.0.0 counter.condition a.0.1.there)) a.1
  agree budget limit (Rejected counter) (Rejected other) a b = same_place program counter.condition other.condition a.0.0 b.0.0 counter.values other.values a.0.1 b.0.1 a.1 b.1
  agree budget limit (Rejected counter) (Undecided formula log) a b = open_by limit budget formula log counter b a
  agree budget limit (Rejected counter) NoInitial a b = none_initial program limit a.0.1.initial b
  agree budget limit (Undecided formula log) (Accepted count) a b = tt
  agree budget limit (Undecided formula log) (Rejected counter) a b = open_by budget limit formula log counter a b
  agree budget limit (Undecided formula log) (Undecided other more) a b = tt
  agree budget limit (Undecided formula log) NoInitial a b = open_first budget limit formula log a b
  agree budget limit NoInitial (Accepted count) a b = none_initial program budget b.0 a
  agree budget limit NoInitial (Rejected counter) a b = none_initial program budget b.0.1.initial a
  agree budget limit NoInitial (Undecided formula log) a b = open_first limit budget formula log b a
  agree budget limit NoInitial NoInitial a b = tt

pub verdicts_on_one_agree : VerdictsOnOneAgree
verdicts_on_one_agree program budget limit first second a b = agree program budget limit first second a b
