-- Of each program and each outline something is found.
use Rattle.std.specs.Prelude.{map, slice_get, get_or}
use Rattle.std.proofs.Common.{◌≡◌, ◌∙◌, ℕ, zero, suc, ◌≤◌, ◌⊎◌, inl, inr, List, [], ◌∷◌, length, refl, sym, ap, subst, arith, Option, None, Some}
use Rattle.std.proofs.lemmas.Bool.{cases_lt}
use Rattle.std.proofs.lemmas.Option.{same_Some, slice_get-get_or}
use Rattle.civl_bits.specs.declared.value.Value.{Value}
use Rattle.civl_tree.specs.declared.program.Program.{Program}
use Rattle.civl_tree.specs.rules.Rules.{Place, Keeps, first_of}
use Rattle.civl_tree.specs.rules.Typing.{typing_rules}
use Rattle.civl_tree.proofs.First.{none_first}
use Rattle.civl_outlines.specs.declared.outline.Outline.{Outline}
use Rattle.civl_conditions.specs.declared.condition.Condition.{Condition}
use Rattle.civl_conditions.specs.Weights.{heavy}
use Rattle.civl_verdicts.specs.declared.verdict.Verdict.{Verdict}
use Rattle.civl_verdicts.specs.declared.verdict.Verdict.TheVariants as verdict
use Rattle.civl_verdicts.specs.Verdicts.{IsVerdict}
use Rattle.civl_verdicts.proofs.judgements.Judging.{each_program_has_a_verdict}
use Rattle.civl_verdicts.proofs.findings.Surveying.{Some_, None_, some_or_none}
use Rattle.civl_goals.specs.declared.goal.Goal.{Goal}
use Rattle.civl_goals.specs.declared.goal.Goal.TheVariants.{Invariant}
use Rattle.civl_goals.specs.Listed.{goals}
use Rattle.civl_goals.specs.Failed.{failed}
use Rattle.civl_goals.specs.GoalHolds.{GoalHolds}
use Rattle.civl_goals.specs.Rules.{unfit, descending}
use Rattle.civl_goals.specs.Told.{told}
use Rattle.civl_goals.specs.Variables.{variables}
use Rattle.civl_goals.specs.Weights.{heavy as heavy_goal}
use Rattle.civl_outlined.specs.Outlined.{Fits}
use Rattle.civl_prove.specs.declared.proved.Proved.{Proved}
use Rattle.civl_prove.specs.declared.proved.Proved.TheVariants.{All, Fails}
use Rattle.civl_prove.specs.Proved.{GoalFails, HoldUpTo, Proves}
use Rattle.civl_prove.specs.declared.outline_reports.proving.Proving.{Proving}
use Rattle.civl_prove.specs.declared.outline_reports.proving.Proving.TheVariants.{Note, Roots, Heavy, HeavyGoal, Judged, Decided}
use Rattle.civl_prove.specs.outline_reports.Proving.{IsReady, IsProving}
use Rattle.civl_prove.specs.outline_reports.Laws.{EachOutlineIsAnswered}
use Rattle.civl_prove.proofs.outline_reports.Sorted.{goal_variables_have_sorts}

-- ---- whether some values make a formula true

none_told : (ps : List Place) → map told ps ≡ [] → ps ≡ []
none_told [] e = refl
none_told (p ∷ ps) e = absurd cc

module _ (program : Program) (outline : Outline) (budget : ℕ) (keeps : Keeps typing_rules program) where
  -- ---- the goals, up to the first that fails

  decided : (goal : Goal) → ((values : List Value) × GoalFails program outline goal values) ⊎ GoalHolds program outline goal
  decided goal = by (some_or_none (map (λ v. v.sort) (variables program goal)) (failed program outline goal) (goal_variables_have_sorts program keeps goal))
    where
      by : Some_ (map (λ v. v.sort) (variables program goal)) (failed program outline goal) ⊎ None_ (map (λ v. v.sort) (variables program goal)) (failed program outline goal)
          → ((values : List Value) × GoalFails program outline goal values) ⊎ GoalHolds program outline goal
      by (inl some) = inl (some.0, record { fit = some.1; fail = some.2 })
      by (inr none) = inr none

  abbrev IsFound : Type 0
  IsFound = (proved : Proved) × Proves program outline budget proved

  one_more : (place : ℕ) (goal : Goal) → HoldUpTo program outline place → slice_get (goals program outline) place ≡ Some goal → GoalHolds program outline goal → HoldUpTo program outline (suc place)
  one_more place goal before here holds i other l e = elim (cases_lt i place) [
    | inl low ↦ before i other low e
    | inr high ↦
        let same : i ≡ place = omega (arith, l, high) in
        subst (GoalHolds program outline) (same_Some goal other (sym here ∙ ap (slice_get (goals program outline)) (sym same) ∙ e)) holds
  ]

  up_to : (count : ℕ) → count ≤ length (goals program outline) → HoldUpTo program outline count ⊎ IsFound
  up_to zero l = inl (λ i goal low e. absurd (omega (arith, low)))
  up_to (suc count) l = by (up_to count (omega (arith, l))) (get_or (goals program outline) count Invariant) (slice_get-get_or (goals program outline) count Invariant (omega (arith, l)))
    where
      at : (goal : Goal) → slice_get (goals program outline) count ≡ Some goal → HoldUpTo program outline count → ((values : List Value) × GoalFails program outline goal values) ⊎ GoalHolds program outline goal
          → HoldUpTo program outline (suc count) ⊎ IsFound
      at goal there before (inl fails) = inr (Fails goal fails.0, ((count, record { there = there; before = before }), fails.1))
      at goal there before (inr holds) = inl (one_more count goal before there holds)

      by : HoldUpTo program outline count ⊎ IsFound → (goal : Goal) → slice_get (goals program outline) count ≡ Some goal → HoldUpTo program outline (suc count) ⊎ IsFound
      by (inl before) goal there = at goal there before (decided goal)
      by (inr found) goal there = inr found

  found : IsFound
  found = by (up_to (length (goals program outline)) (omega arith))
    where
      by : HoldUpTo program outline (length (goals program outline)) ⊎ IsFound → IsFound
      by (inl all) = (All (length (goals program outline)), (refl, all))
      by (inr one) = one

  -- ---- what refuses them, and the verdict

  abbrev IsAnswered : Type 0
  IsAnswered = (proving : Proving) × IsProving program outline budget proving

  judged : IsReady program outline → (v : Verdict) → IsVerdict program budget v → IsAnswered
  judged ready (verdict.Accepted count) right = (Decided count found.0, (ready, right, found.1))
  judged ready (verdict.Rejected counter) right = (Judged (verdict.Rejected counter), (ready, right, tt))
  judged ready (verdict.Undecided formula log) right = (Judged (verdict.Undecided formula log), (ready, right, tt))
  judged ready verdict.NoInitial right = (Judged verdict.NoInitial, (ready, right, tt))

  goals_weighed : Fits program outline → heavy program ≡ None → (first : Option Goal) → heavy_goal program outline ≡ first → IsAnswered
  goals_weighed fits light (Some goal) e = (HeavyGoal goal, (light, (fits, e)))
  goals_weighed fits light None e =
      let v = each_program_has_a_verdict program budget keeps in
      judged (record { fits = fits; light = light; light_goals = e }) v.0 v.1

  weighed : Fits program outline → (first : Option (Option Condition)) → heavy program ≡ first → IsAnswered
  weighed fits (Some first) e = (Heavy first, (fits, e))
  weighed fits None e = goals_weighed fits e (heavy_goal program outline) refl

  rooted : unfit program outline ≡ [] → (first : Option (ℕ × ℕ)) → first_of (map told (descending program)) ≡ first → IsAnswered
  rooted notes (Some (item, statement)) e = (Roots item statement, (notes, e))
  rooted notes None e = weighed (record { notes = notes; roots = none_told (descending program) (none_first (map told (descending program)) e) }) (heavy program) refl

  noted : (first : Option ℕ) → first_of (unfit program outline) ≡ first → IsAnswered
  noted (Some number) e = (Note number, e)
  noted None e = rooted (none_first (unfit program outline) e) (first_of (map told (descending program))) refl

  answered : IsAnswered
  answered = noted (first_of (unfit program outline)) refl

pub each_outline_is_answered : EachOutlineIsAnswered
each_outline_is_answered program outline budget keeps = answered program outline budget keeps
