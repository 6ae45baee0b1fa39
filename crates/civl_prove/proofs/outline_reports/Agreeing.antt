-- What is found twice of one program and one outline.
use Rattle.std.specs.Prelude.{slice_get, map, unwrap_or}
use Rattle.std.proofs.Common.{◌≡◌, ◌∙◌, ℕ, ◌<◌, List, [], sym, ap, arith, true, false, Option, None, Some, inl, inr}
use Rattle.std.proofs.lemmas.Bool.{cases_lt}
use Rattle.std.proofs.lemmas.Option.{slice_get_within, same_Some}
use Rattle.civl_bits.specs.declared.value.Value.{Value}
use Rattle.civl_tree.specs.declared.program.Program.{Program}
use Rattle.civl_tree.specs.rules.Rules.{Place, first_of}
use Rattle.civl_outlines.specs.declared.outline.Outline.{Outline}
use Rattle.civl_conditions.specs.declared.condition.Condition.{Condition}
use Rattle.civl_conditions.specs.Weights.{heavy}
use Rattle.civl_verdicts.specs.declared.verdict.Verdict.TheVariants.{Accepted}
use Rattle.civl_verdicts.proofs.judgements.Judging.{verdicts_on_one_agree}
use Rattle.civl_goals.specs.declared.goal.Goal.{Goal}
use Rattle.civl_goals.specs.Listed.{goals}
use Rattle.civl_goals.specs.GoalHolds.{GoalHolds}
use Rattle.civl_goals.specs.Failed.{failed}
use Rattle.civl_goals.specs.Rules.{unfit, descending}
use Rattle.civl_goals.specs.Told.{told}
use Rattle.civl_goals.specs.Weights.{heavy as heavy_goal}
use Rattle.civl_prove.specs.declared.proved.Proved.{Proved}
use Rattle.civl_prove.specs.declared.proved.Proved.TheVariants.{All, Fails, Undecided}
use Rattle.civl_prove.specs.Proved.{GoalFails, IsReached, Proves}
use Rattle.civl_prove.specs.declared.outline_reports.proving.Proving.{Proving}
use Rattle.civl_prove.specs.declared.outline_reports.proving.Proving.TheVariants.{Note, Roots, Heavy, HeavyGoal, Judged, Decided}
use Rattle.civl_prove.specs.outline_reports.Agreement.{StandsUpTo, ProvedAgree, Agree}
use Rattle.civl_prove.specs.outline_reports.Proving.{IsProving}
use Rattle.civl_prove.specs.outline_reports.Laws.{ProvingsAgree}

not_none : {A : Type 0} (x : A) (o : Option A) → o ≡ Some x → o ≡ None → ⊥
not_none x o a b = let e = sym a ∙ b in cc

-- a pair inside an option
abbrev first_in : Option (ℕ × ℕ) → ℕ
first_in o = (unwrap_or o (0, 0)).0

abbrev second_in : Option (ℕ × ℕ) → ℕ
second_in o = (unwrap_or o (0, 0)).1

module _ (program : Program) (outline : Outline) where
  -- ---- goals

  not_both : (goal : Goal) (values : List Value) → GoalHolds program outline goal → GoalFails program outline goal values → ⊥
  not_both goal values holds fails =
      let one : failed program outline goal values ≡ false = holds values fails.fit in
      let other : failed program outline goal values ≡ true = fails.fail in
      cc

  -- a goal that fails stands before none that is reached
  not_before : (failing goal : Goal) (i j : ℕ) (values : List Value) → IsReached program outline failing i → IsReached program outline goal j → GoalFails program outline failing values → i < j → ⊥
  not_before failing goal i j values first second fails less = not_both failing values (second.before i failing less first.there) fails

  same_goal : (g h : Goal) (i j : ℕ) (vs ws : List Value) → IsReached program outline g i → IsReached program outline h j → GoalFails program outline g vs → GoalFails program outline h ws → g ≡ h
  same_goal g h i j vs ws first second one other = elim (cases_lt i j) [
    | inl low ↦ absurd (not_before g h i j vs first second one low)
    | inr up ↦ elim (cases_lt j i) [
      | inl low ↦ absurd (not_before h g j i ws second first other low)
      | inr down ↦
          let same : i ≡ j = omega (arith, up, down) in
          same_Some g h (sym first.there ∙ ap (slice_get (goals program outline)) same ∙ second.there)
    ]
  ]

  open_before : (open_ failing : Goal) (i j : ℕ) (values : List Value) → IsReached program outline open_ i → IsReached program outline failing j → GoalFails program outline failing values → StandsUpTo program outline open_ failing
  open_before open_ failing i j values first second fails = elim (cases_lt j i) [
    | inl less ↦ absurd (not_before failing open_ j i values second first fails less)
    | inr up_to ↦ record { place = i; there = first.there; bound = j; ends = second.there; up_to = up_to }
  ]

  module _ (budget limit : ℕ) where
    all_or_one : (count : ℕ) (goal : Goal) (values : List Value) (n : ℕ) → Proves program outline n (All count) → (place : ℕ) → IsReached program outline goal place → GoalFails program outline goal values → ⊥
    all_or_one count goal values n all place reached fails =
        let within = slice_get_within (goals program outline) place goal reached.there in
        not_both goal values (all.1 place goal (omega (arith, all.0, within)) reached.there) fails

    proved : (first second : Proved) → Proves program outline budget first → Proves program outline limit second → ProvedAgree program outline first second
    proved (All count) (All other) a b = a.0 ∙ sym b.0
    proved (All count) (Fails goal values) a b = all_or_one count goal values budget a b.0.0 b.0.1 b.1
    proved (All count) (Undecided goal log) a b = tt
    proved (Fails goal values) (All count) a b = all_or_one count goal values limit b a.0.0 a.0.1 a.1
    proved (Fails goal values) (Fails other others) a b = same_goal goal other a.0.0 b.0.0 values others a.0.1 b.0.1 a.1 b.1
    proved (Fails goal values) (Undecided other log) a b = open_before other goal b.0.0 a.0.0 values b.0.1 a.0.1 a.1
    proved (Undecided goal log) (All count) a b = tt
    proved (Undecided goal log) (Fails other values) a b = open_before goal other a.0.0 b.0.0 values a.0.1 b.0.1 b.1
    proved (Undecided goal log) (Undecided other more) a b = tt

  -- ---- what refuses them

  notes_fit : (number : ℕ) → first_of (unfit program outline) ≡ Some number → unfit program outline ≡ [] → ⊥
  notes_fit number a b = not_none number (first_of (unfit program outline)) a (ap first_of b)

  roots_fit : (place : ℕ × ℕ) → first_of (map told (descending program)) ≡ Some place → descending program ≡ [] → ⊥
  roots_fit place a b = not_none place (first_of (map told (descending program))) a (ap (λ (ps : List Place). first_of (map told ps)) b)

  is_light : (first : Option Condition) → heavy program ≡ Some first → heavy program ≡ None → ⊥
  is_light first a b = not_none first (heavy program) a b

  goals_are_light : (goal : Goal) → heavy_goal program outline ≡ Some goal → heavy_goal program outline ≡ None → ⊥
  goals_are_light goal a b = not_none goal (heavy_goal program outline) a b

  module _ (budget limit : ℕ) where
    agree : (first second : Proving) → IsProving program outline budget first → IsProving program outline limit second → Agree program outline first second
    agree (Note m) (Note n) a b = same_Some m n (sym a ∙ b)
    agree (Note m) (Roots i s) a b = notes_fit m a b.0
    agree (Note m) (Heavy f) a b = notes_fit m a b.0.notes
    agree (Note m) (HeavyGoal g) a b = notes_fit m a b.1.0.notes
    agree (Note m) (Judged v) a b = notes_fit m a b.0.fits.notes
    agree (Note m) (Decided n p) a b = notes_fit m a b.0.fits.notes
    agree (Roots i s) (Note n) a b = notes_fit n b a.0
    agree (Roots i s) (Roots j t) a b = let e : Some (i, s) ≡ Some (j, t) = sym a.1 ∙ b.1 in (ap first_in e, ap second_in e)
    agree (Roots i s) (Heavy f) a b = roots_fit (i, s) a.1 b.0.roots
    agree (Roots i s) (HeavyGoal g) a b = roots_fit (i, s) a.1 b.1.0.roots
    agree (Roots i s) (Judged v) a b = roots_fit (i, s) a.1 b.0.fits.roots
    agree (Roots i s) (Decided n p) a b = roots_fit (i, s) a.1 b.0.fits.roots
    agree (Heavy e) (Note n) a b = notes_fit n b a.0.notes
    agree (Heavy e) (Roots j t) a b = roots_fit (j, t) b.1 a.0.roots
    agree (Heavy e) (Heavy f) a b = same_Some e f (sym a.1 ∙ b.1)
    agree (Heavy e) (HeavyGoal g) a b = is_light e a.1 b.0
    agree (Heavy e) (Judged v) a b = is_light e a.1 b.0.light
    agree (Heavy e) (Decided n p) a b = is_light e a.1 b.0.light
    agree (HeavyGoal g) (Note n) a b = notes_fit n b a.1.0.notes
    agree (HeavyGoal g) (Roots j t) a b = roots_fit (j, t) b.1 a.1.0.roots
    agree (HeavyGoal g) (Heavy f) a b = is_light f b.1 a.0
    agree (HeavyGoal g) (HeavyGoal h) a b = same_Some g h (sym a.1.1 ∙ b.1.1)
    agree (HeavyGoal g) (Judged v) a b = goals_are_light g a.1.1 b.0.light_goals
    agree (HeavyGoal g) (Decided n p) a b = goals_are_light g a.1.1 b.0.light_goals
    agree (Judged v) (Note n) a b = notes_fit n b a.0.fits.notes
    agree (Judged v) (Roots j t) a b = roots_fit (j, t) b.1 a.0.fits.roots
    agree (Judged v) (Heavy f) a b = is_light f b.1 a.0.light
    agree (Judged v) (HeavyGoal h) a b = goals_are_light h b.1.1 a.0.light_goals
    agree (Judged v) (Judged w) a b = verdicts_on_one_agree program budget limit v w a.1 b.1
    agree (Judged v) (Decided n p) a b = verdicts_on_one_agree program budget limit v (Accepted n) a.1 b.1
    agree (Decided m p) (Note n) a b = notes_fit n b a.0.fits.notes
    agree (Decided m p) (Roots j t) a b = roots_fit (j, t) b.1 a.0.fits.roots
    agree (Decided m p) (Heavy f) a b = is_light f b.1 a.0.light
    agree (Decided m p) (HeavyGoal h) a b = goals_are_light h b.1.1 a.0.light_goals
    agree (Decided m p) (Judged w) a b = verdicts_on_one_agree program budget limit (Accepted m) w a.1 b.1
    agree (Decided m p) (Decided n q) a b = (a.1.2 ∙ sym b.1.2, proved budget limit p q a.2 b.2)

pub provings_agree : ProvingsAgree
provings_agree program outline budget limit first second a b = agree program outline budget limit first second a b
