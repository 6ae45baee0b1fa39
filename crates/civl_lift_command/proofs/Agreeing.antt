-- An input calls for one outcome, but for what a search leaves open, for the values that violate a condition, and for the ways in which a
-- schedule is lifted.
use Rattle.std.specs.Prelude.{Option}
use Rattle.std.proofs.Common.{◌≡◌, ℕ, ◌⊎◌, inl, inr, List, length, refl, sym, ap, ◌∙◌, subst, arith, Result, Ok, Err}
use Rattle.civl_tree.specs.declared.program.Program.{Program}
use Rattle.civl_tree.specs.declared.script.Script.{Script}
use Rattle.civl_firing.specs.declared.store.Store.{Store}
use Rattle.civl_meaning.specs.declared.config.Move.{Move}
use Rattle.civl_script.specs.declared.schedule.Schedule.TheVariants.{Fits, Wrong}
use Rattle.civl_script.proofs.Only.{one_schedule}
use Rattle.civl_conditions.specs.declared.condition.Condition.{Condition as Formula}
use Rattle.civl_conditions.specs.Listed.{conditions}
use Rattle.civl_verdicts.specs.declared.verdict.Verdict.{Verdict}
use Rattle.civl_verdicts.specs.declared.verdict.Verdict.TheVariants as verdict
use Rattle.civl_verdicts.specs.Verdicts.{IsVerdict}
use Rattle.civl_verdicts.specs.judgements.Agreement.{VerdictsAgree}
use Rattle.civl_verdicts.proofs.judgements.Judging.{verdicts_on_one_agree}
use Rattle.civl_frontend.specs.Texts.{limit}
use Rattle.civl_frontend.specs.Told.{OfRead}
use Rattle.civl_frontend.specs.declared.reader.Fault.{Fault}
use Rattle.civl_frontend.proofs.Reading.{one_script_reading}
use Rattle.civl_frontend.proofs.Once.{one_refusal, not_broken, one_weight, not_heavy, wrongs_same, wrong_not_fits, fits_stores, fits_moves}
use Rattle.civl_lift_command.specs.Lifting.{IsAccepted}
use Rattle.civl_lift_command.specs.Outcome.{Outcome, TooLong, Unread, Broken, Heavy, Judged, Misfit, NotInitial, NotFailing, Lifted, Spent, telling, Raises, RaisesGiven, IsNotAccepted, Lifts, FindsBy, CallsFor}
use Rattle.civl_lift_command.specs.Alike.{IsLeftOpen, IsBehind, AreAlike}
use Rattle.civl_lift_command.proofs.Ways.{IsDecided, IsMisfit, Ways, lift_way}

-- two outcomes are as alike as those that they are
alike_by : (first second one other : Outcome) → first ≡ one → second ≡ other → AreAlike one other → AreAlike first second
alike_by first second one other f s alike =
    subst (λ (o : Outcome). AreAlike o second) (sym f) (subst (λ (o : Outcome). AreAlike one o) (sym s) alike)

-- ---- a verdict beside what is found behind acceptance

module _ (program : Program) (budget : ℕ) (verdict_ : Verdict) (open_ : IsLeftOpen verdict_) where
  beside : (outcome : Outcome) → IsBehind outcome → AreAlike (Judged program budget verdict_) outcome
  beside (TooLong n) h = absurd h
  beside (Unread f) h = absurd h
  beside (Broken r) h = absurd h
  beside (Heavy p c) h = absurd h
  beside (Judged p w v) h = absurd h
  beside (Misfit n) h = (open_, tt)
  beside NotInitial h = (open_, tt)
  beside (NotFailing n) h = (open_, tt)
  beside (Lifted ms t) h = (open_, tt)
  beside (Spent k t) h = (open_, tt)

  behind : (outcome : Outcome) → IsBehind outcome → AreAlike outcome (Judged program budget verdict_)
  behind (TooLong n) h = absurd h
  behind (Unread f) h = absurd h
  behind (Broken r) h = absurd h
  behind (Heavy p c) h = absurd h
  behind (Judged p w v) h = absurd h
  behind (Misfit n) h = (open_, tt)
  behind NotInitial h = (open_, tt)
  behind (NotFailing n) h = (open_, tt)
  behind (Lifted ms t) h = (open_, tt)
  behind (Spent k t) h = (open_, tt)

-- a verdict on an accepted program that isn't that of acceptance was left open
left_open : (program : Program) (budget : ℕ) (verdict_ : Verdict) → IsAccepted program → IsVerdict program budget verdict_ → IsNotAccepted verdict_ → IsLeftOpen verdict_
left_open program budget verdict_ accepted right other = by verdict_ other (verdicts_on_one_agree program budget budget verdict_ (verdict.Accepted (length (conditions program))) right (accepted.initial, accepted.hold, refl))
  where
    by : (v : Verdict) → IsNotAccepted v → VerdictsAgree program v (verdict.Accepted (length (conditions program))) → IsLeftOpen v
    by (verdict.Accepted count) not agree = absurd not
    by (verdict.Rejected counter) not agree = absurd agree
    by (verdict.Undecided formula log) not agree = tt
    by verdict.NoInitial not agree = absurd agree

-- ---- what is found of a store and moves

module _ (program : Program) (store : Store) (moves : List Move) where
  raised_behind : (outcome : Outcome) → Raises program store moves outcome → IsBehind outcome
  raised_behind (TooLong n) h = absurd h
  raised_behind (Unread f) h = absurd h
  raised_behind (Broken r) h = absurd h
  raised_behind (Heavy p c) h = absurd h
  raised_behind (Judged p w v) h = absurd h
  raised_behind (Misfit n) h = absurd h
  raised_behind NotInitial h = tt
  raised_behind (NotFailing n) h = tt
  raised_behind (Lifted ms t) h = tt
  raised_behind (Spent k t) h = tt

  one_raise : (first second : Outcome) → Raises program store moves first → Raises program store moves second → AreAlike first second
  one_raise (TooLong n) second a b = absurd a
  one_raise (Unread f) second a b = absurd a
  one_raise (Broken r) second a b = absurd a
  one_raise (Heavy p c) second a b = absurd a
  one_raise (Judged p w v) second a b = absurd a
  one_raise (Misfit n) second a b = absurd a
  one_raise NotInitial (TooLong n2) a b = absurd b
  one_raise NotInitial (Unread f2) a b = absurd b
  one_raise NotInitial (Broken r2) a b = absurd b
  one_raise NotInitial (Heavy p2 c2) a b = absurd b
  one_raise NotInitial (Judged p2 w2 v2) a b = absurd b
  one_raise NotInitial (Misfit n2) a b = absurd b
  one_raise NotInitial NotInitial a b = refl
  one_raise NotInitial (NotFailing n2) a b = absurd (a b.0)
  one_raise NotInitial (Lifted ms2 t2) a b = absurd (a b.0.initial)
  one_raise NotInitial (Spent k2 t2) a b = absurd (a b.0.initial)
  one_raise (NotFailing n) (TooLong n2) a b = absurd b
  one_raise (NotFailing n) (Unread f2) a b = absurd b
  one_raise (NotFailing n) (Broken r2) a b = absurd b
  one_raise (NotFailing n) (Heavy p2 c2) a b = absurd b
  one_raise (NotFailing n) (Judged p2 w2 v2) a b = absurd b
  one_raise (NotFailing n) (Misfit n2) a b = absurd b
  one_raise (NotFailing n) NotInitial a b = absurd (b a.0)
  one_raise (NotFailing n) (NotFailing n2) a b = ap NotFailing (a.2 ∙ sym b.2)
  one_raise (NotFailing n) (Lifted ms2 t2) a b = absurd (a.1 b.0.fails)
  one_raise (NotFailing n) (Spent k2 t2) a b = absurd (a.1 b.0.fails)
  one_raise (Lifted ms t) (TooLong n2) a b = absurd b
  one_raise (Lifted ms t) (Unread f2) a b = absurd b
  one_raise (Lifted ms t) (Broken r2) a b = absurd b
  one_raise (Lifted ms t) (Heavy p2 c2) a b = absurd b
  one_raise (Lifted ms t) (Judged p2 w2 v2) a b = absurd b
  one_raise (Lifted ms t) (Misfit n2) a b = absurd b
  one_raise (Lifted ms t) NotInitial a b = absurd (b a.0.initial)
  one_raise (Lifted ms t) (NotFailing n2) a b = absurd (b.1 a.0.fails)
  one_raise (Lifted ms t) (Lifted ms2 t2) a b = tt
  one_raise (Lifted ms t) (Spent k2 t2) a b = tt
  one_raise (Spent k t) (TooLong n2) a b = absurd b
  one_raise (Spent k t) (Unread f2) a b = absurd b
  one_raise (Spent k t) (Broken r2) a b = absurd b
  one_raise (Spent k t) (Heavy p2 c2) a b = absurd b
  one_raise (Spent k t) (Judged p2 w2 v2) a b = absurd b
  one_raise (Spent k t) (Misfit n2) a b = absurd b
  one_raise (Spent k t) NotInitial a b = absurd (b a.0.initial)
  one_raise (Spent k t) (NotFailing n2) a b = absurd (b.1 a.0.fails)
  one_raise (Spent k t) (Lifted ms2 t2) a b = tt
  one_raise (Spent k t) (Spent k2 t2) a b = tt

-- ---- what is found of a script

module _ (budget : ℕ) (script : Script) where
  -- what is found behind acceptance
  abbrev Later : Outcome → Type 0
  Later outcome = IsMisfit script outcome ⊎ RaisesGiven script outcome

  later_accepted : (outcome : Outcome) → Later outcome → IsAccepted script.program
  later_accepted outcome (inl m) = m.accepted
  later_accepted outcome (inr r) = r.given.accepted

  later_behind : (outcome : Outcome) → Later outcome → IsBehind outcome
  later_behind outcome (inl m) = subst IsBehind (sym m.is) tt
  later_behind outcome (inr r) = raised_behind script.program r.store r.moves outcome r.raises

  one_given : (first second : Outcome) → RaisesGiven script first → RaisesGiven script second → AreAlike first second
  one_given first second a b =
      let same = one_schedule script.program.globals script.store script.moves (Fits a.store a.moves) (Fits b.store b.moves) a.given.fits b.given.fits in
      let stores = subst (λ (s : Store). Raises script.program s a.moves first) (fits_stores a.store b.store a.moves b.moves same) a.raises in
      let raises = subst (λ (m : List Move). Raises script.program b.store m first) (fits_moves a.store b.store a.moves b.moves same) stores in
      one_raise script.program b.store b.moves first second raises b.raises

  one_later : (first second : Outcome) → Later first → Later second → AreAlike first second
  one_later first second (inl a) (inl b) =
      alike_by first second (Misfit a.number) (Misfit b.number) a.is b.is
      (ap Misfit (wrongs_same a.number b.number (one_schedule script.program.globals script.store script.moves (Wrong a.number) (Wrong b.number) a.wrong b.wrong)))
  one_later first second (inl a) (inr b) =
      absurd (wrong_not_fits a.number b.store b.moves (one_schedule script.program.globals script.store script.moves (Wrong a.number) (Fits b.store b.moves) a.wrong b.given.fits))
  one_later first second (inr a) (inl b) =
      absurd (wrong_not_fits b.number a.store a.moves (one_schedule script.program.globals script.store script.moves (Wrong b.number) (Fits a.store a.moves) b.wrong a.given.fits))
  one_later first second (inr a) (inr b) = one_given first second a b

  decided_later : (first second : Outcome) → IsDecided budget script.program first → Later second → AreAlike first second
  decided_later first second d l =
      let open_ = left_open script.program budget d.verdict_ (later_accepted second l) d.right d.other in
      subst (λ (o : Outcome). AreAlike o second) (sym d.is) (beside script.program budget d.verdict_ open_ second (later_behind second l))

  later_decided : (first second : Outcome) → Later first → IsDecided budget script.program second → AreAlike first second
  later_decided first second l d =
      let open_ = left_open script.program budget d.verdict_ (later_accepted first l) d.right d.other in
      subst (λ (o : Outcome). AreAlike first o) (sym d.is) (behind script.program budget d.verdict_ open_ first (later_behind first l))

  one_way : (first second : Outcome) → Ways budget script first → Ways budget script second → AreAlike first second
  one_way first second (inl a) (inl b) =
      alike_by first second (Broken a.refusal) (Broken b.refusal) a.is b.is (ap Broken (one_refusal script.program a.refusal b.refusal a.broken b.broken))
  one_way first second (inl a) (inr (inl b)) = absurd (not_broken script.program a.refusal b.rules a.broken)
  one_way first second (inl a) (inr (inr (inl b))) = absurd (not_broken script.program a.refusal b.taken.rules a.broken)
  one_way first second (inl a) (inr (inr (inr b))) = absurd (not_broken script.program a.refusal (later_accepted second b).taken.rules a.broken)
  one_way first second (inr (inl a)) (inl b) = absurd (not_broken script.program b.refusal a.rules b.broken)
  one_way first second (inr (inl a)) (inr (inl b)) =
      alike_by first second (Heavy script.program a.first) (Heavy script.program b.first) a.is b.is
      (ap (λ (f : Option Formula). Heavy script.program f) (one_weight script.program a.first b.first a.weighs b.weighs))
  one_way first second (inr (inl a)) (inr (inr (inl b))) = absurd (not_heavy script.program a.first b.taken.light a.weighs)
  one_way first second (inr (inl a)) (inr (inr (inr b))) = absurd (not_heavy script.program a.first (later_accepted second b).taken.light a.weighs)
  one_way first second (inr (inr (inl a))) (inl b) = absurd (not_broken script.program b.refusal a.taken.rules b.broken)
  one_way first second (inr (inr (inl a))) (inr (inl b)) = absurd (not_heavy script.program b.first a.taken.light b.weighs)
  one_way first second (inr (inr (inl a))) (inr (inr (inl b))) =
      alike_by first second (Judged script.program budget a.verdict_) (Judged script.program budget b.verdict_) a.is b.is
      (verdicts_on_one_agree script.program budget budget a.verdict_ b.verdict_ a.right b.right)
  one_way first second (inr (inr (inl a))) (inr (inr (inr b))) = decided_later first second a b
  one_way first second (inr (inr (inr a))) (inl b) = absurd (not_broken script.program b.refusal (later_accepted first a).taken.rules b.broken)
  one_way first second (inr (inr (inr a))) (inr (inl b)) = absurd (not_heavy script.program b.first (later_accepted first a).taken.light b.weighs)
  one_way first second (inr (inr (inr a))) (inr (inr (inl b))) = later_decided first second a b
  one_way first second (inr (inr (inr a))) (inr (inr (inr b))) = one_later first second a b

-- ---- what is found of an input

one_read : (budget : ℕ) (reading : Result Script Fault) (first second : Outcome) → OfRead telling (Lifts budget) reading first → OfRead telling (Lifts budget) reading second → AreAlike first second
one_read budget (Ok script) first second a b = one_way budget script first second (lift_way budget script first a) (lift_way budget script second b)
one_read budget (Err fault) first second a b = alike_by first second (Unread fault) (Unread fault) a b refl

one_find : (budget : ℕ) (input : List ℕ) (first second : Outcome) → FindsBy budget input first → FindsBy budget input second → AreAlike first second
one_find budget input first second a b =
    one_read budget b.reading first second (subst (λ (r : Result Script Fault). OfRead telling (Lifts budget) r first) (one_script_reading input a.reading b.reading a.read b.read) a.says) b.says

pub one_outcome : (budget : ℕ) (input : List ℕ) (first second : Outcome) → CallsFor budget input first → CallsFor budget input second → AreAlike first second
one_outcome budget input first second (inl a) (inl b) = alike_by first second (TooLong limit) (TooLong limit) a.0 b.0 refl
one_outcome budget input first second (inl a) (inr b) = absurd (omega (arith, a.1, b.short))
one_outcome budget input first second (inr a) (inl b) = absurd (omega (arith, b.1, a.short))
one_outcome budget input first second (inr a) (inr b) = one_find budget input first second a b
