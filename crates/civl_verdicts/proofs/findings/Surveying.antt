-- Each program has a survey, and its surveys agree.
use Rattle.std.specs.Prelude.{map}
use Rattle.std.proofs.Common.{◌≡◌, ◌∙◌, ℕ, zero, suc, ◌^◌, ◌<◌, ◌⊎◌, inl, inr, Bool, true, false, List, [], ◌∷◌, refl, sym, ap, subst, arith, None, Some}
use Rattle.std.proofs.lemmas.Bool.{false≢true, cases_lt, and_parts, and_from}
use Rattle.civl_bits.specs.declared.value.Value.{Value}
use Rattle.civl_tree.specs.declared.expr.Sort.{Sort}
use Rattle.civl_tree.specs.declared.program.Program.{Program}
use Rattle.civl_tree.specs.rules.Rules.{Keeps}
use Rattle.civl_tree.specs.rules.Typing.{typing_rules}
use Rattle.civl_firing.specs.values.Values.{HaveSorts}
use Rattle.civl_firing.specs.declared.store.Store.{Store}
use Rattle.civl_conditions.specs.declared.condition.Condition.{Condition}
use Rattle.civl_conditions.specs.Listed.{conditions}
use Rattle.civl_conditions.specs.Invariants.{meets_init}
use Rattle.civl_conditions.specs.Violated.{violated, Violates, Holds as HoldsOf}
use Rattle.civl_states.specs.Formulas.{sorts_of}
use Rattle.civl_states.proofs.Limits.{AreSorts, global_sorts_are}
use Rattle.civl_verdicts.specs.declared.survey.Found.{Found}
use Rattle.civl_verdicts.specs.declared.survey.Found.TheVariants.{Holds, Fails, Undecided}
use Rattle.civl_verdicts.specs.declared.survey.Survey.{Survey}
use Rattle.civl_verdicts.specs.declared.survey.Survey.TheVariants.{NoInitial, Findings}
use Rattle.civl_verdicts.specs.Surveys.{IsFound, AreFound, IsSurvey}
use Rattle.civl_verdicts.specs.decisions.Numbered.{values_numbered, bits_together}
use Rattle.civl_verdicts.proofs.decisions.Numbers.{values_have_sorts, each_is_numbered}
use Rattle.civl_verdicts.specs.findings.Agreement.{Agree, AllAgree, SurveysAgree}
use Rattle.civl_verdicts.specs.findings.Laws.{EachProgramHasASurvey, SurveysOfOneAgree}
use Rattle.civl_verdicts.proofs.findings.Sorted.{variables_have_sorts}

-- ---- whether some values make a formula true

-- some number below the bound passes the test, or none does
below : (test : ℕ → Bool) (bound : ℕ) → ((n : ℕ) × (test n ≡ true)) ⊎ ((n : ℕ) → n < bound → test n ≡ false)
below test zero = inr (λ n l. absurd (omega arith))
below test (suc bound) = by (test bound) refl (below test bound)
  where
    by : (b : Bool) → test bound ≡ b → ((n : ℕ) × (test n ≡ true)) ⊎ ((n : ℕ) → n < bound → test n ≡ false) → ((n : ℕ) × (test n ≡ true)) ⊎ ((n : ℕ) → n < suc bound → test n ≡ false)
    by true e found = inl (bound, e)
    by false e (inl some) = inl some
    by false e (inr none) = inr (λ n l. elim (cases_lt n bound) [
      | inl low ↦ none n low
      | inr high ↦ let same : bound ≡ n = omega arith in subst (λ (k : ℕ). test k ≡ false) same e
    ])

abbrev pub Some_ : List Sort → (List Value → Bool) → Type 0
Some_ sorts truth = (values : List Value) × HaveSorts values sorts × (truth values ≡ true)

abbrev pub None_ : List Sort → (List Value → Bool) → Type 0
None_ sorts truth = (values : List Value) → HaveSorts values sorts → truth values ≡ false

pub some_or_none : (sorts : List Sort) (truth : List Value → Bool) → AreSorts sorts → Some_ sorts truth ⊎ None_ sorts truth
some_or_none sorts truth limits = by (below (λ n. truth (values_numbered sorts n)) (2 ^ bits_together sorts))
  where
    by : ((n : ℕ) × (truth (values_numbered sorts n) ≡ true)) ⊎ ((n : ℕ) → n < 2 ^ bits_together sorts → truth (values_numbered sorts n) ≡ false) → Some_ sorts truth ⊎ None_ sorts truth
    by (inl some) = inl (values_numbered sorts some.0, values_have_sorts sorts some.0 limits, some.1)
    by (inr none) = inr (λ values have. let n = each_is_numbered sorts values have in ap truth (sym n.2) ∙ none n.0 n.1)

-- ---- each program has a survey

module _ (program : Program) (budget : ℕ) (keeps : Keeps typing_rules program) where
  found_of : (c : Condition) → (found : Found) × IsFound program budget c found
  found_of c = by (some_or_none (sorts_of program c) (violated program c) (variables_have_sorts program c keeps))
    where
      by : Some_ (sorts_of program c) (violated program c) ⊎ None_ (sorts_of program c) (violated program c) → (found : Found) × IsFound program budget c found
      by (inl some) = (Fails (record { condition = c; values = some.0 }), (refl, record { fit = some.1; fail = some.2 }))
      by (inr none) = (Holds, none)

  found_all : (cs : List Condition) → (found : List Found) × AreFound program budget cs found
  found_all [] = ([], tt)
  found_all (c ∷ cs) = let first = found_of c in let others = found_all cs in (first.0 ∷ others.0, (first.1, others.1))

  store_of_values : (values : List Value) → Store
  store_of_values values = record { values = values }

  survey_of : (survey : Survey) × IsSurvey program budget survey
  survey_of = by (some_or_none (map (λ g. g.sort) program.globals) (λ values. meets_init program (record { values = values })) (global_sorts_are program keeps))
    where
      by : Some_ (map (λ g. g.sort) program.globals) (λ values. meets_init program (record { values = values })) ⊎ None_ (map (λ g. g.sort) program.globals) (λ values. meets_init program (record { values = values }))
          → (survey : Survey) × IsSurvey program budget survey
      by (inl some) =
          let b = and_parts _ _ some.2 in
          let all = found_all (conditions program) in
          (Findings None all.0, ((record { values = some.0 }, record { store_fits = some.1; init_holds = b.0; disjoint = b.1 }), all.1))
      by (inr none) = (NoInitial, λ store initial. false≢true (sym (none store.values initial.store_fits) ∙ and_from _ _ initial.init_holds initial.disjoint))

pub each_program_has_a_survey : EachProgramHasASurvey
each_program_has_a_survey program budget keeps = survey_of program budget keeps

-- ---- its surveys agree

not_both : (program : Program) (c : Condition) (values : List Value) → HoldsOf program c → Violates program c values → ⊥
not_both program c values holds v = false≢true (sym (holds values v.fit) ∙ v.fail)

module _ (program : Program) (budget limit : ℕ) where
  agree : (c : Condition) (first second : Found) → IsFound program budget c first → IsFound program limit c second → Agree first second
  agree c Holds Holds a b = tt
  agree c Holds (Fails counter) a b = not_both program c counter.values a b.1
  agree c Holds (Undecided log) a b = tt
  agree c (Fails counter) Holds a b = not_both program c counter.values b a.1
  agree c (Fails counter) (Fails other) a b = tt
  agree c (Fails counter) (Undecided log) a b = tt
  agree c (Undecided log) second a b = tt

  all_agree : (cs : List Condition) (first second : List Found) → AreFound program budget cs first → AreFound program limit cs second → AllAgree first second
  all_agree [] [] [] a b = tt
  all_agree [] (f ∷ fs) second a b = absurd a
  all_agree [] [] (g ∷ gs) a b = absurd b
  all_agree (c ∷ cs) [] second a b = absurd a
  all_agree (c ∷ cs) (f ∷ fs) [] a b = absurd b
  all_agree (c ∷ cs) (f ∷ fs) (g ∷ gs) a b = (agree c f g a.0 b.0, all_agree cs fs gs a.1 b.1)

  surveys_agree : (first second : Survey) → IsSurvey program budget first → IsSurvey program limit second → SurveysAgree first second
  surveys_agree NoInitial NoInitial a b = tt
  surveys_agree NoInitial (Findings None fs) a b = a b.0.0 b.0.1
  surveys_agree NoInitial (Findings (Some log) fs) a b = tt
  surveys_agree (Findings None fs) NoInitial a b = b a.0.0 a.0.1
  surveys_agree (Findings (Some log) fs) NoInitial a b = tt
  surveys_agree (Findings None fs) (Findings other gs) a b = all_agree (conditions program) fs gs a.1 b.1
  surveys_agree (Findings (Some log) fs) (Findings other gs) a b = all_agree (conditions program) fs gs a.1 b.1

pub surveys_of_one_agree : SurveysOfOneAgree
surveys_of_one_agree program budget limit first second a b = surveys_agree program budget limit first second a b
