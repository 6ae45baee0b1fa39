-- Something is found of each program, each number of a condition and each budget: a formula that is true at no values has clauses that stand
-- for it and can't all be true, and a log that refutes them.
use Rattle.std.specs.Prelude.{Any, All, IsTrue}
use Rattle.std.specs.List.{remove}
use Rattle.std.proofs.Common.{◌≡◌, ◌∙◌, ◌⊎◌, inl, inr, ℕ, zero, suc, ◌<◌, Bool, true, false, not, List, [], ◌∷◌, length, refl, sym, subst, Option, None, Some, arith}
use Rattle.std.proofs.lemmas.List.Elements.{All-nil, All-cons, All-head}
use Rattle.std.proofs.lemmas.Option.{slice_get_cases}
use Rattle.civl_tree.specs.declared.program.Program.{Program}
use Rattle.civl_tree.specs.rules.Rules.{Keeps}
use Rattle.civl_tree.specs.rules.Typing.{typing_rules}
use Rattle.civl_firing.specs.values.Values.{is_sort}
use Rattle.civl_cnf.specs.Literal.{Literal, truth_of}
use Rattle.civl_cnf.specs.ClauseSet.{ClauseSet, IsBelow, AreBelow, SatisfiesClause, Satisfies}
use Rattle.civl_units.specs.Propagation.{Holds as IsHeld, Fails as IsFalse, IsClosedAt, GivesConflict}
use Rattle.civl_rup.specs.Rup.{HaveRup, Refutes}
use Rattle.civl_proofs.specs.Lean.{IsLean}
use Rattle.civl_conditions.specs.declared.condition.Condition.{Condition}
use Rattle.civl_conditions.specs.Listed.{conditions}
use Rattle.civl_conditions.specs.Violated.{violated}
use Rattle.civl_conditions.specs.Weights.{heavy}
use Rattle.civl_states.specs.Formulas.{sorts_of}
use Rattle.civl_verdicts.specs.Formulas.{Formula, violation_formula, StandsForFormula}
use Rattle.civl_verdicts.specs.Surveys.{IsInitialFound, IsSurvey}
use Rattle.civl_verdicts.specs.declared.survey.Survey.{Survey}
use Rattle.civl_verdicts.specs.declared.survey.Survey.TheVariants as survey
use Rattle.civl_verdicts.specs.decisions.Numbered.{values_numbered}
use Rattle.civl_verdicts.proofs.decisions.Numbers.{values_have_sorts}
use Rattle.civl_verdicts.proofs.findings.Sorted.{variables_have_sorts}
use Rattle.civl_verdicts.proofs.findings.Surveying.{Some_, None_, some_or_none, each_program_has_a_survey}
use Rattle.civl_certify.specs.declared.certified.Shown.TheVariants.{Holds, Fails}
use Rattle.civl_certify.specs.declared.certified.Certified.{Certified}
use Rattle.civl_certify.specs.declared.certified.Certified.TheVariants.{NoInitial, Answer}
use Rattle.civl_certify.specs.Certified.{IsCertified, IsRefutation}
use Rattle.civl_certify.specs.declared.proof_reports.making.Making.{Making}
use Rattle.civl_certify.specs.declared.proof_reports.making.Making.TheVariants.{Heavy, Beyond, Shown}
use Rattle.civl_certify.specs.proof_reports.Making.{IsMaking, HasLeanLog}
use Rattle.civl_certify.specs.proof_reports.Laws.{EachProgramHasAMaking}

-- ---- two clauses that can't both be true, and their refutation

abbrev literal : Literal
literal = record { variable = 0; positive = true }

abbrev negation : Literal
negation = record { variable = 0; positive = false }

abbrev contradiction : ClauseSet
contradiction = record { variables = 1; clauses = (negation ∷ []) ∷ (literal ∷ []) ∷ [] }

abbrev refutation : List (List Literal)
refutation = [] ∷ []

gives : GivesConflict contradiction.clauses []
gives set fails closed =
    let Forces : Literal → Type 0 = λ l. (l ≡ negation) ⊎ IsFalse set l in
    let alone : All Forces (negation ∷ []) = All-cons Forces negation [] (inl refl) (All-nil Forces) in
    let forced : IsHeld set negation = All-head (IsClosedAt set) (negation ∷ []) ((literal ∷ []) ∷ []) closed negation ((0, omega arith, refl), alone) in
    (1, literal ∷ [], omega arith, refl, All-cons (IsFalse set) literal [] forced (All-nil (IsFalse set)))

have : HaveRup contradiction refutation 1
have zero low = record { below = All-nil _; once = λ i j d less short. absurd (omega arith); conflict = gives }
have (suc i) low = absurd (omega arith)

refutes : Refutes contradiction refutation
refutes = record { rup = have; empty = (0, omega arith, refl) }

needed : (place : ℕ) → place < 1 → Refutes contradiction (remove refutation place) → ⊥
needed zero low other = let empty = other.empty in absurd (omega (arith, empty.1))
needed (suc place) low other = absurd (omega arith)

lean : IsLean contradiction refutation
lean = record { refutes = refutes; needed = needed }

contradiction_below : AreBelow 1 contradiction.clauses
contradiction_below = All-cons (IsBelow 1) (negation ∷ []) ((literal ∷ []) ∷ []) (one_below negation (omega arith)) (All-cons (IsBelow 1) (literal ∷ []) [] (one_below literal (omega arith)) (All-nil (IsBelow 1)))
  where
    one_below : (l : Literal) → l.variable < 1 → IsBelow 1 (l ∷ [])
    one_below l low = All-cons (λ (m : Literal). m.variable < 1) l [] low (All-nil (λ (m : Literal). m.variable < 1))

-- ---- they stand for a formula that is true at no values

of_one : {X : Type 0} (P : X → Type 0) (x : X) → Any P (x ∷ []) → P x
of_one P x (zero, y, low, at, here) = subst P (sym at) here
of_one P x (suc place, y, low, at, here) = absurd (omega (arith, low))

not_true : (b : Bool) → IsTrue (not b) → b ≡ false
not_true true h = cc
not_true false h = refl

clear : (v : ℕ → Bool) → Satisfies v ((negation ∷ []) ∷ []) → v 0 ≡ false
clear v h = not_true (v 0) (of_one (λ l. IsTrue (truth_of v l)) negation (All-head (SatisfiesClause v) (negation ∷ []) [] h))

abbrev unset : ℕ → Bool
unset i = false

satisfied : Satisfies unset ((negation ∷ []) ∷ [])
satisfied = All-cons (SatisfiesClause unset) (negation ∷ []) [] (0, negation, omega arith, refl, refl) (All-nil _)

module _ (formula : Formula) (limits : All (λ s. IsTrue (is_sort s)) formula.sorts) (none : None_ formula.sorts formula.truth) where
  agree : (v w : ℕ → Bool) → Satisfies v ((negation ∷ []) ∷ []) → Satisfies w ((negation ∷ []) ∷ []) → (i : ℕ) → i < 1 → v i ≡ w i
  agree v w a b zero low = clear v a ∙ sym (clear w b)
  agree v w a b (suc i) low = absurd (omega arith)

  stands : StandsForFormula formula contradiction
  stands = record {
    places = [];
    encodes = record {
      gates = (negation ∷ []) ∷ [];
      output = literal;
      clauses = refl;
      some = λ values have. (unset, satisfied, All-nil _);
      one = λ values have v w a b first second. agree v w a b;
      is = λ values have v a shown. clear v a ∙ sym (none values have);
    };
    given = λ v. (values_numbered formula.sorts 0, values_have_sorts formula.sorts 0 limits, All-nil _);
    few_variables = omega arith;
    few_clauses = omega arith;
  }

  refuted : IsRefutation formula contradiction refutation
  refuted = record { stands = stands; refutes = refutes; below = contradiction_below }

-- ---- a condition, and a number

module _ (program : Program) (budget : ℕ) (keeps : Keeps typing_rules program) where
  abbrev IsLeanAnswer : Condition → Type 0
  IsLeanAnswer c = (certified : Certified) × IsCertified program budget c certified × HasLeanLog certified

  answered : (initial : Option (List (List Literal))) → IsInitialFound program budget initial → (c : Condition) → IsLeanAnswer c
  answered initial found c = by (some_or_none (sorts_of program c) (violated program c) (variables_have_sorts program c keeps))
    where
      by : Some_ (sorts_of program c) (violated program c) ⊎ None_ (sorts_of program c) (violated program c) → IsLeanAnswer c
      by (inl some) = (Answer initial (Fails (record { condition = c; values = some.0 })), (found, (refl, record { fit = some.1; fail = some.2 })), tt)
      by (inr none) = (
        Answer initial (Holds contradiction refutation),
        (found, (none, refuted (violation_formula program c) (variables_have_sorts program c keeps) none)),
        lean,
      )

  certified_of : (found : Survey) → IsSurvey program budget found → (c : Condition) → IsLeanAnswer c
  certified_of survey.NoInitial none c = (NoInitial, none, tt)
  certified_of (survey.Findings initial findings) found c = answered initial found.0 c

  making_of : (at : ℕ) (first : Option (Option Condition)) → heavy program ≡ first → (making : Making) × IsMaking program budget at making
  making_of at (Some first) e = (Heavy first, e)
  making_of at None e = elim (slice_get_cases (conditions program) at).1 [
    | inl there ↦
        let survey = each_program_has_a_survey program budget keeps in
        let certified = certified_of survey.0 survey.1 there.0 in
        (Shown there.0 certified.0, record { light = e; there = there.2; is = certified.1; lean = certified.2 })
    | inr past ↦ (Beyond (length (conditions program)), (e, refl, past.0))
  ]

pub each_program_has_a_making : EachProgramHasAMaking
each_program_has_a_making program budget at keeps = making_of program budget keeps at (heavy program) refl
