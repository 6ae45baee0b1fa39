-- What is found twice of one program, or of one text.
use Rattle.std.specs.Prelude.{slice_get}
use Rattle.std.proofs.Common.{◌≡◌, ◌∙◌, ℕ, ◌≤◌, List, length, refl, sym, ap, subst, arith, Option, None, Some, inl, inr}
use Rattle.std.proofs.lemmas.Bool.{cases_lt}
use Rattle.std.proofs.lemmas.Option.{slice_get_within, same_Some}
use Rattle.civl_tree.specs.declared.program.Program.{Program}
use Rattle.civl_cnf.specs.Literal.{Literal}
use Rattle.civl_cnf.specs.ClauseSet.{ClauseSet}
use Rattle.civl_rup.specs.Rup.{IsFirstWithoutRup}
use Rattle.civl_rup.specs.declared.answer.Replay.{Replay}
use Rattle.civl_rup.specs.declared.answer.Replay.TheVariants.{Refutes, NotRup, NoEmpty}
use Rattle.civl_proofs.proofs.Outcomes.{one_reading, one_answer}
use Rattle.civl_conditions.specs.declared.condition.Condition.{Condition}
use Rattle.civl_conditions.specs.Listed.{conditions}
use Rattle.civl_conditions.specs.Weights.{heavy}
use Rattle.civl_certify.specs.declared.certified.Certified.{Certified}
use Rattle.civl_certify.specs.Certified.{IsCertified}
use Rattle.civl_certify.proofs.Agreeing.{answers_on_one_agree}
use Rattle.civl_certify.specs.declared.proof_reports.making.Making.{Making}
use Rattle.civl_certify.specs.declared.proof_reports.making.Making.TheVariants.{Heavy, Beyond, Shown}
use Rattle.civl_certify.specs.declared.proof_reports.replaying.Replaying.TheVariants.{Unread, Read}
use Rattle.civl_certify.specs.proof_reports.Making.{IsMaking, IsShownAt}
use Rattle.civl_certify.specs.proof_reports.Replaying.{IsReplay}
use Rattle.civl_certify.specs.proof_reports.Agreement.{Agree}
use Rattle.civl_certify.specs.proof_reports.Laws.{MakingsAgree, OneReplaying}

-- ---- one program

same_first : (first other : Option Condition) → Some first ≡ Some other → first ≡ other
same_first first other e = cc

not_heavy : (first : Option Condition) → Some first ≡ None → ⊥
not_heavy first e = absurd (cc)

module _ (program : Program) (budget limit at : ℕ) where
  light_heavy : (first : Option Condition) → heavy program ≡ None → heavy program ≡ Some first → ⊥
  light_heavy first light weighs = not_heavy first (sym weighs ∙ light)

  not_beyond : (count : ℕ) (c : Condition) → count ≡ length (conditions program) → count ≤ at → slice_get (conditions program) at ≡ Some c → ⊥
  not_beyond count c e past there = let within = slice_get_within (conditions program) at c there in absurd (omega (arith, e, past, within))

  same_shown : (c d : Condition) (x y : Certified) → IsShownAt program budget at c x → IsShownAt program limit at d y → Agree (Shown c x) (Shown d y)
  same_shown c d x y a b =
      let same : c ≡ d = same_Some c d (sym a.there ∙ b.there) in
      (same, answers_on_one_agree program c budget limit x y a.is (subst (λ (e : Condition). IsCertified program limit e y) (sym same) b.is))

  agree : (first second : Making) → IsMaking program budget at first → IsMaking program limit at second → Agree first second
  agree (Heavy f) (Heavy g) a b = same_first f g (sym a ∙ b)
  agree (Heavy f) (Beyond n) a b = light_heavy f b.0 a
  agree (Heavy f) (Shown d y) a b = light_heavy f b.light a
  agree (Beyond m) (Heavy g) a b = light_heavy g a.0 b
  agree (Beyond m) (Beyond n) a b = a.1 ∙ sym b.1
  agree (Beyond m) (Shown d y) a b = not_beyond m d a.1 a.2 b.there
  agree (Shown c x) (Heavy g) a b = light_heavy g a.light b
  agree (Shown c x) (Beyond n) a b = not_beyond n c b.1 b.2 a.there
  agree (Shown c x) (Shown d y) a b = same_shown c d x y a b

pub makings_agree : MakingsAgree
makings_agree program budget limit at first second a b = agree program budget limit at first second a b

-- ---- one text

module _ (set : ClauseSet) (log : List (List Literal)) where
  same_place : (i j : ℕ) → IsFirstWithoutRup set log i → IsFirstWithoutRup set log j → i ≡ j
  same_place i j a b = elim (cases_lt i j) [
    | inl low ↦ absurd (a.refused (b.before i low))
    | inr high ↦ elim (cases_lt j i) [
      | inl low ↦ absurd (b.refused (a.before j low))
      | inr other ↦ omega (arith, high, other)
    ]
  ]

  one_replay : (first second : Replay) → IsReplay set log first → IsReplay set log second → first ≡ second
  one_replay Refutes Refutes a b = refl
  one_replay Refutes (NotRup j) a b = absurd (b.refused (a.rup j b.place))
  one_replay Refutes NoEmpty a b = absurd (b.none a.empty)
  one_replay (NotRup i) Refutes a b = absurd (a.refused (b.rup i a.place))
  one_replay (NotRup i) (NotRup j) a b = ap NotRup (same_place i j a b)
  one_replay (NotRup i) NoEmpty a b = absurd (a.refused (b.rup i a.place))
  one_replay NoEmpty Refutes a b = absurd (a.none b.empty)
  one_replay NoEmpty (NotRup j) a b = absurd (b.refused (a.rup j b.place))
  one_replay NoEmpty NoEmpty a b = refl

pub one_replaying : OneReplaying
one_replaying text (Unread i) (Unread j) a b = ap Unread (one_answer.one_place text i j a b)
one_replaying text (Unread i) (Read found) a b = absurd (one_answer.not_both text i (b.0, b.1, b.2) a)
one_replaying text (Read found) (Unread j) a b = absurd (one_answer.not_both text j (a.0, a.1, a.2) b)
one_replaying text (Read found) (Read other) a b =
    let same = one_reading text b.0 a.0 b.1 a.1 b.2 a.2 in
    let there : IsReplay a.0 b.1 other = subst (λ (s : ClauseSet). IsReplay s b.1 other) same.0 b.3 in
    let here : IsReplay a.0 a.1 other = subst (λ (l : List (List Literal)). IsReplay a.0 l other) same.1 there in
    ap Read (one_replay a.0 a.1 found other a.3 here)
