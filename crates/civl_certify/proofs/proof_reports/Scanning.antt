-- Something is found of each text: a log is gone through clause by clause.
use Rattle.std.proofs.Common.{◌≡◌, ◌⊎◌, ℕ, zero, suc, ◌+◌, ◌<◌, ◌≤◌, List, [], ◌∷◌, ◌++◌, length, get_or, take, refl, subst, inl, inr, arith}
use Rattle.std.specs.Prelude.{Contains, ◌≢◌}
use Rattle.std.proofs.lemmas.Bool.{cases_lt}
use Rattle.civl_cnf.specs.Literal.{Literal}
use Rattle.civl_cnf.specs.ClauseSet.{ClauseSet}
use Rattle.civl_rup.specs.Rup.{HasRup, HaveRup, IsFirstWithoutRup}
use Rattle.civl_rup.specs.declared.answer.Replay.{Replay}
use Rattle.civl_rup.specs.declared.answer.Replay.TheVariants.{Refutes, NotRup, NoEmpty}
use Rattle.civl_rup.proofs.Replays.{have_next}
use Rattle.civl_proofs.specs.Text.{IsWhole, IsFirstFault}
use Rattle.civl_proofs.proofs.Outcomes.{one_answer}
use Rattle.civl_certify.specs.declared.proof_reports.replaying.Replaying.{Replaying}
use Rattle.civl_certify.specs.declared.proof_reports.replaying.Replaying.TheVariants.{Unread, Read}
use Rattle.civl_certify.specs.proof_reports.Replaying.{IsReplay, IsReplaying}
use Rattle.civl_certify.specs.proof_reports.Laws.{EachTextHasAReplaying}
use Rattle.civl_certify.proofs.proof_reports.Deciding.{IsOrNot, not_so, all_so, any_so, pairs_so}
use Rattle.civl_certify.proofs.proof_reports.Running.{variables_so, gives_so}

below_so : (m n : ℕ) → IsOrNot (m < n)
below_so m n = elim (cases_lt m n) [ inl less ↦ inl less | inr more ↦ inr (λ less. omega arith) ]

rup_so : (variables : ℕ) (clauses : List (List Literal)) (clause : List Literal) → IsOrNot (HasRup variables clauses clause)
rup_so variables clauses clause = elim (all_so (λ (l : Literal). l.variable < variables) (λ l. below_so l.variable variables) clause) [
  | inl below ↦ elim (pairs_so (λ (l m : Literal). l.variable ≢ m.variable) (λ l m. not_so (variables_so l.variable m.variable)) clause) [
    | inl once ↦ elim (gives_so clauses clause) [ inl gives ↦ inl (record { below = below; once = once; conflict = gives }) | inr none ↦ inr (λ has. none has.conflict) ]
    | inr none ↦ inr (λ has. none has.once)
  ]
  | inr none ↦ inr (λ has. none has.below)
]

no_literals_so : (clause : List Literal) → IsOrNot (clause ≡ [])
no_literals_so [] = inl refl
no_literals_so (l ∷ clause) = inr (λ e. cc)

empty_so : (log : List (List Literal)) → IsOrNot (Contains log [])
empty_so log = elim (any_so (λ clause. clause ≡ []) no_literals_so log) [
  | inl some ↦ inl (subst (Contains log) some.4 (some.0, some.2, some.3))
  | inr none ↦ inr (λ there. none (there.0, [], there.1, there.2, refl))
]

module _ (set : ClauseSet) (log : List (List Literal)) where
  -- the first clauses of the log all have reverse unit propagation, or one is the first without it
  scanned : (n : ℕ) → n ≤ length log → HaveRup set log n ⊎ ((place : ℕ) × IsFirstWithoutRup set log place)
  scanned zero fits = inl (λ i low. absurd (omega arith))
  scanned (suc n) fits = elim (scanned n (omega arith)) [
    | inl have ↦ elim (rup_so set.variables (set.clauses ++ take n log) (get_or log n [])) [
      | inl has ↦ let e : n + 1 ≡ suc n = omega arith in inl (subst (HaveRup set log) e (have_next set log n have has))
      | inr none ↦ inr (n, record { place = omega arith; before = have; refused = none })
    ]
    | inr first ↦ inr first
  ]

  some_replay : (found : Replay) × IsReplay set log found
  some_replay = elim (scanned (length log) (omega arith)) [
    | inl have ↦ elim (empty_so log) [
      | inl empty ↦ (Refutes, record { rup = have; empty = empty })
      | inr none ↦ (NoEmpty, record { rup = have; none = none })
    ]
    | inr first ↦ (NotRup first.0, first.1)
  ]

-- ---- a text

found_of : (text : List ℕ) → IsWhole text ⊎ ((place : ℕ) × IsFirstFault text place) → (replaying : Replaying) × IsReplaying text replaying
found_of text (inl whole) = let found = some_replay whole.0 whole.1 in (Read found.0, (whole.0, whole.1, whole.2, found.1))
found_of text (inr fault) = (Unread fault.0, fault.1)

pub each_text_has_a_replaying : EachTextHasAReplaying
each_text_has_a_replaying text = found_of text (one_answer.some text)
