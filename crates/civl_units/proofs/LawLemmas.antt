-- Complete runs of unit propagation.
use Rattle.std.proofs.Common.{◌≡◌, ℕ, List, [], ◌∷◌, refl, sym, ◌∙◌, ap, inl, inr, Bool, true, false, not, ◌&&◌, cond}
use Rattle.std.specs.Prelude.{All, ◌↔◌, nat_eq}
use Rattle.std.proofs.lemmas.Bool.{eqb-true, and_parts, or_cases}
use Rattle.std.proofs.lemmas.List.Elements.{All-contains}
use Rattle.std.proofs.Math.Bool.{not-not}
use Rattle.civl_cnf.specs.Literal.{Literal, opposite}
use Rattle.civl_units.specs.Propagation.{Holds, Fails, IsClosedAt, IsClosed, HasConflict, GivesConflict}
use Rattle.civl_units.specs.Laws.{set_of, IsRun, IsComplete}
use Rattle.civl_units.specs.Marks.{IsIncluded}
use Rattle.civl_units.proofs.Propagating.{unit_grows, conflict_grows}

pub same_sign : (p b : Bool) → cond p b (not b) ≡ true → p ≡ b
same_sign true true e = refl
same_sign true false e = cc
same_sign false true e = cc
same_sign false false e = refl

-- each literal of a run is in every closed set in which the literals are false
pub run_sound : (clauses : List (List Literal)) (falses run : List Literal) → IsRun clauses falses run → (s : ℕ → Bool → Bool) → All (Fails s) falses → IsClosed s clauses → IsIncluded (set_of run) s
run_sound clauses falses [] steps s fails closed v b held = cc
run_sound clauses falses (l ∷ before) steps s fails closed v b held =
    let earlier : IsIncluded (set_of before) s = run_sound clauses falses before steps.1 s fails closed in
    let this : Holds s l = elim steps.0 [
      | inl there ↦
          let f : Fails s (opposite l) = All-contains (Fails s) falses (opposite l) fails there in
          ap (λ x. s l.variable x) (sym (not-not l.positive)) ∙ f
      | inr some ↦
          let at : IsClosedAt s some.1 = All-contains (IsClosedAt s) clauses some.1 closed (some.0, some.2, some.3) in
          at l (unit_grows (set_of before) s some.1 l earlier some.4)
    ] in
    elim (or_cases (nat_eq l.variable v && cond l.positive b (not b)) (set_of before v b) held) [
      | inl here ↦
          let both = and_parts (nat_eq l.variable v) (cond l.positive b (not b)) here in
          let is : l.variable ≡ v = eqb-true l.variable v both.0 in
          let sign : l.positive ≡ b = same_sign l.positive b both.1 in
          ap (λ n. s n b) (sym is) ∙ ap (λ x. s l.variable x) (sym sign) ∙ this
      | inr there ↦ earlier v b there
    ]

pub run_decides : (clauses : List (List Literal)) (falses run : List Literal) → IsRun clauses falses run → IsComplete clauses falses run → GivesConflict clauses falses ↔ HasConflict (set_of run) clauses
run_decides clauses falses run steps complete = (
  λ gives. elim complete.1 [ inl found ↦ found | inr closed ↦ gives (set_of run) complete.0 closed ],
  λ found s fails closed. conflict_grows (set_of run) s clauses (run_sound clauses falses run steps s fails closed) found,
)
