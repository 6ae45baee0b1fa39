-- Complete runs of unit propagation: there is one for each list of clauses and of literals that are to be false.
use Rattle.std.proofs.Common.{◌≡◌, ◌⊎◌, ℕ, zero, suc, ◌+◌, ◌<◌, ◌≤◌, List, [], ◌∷◌, ◌++◌, length, get_or, refl, sym, ◌∙◌, ap, ap₂, subst, inl, inr, arith, Bool, true, false, not, ◌&&◌, cond}
use Rattle.std.specs.Prelude.{IsTrue, All, Any, Contains, nat_eq}
use Rattle.std.proofs.lemmas.Bool.{or_left, or_right}
use Rattle.std.proofs.lemmas.Bool.Decides.{eqb_tells}
use Rattle.std.proofs.lemmas.List.Elements.{All-nil, All-cons, All-head, All-tail, All-weaker, All-contains_itself, Contains-append_left, Contains-append_right}
use Rattle.civl_cnf.specs.Literal.{Literal, opposite}
use Rattle.civl_cnf.proofs.Literals.{opposite_twice}
use Rattle.civl_units.specs.Propagation.{Holds, Fails, IsFalsified, IsClosedAt, IsClosed, HasConflict, GivesConflict}
use Rattle.civl_units.specs.Laws.{set_of, IsRun, IsComplete}
use Rattle.civl_units.specs.Marks.{IsIncluded}
use Rattle.civl_units.proofs.LawLemmas.{run_decides}
use Rattle.civl_units.proofs.Listing.{own_sign}
use Rattle.civl_certify.proofs.proof_reports.Deciding.{IsOrNot, not_so, both_so, either_so, true_so, all_or_any, all_so, any_so}

-- ---- literals

signs_so : (a b : Bool) → IsOrNot (a ≡ b)
signs_so true true = inl refl
signs_so true false = inr (λ e. cc)
signs_so false true = inr (λ e. cc)
signs_so false false = inl refl

pub variables_so : (m n : ℕ) → IsOrNot (m ≡ n)
variables_so m n = elim (eqb_tells m n) [ inl e ↦ inl e.1 | inr e ↦ inr e.1 ]

literals_so : (m l : Literal) → IsOrNot (m ≡ l)
literals_so m l = elim (both_so (variables_so m.variable l.variable) (signs_so m.positive l.positive)) [
  | inl both ↦ inl (ap₂ (λ (v : ℕ) (b : Bool). record { variable = v; positive = b }) both.0 both.1)
  | inr none ↦ inr (λ e. none (ap (λ (x : Literal). x.variable) e, ap (λ (x : Literal). x.positive) e))
]

-- ---- a set of literals

module _ (set : ℕ → Bool → Bool) where
  conflict_so : (clauses : List (List Literal)) → IsOrNot (HasConflict set clauses)
  conflict_so clauses = any_so (IsFalsified set) (λ clause. all_so (Fails set) (λ l. true_so (set l.variable (not l.positive))) clause) clauses

  -- the clause forces the literal, which the set doesn't hold
  abbrev IsForced : List Literal → Literal → Type 0
  IsForced clause l = All (λ m. (m ≡ l) ⊎ Fails set m) clause × (Holds set l → ⊥)

  forced_so : (clause : List Literal) (l : Literal) → IsOrNot (IsForced clause l)
  forced_so clause l =
      both_so
      (all_so (λ m. (m ≡ l) ⊎ Fails set m) (λ m. either_so (literals_so m l) (true_so (set m.variable (not m.positive)))) clause)
      (not_so (true_so (set l.variable l.positive)))

  closed_by : (clause : List Literal) → (Any (IsForced clause) clause → ⊥) → IsClosedAt set clause
  closed_by clause none l unit = elim (true_so (set l.variable l.positive)) [
    | inl held ↦ held
    | inr free ↦ absurd (none (unit.0.0, l, unit.0.1, unit.0.2, (unit.1, free)))
  ]

  closed_or_forced : (clause : List Literal) → IsClosedAt set clause ⊎ Any (IsForced clause) clause
  closed_or_forced clause = elim (any_so (IsForced clause) (forced_so clause) clause) [ inl some ↦ inr some | inr none ↦ inl (closed_by clause none) ]

  all_closed_or_forced : (clauses : List (List Literal)) → IsClosed set clauses ⊎ Any (λ clause. Any (IsForced clause) clause) clauses
  all_closed_or_forced clauses = all_or_any (IsClosedAt set) (λ clause. Any (IsForced clause) clause) closed_or_forced clauses

-- ---- how many places have a literal that the set doesn't hold

unheld : (ℕ → Bool → Bool) → List Literal → ℕ
unheld set [] = 0
unheld set (l ∷ literals) = cond (set l.variable l.positive) 0 1 + unheld set literals

one_stays : (a b : Bool) → (IsTrue a → IsTrue b) → cond {A = ℕ} b 0 1 ≤ cond a 0 1
one_stays a true grows = omega arith
one_stays false false grows = omega arith
one_stays true false grows = let bad : false ≡ true = grows refl in cc

one_falls : (a b : Bool) → (IsTrue a → ⊥) → IsTrue b → cond {A = ℕ} b 0 1 < cond a 0 1
one_falls true b free held = absurd (free refl)
one_falls false true free held = omega arith
one_falls false false free held = cc

module _ (small large : ℕ → Bool → Bool) (within : IsIncluded small large) where
  unheld_stays : (literals : List Literal) → unheld large literals ≤ unheld small literals
  unfolding unheld
  unheld_stays [] = omega arith
  unheld_stays (m ∷ literals) =
      let here = one_stays (small m.variable m.positive) (large m.variable m.positive) (within m.variable m.positive) in
      let more = unheld_stays literals in
      omega arith

  unheld_falls : (l : Literal) → (Holds small l → ⊥) → Holds large l → (literals : List Literal) (k : ℕ) → k < length literals → get_or literals k l ≡ l → unheld large literals < unheld small literals
  unfolding unheld
  unheld_falls l free held [] k low is = absurd (omega arith)
  unheld_falls l free held (m ∷ literals) zero low is =
      let lacks : Holds small m → ⊥ = subst (λ (x : Literal). Holds small x → ⊥) (sym is) free in
      let now : Holds large m = subst (Holds large) (sym is) held in
      let here = one_falls (small m.variable m.positive) (large m.variable m.positive) lacks now in
      let more = unheld_stays literals in
      omega arith
  unheld_falls l free held (m ∷ literals) (suc k) low is =
      let here = one_stays (small m.variable m.positive) (large m.variable m.positive) (within m.variable m.positive) in
      let more = unheld_falls l free held literals k (omega arith) is in
      omega arith

-- the literals of the clauses, one clause after the other
all_literals : List (List Literal) → List Literal
all_literals [] = []
all_literals (clause ∷ clauses) = clause ++ all_literals clauses

there_at : (clauses : List (List Literal)) (clause : List Literal) (l : Literal) (k : ℕ) → k < length clauses → get_or clauses k clause ≡ clause → Contains clause l → Contains (all_literals clauses) l
unfolding all_literals
there_at [] clause l k low is there = absurd (omega arith)
there_at (c ∷ clauses) clause l zero low is there =
    Contains-append_left c (all_literals clauses) l (subst (λ (x : List Literal). Contains x l) (sym is) there)
there_at (c ∷ clauses) clause l (suc k) low is there =
    Contains-append_right c (all_literals clauses) l (there_at clauses clause l k (omega arith) is there)

-- ---- runs

held_now : (l : Literal) (run : List Literal) → Holds (set_of (l ∷ run)) l
held_now l run =
    or_left (nat_eq l.variable l.variable && cond l.positive l.positive (not l.positive)) (set_of run l.variable l.positive)
    (elim (eqb_tells l.variable l.variable) [
      | inl e ↦ ap (λ (b : Bool). b && cond l.positive l.positive (not l.positive)) e.0 ∙ own_sign l.positive
      | inr differ ↦ absurd (differ.1 refl)
    ])

held_still : (l : Literal) (run : List Literal) → IsIncluded (set_of run) (set_of (l ∷ run))
held_still l run v b held = or_right (nat_eq l.variable v && cond l.positive b (not b)) (set_of run v b) held

fails_still : (l : Literal) (run falses : List Literal) → All (Fails (set_of run)) falses → All (Fails (set_of (l ∷ run))) falses
fails_still l run falses = All-weaker (Fails (set_of run)) (Fails (set_of (l ∷ run))) (λ m fails. held_still l run m.variable (not m.positive) fails) falses

module _ (clauses : List (List Literal)) (falses : List Literal) where
  -- a run by which these literals are false
  record Begins (some : List Literal) : Type 0 where
    run : List Literal
    steps : IsRun clauses falses run
    fails : All (Fails (set_of run)) some

  begun : (some : List Literal) → All (Contains falses) some → Begins some
  begun [] there = record { run = []; steps = tt; fails = All-nil (Fails (set_of [])) }
  begun (m ∷ some) there =
      let before = begun some (All-tail (Contains falses) m some there) in
      let l : Literal = opposite m in
      record {
        run = l ∷ before.run;
        steps = (inl (subst (Contains falses) (sym (opposite_twice m)) (All-head (Contains falses) m some there)), before.steps);
        fails = All-cons (Fails (set_of (l ∷ before.run))) m some (held_now l before.run) (fails_still l before.run some before.fails);
      }

  pub record HasRun : Type 0 where
    pub run : List Literal
    pub steps : IsRun clauses falses run
    pub complete : IsComplete clauses falses run

  -- some clause forces a literal that the run doesn't have
  abbrev Goes : List Literal → Type 0
  Goes run = Any (λ clause. Any (IsForced (set_of run) clause) clause) clauses

  stepped : (run : List Literal) → IsRun clauses falses run → (more : Goes run) → IsRun clauses falses (more.4.1 ∷ run)
  stepped run steps more =
      let at = more.4 in
      (inr (more.0, more.1, more.2, more.3, ((at.0, at.2, at.3), at.4.0)), steps)

  fewer : (run : List Literal) (more : Goes run) → unheld (set_of (more.4.1 ∷ run)) (all_literals clauses) < unheld (set_of run) (all_literals clauses)
  fewer run more =
      let at = more.4 in
      let there = there_at clauses more.1 at.1 more.0 more.2 more.3 (at.0, at.2, at.3) in
      unheld_falls (set_of run) (set_of (at.1 ∷ run)) (held_still at.1 run) at.1 at.4.1 (held_now at.1 run) (all_literals clauses) there.0 there.1 there.2

  completed : (n : ℕ) (run : List Literal) → IsRun clauses falses run → All (Fails (set_of run)) falses → unheld (set_of run) (all_literals clauses) ≤ n → HasRun
  completed zero run steps fails few = elim (all_closed_or_forced (set_of run) clauses) [
    | inl closed ↦ record { run = run; steps = steps; complete = (fails, inr closed) }
    | inr more ↦ let less = fewer run more in absurd (omega arith)
  ]
  completed (suc n) run steps fails few = elim (all_closed_or_forced (set_of run) clauses) [
    | inl closed ↦ record { run = run; steps = steps; complete = (fails, inr closed) }
    | inr more ↦ let less = fewer run more in completed n (more.4.1 ∷ run) (stepped run steps more) (fails_still more.4.1 run falses fails) (omega arith)
  ]

  pub has_run : HasRun
  has_run =
      let first = begun falses (All-contains_itself falses) in
      completed (unheld (set_of first.run) (all_literals clauses)) first.run first.steps first.fails (omega arith)

  -- whether making these literals false and propagating units gives a conflict
  pub gives_so : IsOrNot (GivesConflict clauses falses)
  gives_so =
      let decides = run_decides clauses falses has_run.run has_run.steps has_run.complete in
      elim (conflict_so (set_of has_run.run) clauses) [ inl found ↦ inl (decides.1 found) | inr none ↦ inr (λ gives. none (decides.0 gives)) ]
