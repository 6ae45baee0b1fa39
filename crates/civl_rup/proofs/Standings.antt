-- Where the engine of propagation stands in a replay.
use Rattle.std.proofs.Common.{◌≡◌, ℕ, ◌+◌, ◌<◌, ◌≤◌, List, [], ◌∷◌, ◌++◌, length, get_or, take, drop, refl, sym, ◌∙◌, ap, subst, inl, inr, arith, Bool, true, false, not}
use Rattle.std.specs.Bool.{beq}
use Rattle.std.specs.Prelude.{IsTrue, All, Contains, Option, None, Some}
use Rattle.std.proofs.lemmas.List.{get_or_default, get_or_append_left, get_or_push, length_push, take-append-drop}
use Rattle.std.proofs.lemmas.List.Elements.{All-nil, Contains-append_left}
use Rattle.civl_cnf.specs.Literal.{Literal, opposite}
use Rattle.civl_cnf.proofs.Extending.{beq_equal}
use Rattle.civl_cnf.proofs.Literals.{literal_is}
use Rattle.civl_units.specs.Propagation.{Holds, Fails, IsFalsified, IsClosedAt, IsClosed, HasConflict, GivesConflict}
use Rattle.civl_units.specs.Marks.{is_marked, marked, IsQuiet, IsIncluded}
use Rattle.civl_units.proofs.MarkLemmas.{lt_or_eq, same_self}
use Rattle.civl_units.proofs.Propagating.{all_left, any_by}
use Rattle.civl_propagation.specs.Trail.{TrailState, before, ReasonSays, AreDecided}
use Rattle.civl_propagation.specs.Engine.{EngineState, IsAtRest, EndsBy}
use Rattle.civl_propagation.specs.declared.propagation.Ended.{Ended}
use Rattle.civl_propagation.specs.declared.propagation.Ended.TheVariants.{Conflict, Quiet}
use Rattle.civl_propagation.proofs.Trails.{some_lit, some_step, before_marked}
use Rattle.civl_propagation.proofs.Serving.{mark_is}
use Rattle.civl_propagation.proofs.Engines.{least_by, decided_hold, conflict_by}
use Rattle.civl_rup.specs.Rup.{HasEachOnce}
use Rattle.civl_rup.specs.inner.Standing.{IsAtRoot, IsAbove}

-- a conflict by some clauses is one by more
pub conflict_more : (clauses more : List (List Literal)) (falses : List Literal) → GivesConflict clauses falses → GivesConflict (clauses ++ more) falses
conflict_more clauses more falses conflict s fails closed =
    let found = conflict s fails (all_left (IsClosedAt s) clauses more closed) in
    any_by (IsFalsified s) (clauses ++ more) found.1 (Contains-append_left clauses more found.1 (found.0, found.2, found.3)) found.4

-- a conflict with nothing made false is one with anything made false
pub conflict_anyway : (clauses : List (List Literal)) (falses : List Literal) → GivesConflict clauses [] → GivesConflict clauses falses
conflict_anyway clauses falses conflict s fails closed = conflict s (All-nil (Fails s)) closed

-- a conflict by the first clauses of a list is one by all
pub conflict_front : (clauses : List (List Literal)) (n : ℕ) (falses : List Literal) → GivesConflict (take n clauses) falses → GivesConflict clauses falses
conflict_front clauses n falses conflict =
    subst (λ (cs : List (List Literal)). GivesConflict cs falses) (take-append-drop n clauses) (conflict_more (take n clauses) (drop n clauses) falses conflict)

-- an engine without decisions
pub stands_by : (e : EngineState) (variables : ℕ) (clauses : List (List Literal)) (ended : Ended) → e.clauses ≡ clauses → length e.trail.marks ≡ variables → AreDecided e.trail [] → EndsBy e ended → (ended ≡ Quiet → IsAtRoot e variables clauses) × ((r : ℕ) → ended ≡ Conflict r → GivesConflict clauses [])
stands_by e variables clauses Quiet is size decided ends = (λ q. record { rest = ends; has = is; size = size; decided = decided }, λ r q. cc)
stands_by e variables clauses (Conflict n) is size decided ends = (
  λ q. cc,
  λ r q s fails closed.
      let found = conflict_by e.trail e.clauses [] n ends.0.trail decided ends.1 s (All-nil (Holds s)) (subst (IsClosed s) (sym is) closed) in
      subst (HasConflict s) is found,
)

-- each decision makes one of the first literals false
abbrev pub AreFrom : List Literal → List Literal → ℕ → Type 0
AreFrom decisions lits n =
    (k : ℕ) (d : Literal) → k < length decisions → (j : ℕ) × (j < n) × ((e : Literal) → get_or decisions k d ≡ opposite (get_or lits j e))

-- The first literals were made false.
pub record IsMaking (e : EngineState) (variables : ℕ) (clauses : List (List Literal)) (lits : List Literal) (n : ℕ) : Type 0 where
  pub rest : IsAtRest e
  pub has : e.clauses ≡ clauses
  pub size : length e.trail.marks ≡ variables
  pub decisions : List Literal
  pub decided : AreDecided e.trail decisions
  pub from : AreFrom decisions lits n
  pub fail : (k : ℕ) (d : Literal) → k < n → Fails (marked e.trail.marks) (get_or lits k d)

pub making_above : (e : EngineState) (variables : ℕ) (clauses : List (List Literal)) (lits : List Literal) (n : ℕ) → IsMaking e variables clauses lits n → IsAbove e
making_above e variables clauses lits n m = record { engine = m.rest.engine; decisions = m.decisions; decided = m.decided; rest = λ none. m.rest }

-- what was decided holds wherever the literals are false
from_hold : (decisions lits : List Literal) (n : ℕ) (s : ℕ → Bool → Bool) → n ≤ length lits → AreFrom decisions lits n → All (Fails s) lits → All (Holds s) decisions
from_hold decisions lits n s fits from fails k d low =
    let f = from k d low in
    subst (λ (m : Literal). Holds s m) (sym (f.2 d)) (fails f.0 d (omega (arith, f.1)))

from_more : (decisions lits : List Literal) (n : ℕ) → AreFrom decisions lits n → AreFrom decisions lits (n + 1)
from_more decisions lits n from k d low = let f = from k d low in (f.0, omega (arith, f.1), f.2)

from_push : (decisions lits : List Literal) (n : ℕ) (l : Literal) → ((e : Literal) → get_or lits n e ≡ l) → AreFrom decisions lits n → AreFrom (decisions ++ opposite l ∷ []) lits (n + 1)
from_push decisions lits n l is from k d low =
    let more = length_push decisions (opposite l) in
    elim (lt_or_eq k (length decisions) (omega arith)) [
      | inl less ↦
          let f = from k d less in
          (f.0, omega (arith, f.1), λ e. get_or_append_left decisions (opposite l ∷ []) d k less ∙ f.2 e)
      | inr last ↦ (n, omega arith, λ e. get_or_push decisions (opposite l) d k (sym last) ∙ ap opposite (sym (is e)))
    ]

-- what forced a literal is falsified where the literal fails
reason_falsified : (t : TrailState) (clauses : List (List Literal)) (s : ℕ → Bool → Bool) (i : ℕ) (l : Literal) (r : Option ℕ) → IsIncluded (marked t.marks) s → Fails s l → (Contains t.starts i → ⊥) → ReasonSays (before t.marks t.places i) clauses t.starts i l r → HasConflict s clauses
reason_falsified t clauses s i l None within fails undecided says = absurd (undecided says)
reason_falsified t clauses s i l (Some r) within fails undecided says =
    let clause = get_or clauses r [] in (
      r,
      clause,
      says.0,
      get_or_default clauses r clause [] says.0,
      λ k d low. elim (says.1.1 k d low) [
        | inl e ↦ subst (λ (m : Literal). Fails s m) (sym e) fails
        | inr f ↦ within (get_or clause k d).variable (not (get_or clause k d).positive) (before_marked t.marks t.places i (get_or clause k d).variable (not (get_or clause k d).positive) f)
      ],
    )

-- where one of the literals became true, while no variable stands twice, they give a conflict: a clause forced it, since what was decided makes others false
pub true_conflict : (e : EngineState) (variables : ℕ) (clauses : List (List Literal)) (lits : List Literal) (n : ℕ) → n < length lits → HasEachOnce lits → IsMaking e variables clauses lits n → Holds (marked e.trail.marks) (get_or lits n some_lit) → GivesConflict clauses lits
true_conflict e variables clauses lits n low once m held s fails closed =
    let t = e.trail in
    let l = get_or lits n some_lit in
    let h = m.rest.engine.trail in
    let closed' : IsClosed s e.clauses = subst (IsClosed s) (sym m.has) closed in
    let within = least_by t e.clauses m.decisions h m.decided s (from_hold m.decisions lits n s (omega arith) m.from fails) closed' in
    let i = get_or t.places l.variable 0 in
    let there = h.marks_are l.variable l.positive some_step held in
    let step = get_or t.steps i some_step in
    let is_step = h.steps_are i some_step there.0 in
    let sign : step.lit.positive ≡ l.positive = mark_is t.marks step.lit.variable step.lit.positive l.positive is_step.mark (subst (λ (u : ℕ). IsTrue (marked t.marks u l.positive)) (sym there.1) held) in
    let same : step.lit ≡ l = literal_is step.lit l there.1 sign in
    let undecided : Contains t.starts i → ⊥ = λ starts.
    let count = m.decided.size in
    let here : starts.0 < length m.decisions = omega (arith, starts.1) in
    let start : get_or t.starts starts.0 0 ≡ i = get_or_default t.starts starts.0 0 i starts.1 ∙ starts.2 in
    let f = m.from starts.0 some_lit here in
    let decision : step.lit ≡ opposite (get_or lits f.0 some_lit) =
    ap (λ (k : ℕ). (get_or t.steps k some_step).lit) (sym start) ∙ m.decided.each starts.0 some_step some_lit here ∙ f.2 some_lit in
    once f.0 n some_lit f.1 low (sym (ap (λ (x : Literal). x.variable) (sym same ∙ decision)))
    in
    subst (HasConflict s) m.has
    (reason_falsified t e.clauses s i step.lit step.reason within (subst (λ (x : Literal). Fails s x) (sym same) (fails n some_lit low)) undecided (h.reasons i some_step there.0))

-- one more literal was false already
pub making_next : (e : EngineState) (variables : ℕ) (clauses : List (List Literal)) (lits : List Literal) (n : ℕ) → ((d : Literal) → Fails (marked e.trail.marks) (get_or lits n d)) → IsMaking e variables clauses lits n → IsMaking e variables clauses lits (n + 1)
making_next e variables clauses lits n fails m = record {
  rest = m.rest;
  has = m.has;
  size = m.size;
  decisions = m.decisions;
  decided = m.decided;
  from = from_more m.decisions lits n m.from;
  fail = λ k d low. elim (lt_or_eq k n low) [
    | inl less ↦ m.fail k d less
    | inr is ↦ subst (λ (j : ℕ). Fails (marked e.trail.marks) (get_or lits j d)) (sym is) (fails d)
  ];
}

-- or its opposite was decided
pub making_decides : (old new : EngineState) (variables : ℕ) (clauses : List (List Literal)) (lits : List Literal) (n : ℕ) (l : Literal) → n < length lits → ((d : Literal) → get_or lits n d ≡ l) → new.clauses ≡ old.clauses → length new.trail.marks ≡ length old.trail.marks → ((decisions : List Literal) → AreDecided old.trail decisions → AreDecided new.trail (decisions ++ opposite l ∷ [])) → IsAtRest new → IsMaking old variables clauses lits n → IsMaking new variables clauses lits (n + 1)
making_decides old new variables clauses lits n l low is same size more rest m =
    let decisions = m.decisions ++ opposite l ∷ [] in
    let decided = more m.decisions m.decided in
    let hold = decided_hold new.trail new.clauses decisions rest.engine.trail decided in
    let before_hold : All (Holds (marked new.trail.marks)) m.decisions = all_left (Holds (marked new.trail.marks)) m.decisions (opposite l ∷ []) hold in
    let closed : IsClosed (marked new.trail.marks) new.clauses = λ k d less. (rest.quiet k d less).0 in
    let stays = least_by old.trail old.clauses m.decisions m.rest.engine.trail m.decided (marked new.trail.marks) before_hold (subst (IsClosed (marked new.trail.marks)) same closed) in
    let longer = length_push m.decisions (opposite l) in
    let last : Holds (marked new.trail.marks) (opposite l) =
    subst (λ (x : Literal). Holds (marked new.trail.marks) x) (get_or_push m.decisions (opposite l) some_lit (length m.decisions) refl) (hold (length m.decisions) some_lit (omega arith)) in
    record {
      rest = rest;
      has = same ∙ m.has;
      size = size ∙ m.size;
      decisions = decisions;
      decided = decided;
      from = from_push m.decisions lits n l is m.from;
      fail = λ k d less. elim (lt_or_eq k n less) [
        | inl less' ↦ stays (get_or lits k d).variable (not (get_or lits k d).positive) (m.fail k d less')
        | inr e ↦ subst (λ (j : ℕ). Fails (marked new.trail.marks) (get_or lits j d)) (sym e) (subst (λ (x : Literal). Fails (marked new.trail.marks) x) (sym (is d)) last)
      ];
    }

-- or that met a conflict
pub making_conflict : (old new : EngineState) (variables : ℕ) (clauses : List (List Literal)) (lits : List Literal) (n r : ℕ) (l : Literal) → n < length lits → ((d : Literal) → get_or lits n d ≡ l) → new.clauses ≡ old.clauses → ((decisions : List Literal) → AreDecided old.trail decisions → AreDecided new.trail (decisions ++ opposite l ∷ [])) → EndsBy new (Conflict r) → IsMaking old variables clauses lits n → IsAbove new × GivesConflict clauses lits
making_conflict old new variables clauses lits n r l low is same more ends m =
    let decisions = m.decisions ++ opposite l ∷ [] in
    let decided = more m.decisions m.decided in
    let count = decided.size in
    let longer = length_push m.decisions (opposite l) in (
      record { engine = ends.0; decisions = decisions; decided = decided; rest = λ none. absurd (omega arith) },
      λ s fails closed.
          let clauses_are : new.clauses ≡ clauses = same ∙ m.has in
          let hold = from_hold decisions lits (n + 1) s (omega arith) (from_push m.decisions lits n l is m.from) fails in
          subst (HasConflict s) clauses_are (conflict_by new.trail new.clauses decisions r ends.0.trail decided ends.1 s hold (subst (IsClosed s) (sym clauses_are) closed)),
    )

-- all literals were made false, with no conflict
pub making_ends : (e : EngineState) (variables : ℕ) (clauses : List (List Literal)) (lits : List Literal) (n : ℕ) → length lits ≤ n → IsMaking e variables clauses lits n → GivesConflict clauses lits → ⊥
making_ends e variables clauses lits n whole m conflict =
    let marks = marked e.trail.marks in
    let closed : IsClosed marks e.clauses = λ k d low. (m.rest.quiet k d low).0 in
    let fails : All (Fails marks) lits = λ k d low. m.fail k d (omega arith) in
    let found = conflict marks fails (subst (IsClosed marks) m.has closed) in
    let quiet : All (IsQuiet marks) clauses = subst (All (IsQuiet marks)) m.has m.rest.quiet in
    (subst (IsQuiet marks) found.3 (quiet found.0 found.1 found.2)).1 found.4

-- before the first literal
pub making_begins : (e : EngineState) (lits : List Literal) → IsAtRest e → AreDecided e.trail [] → IsMaking e (length e.trail.marks) e.clauses lits 0
making_begins e lits rest decided = record {
  rest = rest;
  has = refl;
  size = refl;
  decisions = [];
  decided = decided;
  from = λ k d low. absurd (omega arith);
  fail = λ k d low. absurd (omega arith);
}

fails_by : (m : Option Bool) (value positive : Bool) → m ≡ Some value → (value ≡ positive → ⊥) → is_marked m (not positive) ≡ true
fails_by m true true is differ = absurd (differ refl)
fails_by m true false is differ = ap (λ (o : Option Bool). is_marked o true) is
fails_by m false true is differ = ap (λ (o : Option Bool). is_marked o false) is
fails_by m false false is differ = absurd (differ refl)

-- a literal whose variable has the other value fails
value_fails : (marks : List (Option Bool)) (l : Literal) (value : Bool) → get_or marks l.variable None ≡ Some value → (value ≡ l.positive → ⊥) → Fails (marked marks) l
value_fails marks l value is differ = fails_by (get_or marks l.variable None) value l.positive is differ

-- and holds where it has this value
value_holds : (marks : List (Option Bool)) (l : Literal) (value : Bool) → get_or marks l.variable None ≡ Some value → value ≡ l.positive → Holds (marked marks) l
value_holds marks l value is same = ap (λ (o : Option Bool). is_marked o l.positive) is ∙ ap (λ (b : Bool). is_marked (Some value) b) (sym same) ∙ same_self value

beq_false : (a b : Bool) → beq a b ≡ false → a ≡ b → ⊥
beq_false true true e same = cc
beq_false true false e same = cc
beq_false false true e same = cc
beq_false false false e same = cc

-- a literal, read at a place among literals, and the value that is found for its variable
pub mark_at : (marks all : List (Option Bool)) (inner : TrailState) (variable : ℕ) (l : Literal) (value : Option Bool) → marks ≡ inner.marks → inner.marks ≡ all → variable ≡ l.variable → get_or marks variable None ≡ value → get_or all l.variable None ≡ value
mark_at marks all inner variable l value a b v is = ap (λ (x : ℕ). get_or all x None) (sym v) ∙ ap (λ (x : List (Option Bool)). get_or x variable None) (sym (a ∙ b)) ∙ is

-- the value is the literal's sign: the literal is true
pub marked_true : (marks : List (Option Bool)) (l : Literal) (value positive : Bool) → get_or marks l.variable None ≡ Some value → positive ≡ l.positive → beq value positive ≡ true → Holds (marked marks) l
marked_true marks l value positive is sign same = value_holds marks l value is (beq_equal value positive same ∙ sign)

-- it isn't: the literal is false
pub marked_false : (marks : List (Option Bool)) (l : Literal) (value positive : Bool) → get_or marks l.variable None ≡ Some value → positive ≡ l.positive → beq value positive ≡ false → Fails (marked marks) l
marked_false marks l value positive is sign differ = value_fails marks l value is (λ e. beq_false value positive differ (e ∙ sym sign))
