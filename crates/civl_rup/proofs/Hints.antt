-- Trails that grow by hints, and are taken back.
use Rattle.std.proofs.Common.{◌≡◌, ℕ, ◌+◌, ◌<◌, ◌≤◌, List, [], ◌∷◌, length, get_or, sym, ◌∙◌, ap, subst, inl, inr, arith, Bool, true, false}
use Rattle.std.specs.Prelude.{All, Contains, Option, None, Some}
use Rattle.std.proofs.Math.ListN.{length-set}
use Rattle.std.proofs.lemmas.List.{get_or_append_left, get_or_push, get_or-take, length_push, length-take-le}
use Rattle.std.proofs.lemmas.List.Elements.{All-nil, All-contains}
use Rattle.civl_cnf.specs.Literal.{Literal}
use Rattle.civl_units.specs.Propagation.{Holds, Fails, IsUnit, IsFalsified, IsClosed, IsClosedAt, GivesConflict}
use Rattle.civl_units.specs.Marks.{marked, IsIncluded, IsQuiet}
use Rattle.civl_units.specs.Trail.{IsOpen}
use Rattle.civl_units.proofs.MarkLemmas.{lt_or_eq}
use Rattle.civl_units.proofs.Propagating.{any_by, marks_within, unit_grows, conflict_grows}
use Rattle.civl_propagation.specs.Trail.{TrailState, before, IsDecided, IsCut}
use Rattle.civl_propagation.proofs.Trails.{before_all}
use Rattle.civl_propagation.proofs.Serving.{trail_decides}
use Rattle.civl_propagation.proofs.Engines.{before_decide}
use Rattle.civl_rup.specs.inner.Following.{IsLoose, IsForced, IsRoot, Follows, Heeds}

-- one literal more
pub loose_decides : (old new : TrailState) (l : Literal) → IsLoose old → l.variable < length old.marks → IsOpen old.marks l → IsDecided old new l → IsLoose new
loose_decides old new l h low free is =
    let size = h.size in
    let starts : length new.starts ≡ length old.starts + 1 = ap length is.starts ∙ length_push old.starts (length old.steps) in
    let steps : length new.steps ≡ length old.steps + 1 = ap length is.steps ∙ length_push old.steps (record { lit = l; reason = None }) in
    record {
      trail = trail_decides old new [] l h.trail (All-nil (IsQuiet (marked old.marks))) is low free;
      size = omega arith;
      starts = λ k fits. ap (λ (x : List ℕ). get_or x k 0) is.starts ∙ elim (lt_or_eq k (length old.starts) (omega arith)) [
        | inl less ↦ get_or_append_left old.starts (length old.steps ∷ []) 0 k less ∙ h.starts k less
        | inr last ↦ get_or_push old.starts (length old.steps) 0 k (sym last) ∙ omega arith
      ];
    }

pub size_decides : (old new : TrailState) (l : Literal) → IsDecided old new l → length new.marks ≡ length old.marks
size_decides old new l is = ap length is.marks ∙ length-set old.marks l.variable (Some l.positive)

-- it holds wherever the clauses are closed and the literals are false
pub follows_decides : (old new : TrailState) (l : Literal) (first : ℕ) (clauses : List (List Literal)) (falses : List Literal) → IsLoose old → l.variable < length old.marks → IsOpen old.marks l → IsDecided old new l → Follows old first clauses falses → ((s : ℕ → Bool → Bool) → All (Fails s) falses → IsClosed s clauses → IsIncluded (marked old.marks) s → Holds s l) → Follows new first clauses falses
follows_decides old new l first clauses falses h low free is f holds =
    let within = f.within in
    let steps : length new.steps ≡ length old.steps + 1 = ap length is.steps ∙ length_push old.steps (record { lit = l; reason = None }) in
    let same : before new.marks new.places first ≡ before old.marks old.places first = before_decide old new l first h.trail.size is low free within in
    record {
      within = omega arith;
      base = λ s closed. subst (λ x. IsIncluded x s) (sym same) (f.base s closed);
      rest = λ s fails closed.
          let old_in = f.rest s fails closed in
          subst (λ (m : List (Option Bool)). IsIncluded (marked m) s) (sym is.marks) (marks_within old.marks l s low old_in (holds s fails closed old_in));
    }

-- what a clause forces holds in closed sets
pub unit_holds : (old : TrailState) (clause : List Literal) (l : Literal) (clauses : List (List Literal)) (s : ℕ → Bool → Bool) → Contains clauses clause → IsUnit (marked old.marks) clause l → IsClosed s clauses → IsIncluded (marked old.marks) s → Holds s l
unit_holds old clause l clauses s there unit closed within =
    (All-contains (IsClosedAt s) clauses clause closed there) l (unit_grows (marked old.marks) s clause l within unit)

-- a falsified clause is a conflict
pub falsified_conflict : (old : TrailState) (clause : List Literal) (clauses : List (List Literal)) (first : ℕ) (falses : List Literal) → Contains clauses clause → IsFalsified (marked old.marks) clause → Follows old first clauses falses → GivesConflict clauses falses
falsified_conflict old clause clauses first falses there false_now f s fails closed =
    conflict_grows (marked old.marks) s clauses (f.rest s fails closed) (any_by (IsFalsified (marked old.marks)) clauses clause there false_now)

-- nothing more
pub heeds_none : (t : TrailState) (clauses : List (List Literal)) (b : Bool) → b ≡ false → Heeds t t clauses b
heeds_none t clauses b is first falses f = (f, λ yes. let bad : false ≡ true = sym is ∙ yes in cc)

pub heeds_then : (a b c : TrailState) (clauses : List (List Literal)) (r : Bool) → Heeds a b clauses false → Heeds b c clauses r → Heeds a c clauses r
heeds_then a b c clauses r p q first falses f = q first falses (p first falses f).0

-- before the literals are made false, all is true by itself
pub root_follows : (t : TrailState) (clauses : List (List Literal)) (n : ℕ) → IsLoose t → IsRoot t clauses → n ≡ length t.steps → Follows t n clauses []
root_follows t clauses n h root is =
    let all : before t.marks t.places n ≡ marked t.marks = ap (before t.marks t.places) is ∙ before_all t.marks t.places t.steps t.starts [] h.trail in
    record {
      within = omega arith;
      base = λ s closed. subst (λ x. IsIncluded x s) (sym all) (root s closed);
      rest = λ s fails closed. root s closed;
    }

pub follows_root : (t : TrailState) (clauses : List (List Literal)) (first : ℕ) → Follows t first clauses [] → IsRoot t clauses
follows_root t clauses first f s closed = f.rest s (All-nil (Fails s)) closed

-- with more literals false
pub follows_falses : (t : TrailState) (first : ℕ) (clauses : List (List Literal)) (lits : List Literal) → Follows t first clauses [] → Follows t first clauses lits
follows_falses t first clauses lits f = record {
  within = f.within;
  base = f.base;
  rest = λ s fails closed. f.rest s (All-nil (Fails s)) closed;
}

-- with more clauses
pub root_more : (t : TrailState) (clauses more : List (List Literal)) → ((s : ℕ → Bool → Bool) → IsClosed s more → IsClosed s clauses) → IsRoot t clauses → IsRoot t more
root_more t clauses more fewer root s closed = root s (fewer s closed)

-- taken back to what is true by itself
pub cut_loose : (old new : TrailState) (levels : ℕ) → levels < length old.starts → IsLoose old → IsCut old new levels → IsLoose new
cut_loose old new levels low h cut =
    let size = h.size in
    let starts : length new.starts ≡ levels = ap length cut.starts ∙ length-take-le levels old.starts (omega arith) in
    let end : length new.steps ≡ levels = cut.end ∙ h.starts levels low in
    record {
      trail = cut.keeps [] h.trail;
      size = starts ∙ sym end;
      starts = λ k fits. ap (λ (x : List ℕ). get_or x k 0) cut.starts ∙ get_or-take levels old.starts k 0 (omega arith) ∙ h.starts k (omega arith);
    }

pub cut_root : (old new : TrailState) (levels : ℕ) (clauses : List (List Literal)) → levels < length old.starts → IsLoose old → IsCut old new levels → IsForced old levels clauses → IsRoot new clauses
cut_root old new levels clauses low h cut forced s closed =
    let end : length new.steps ≡ levels = cut.end ∙ h.starts levels low in
    let all : before new.marks new.places (length new.steps) ≡ marked new.marks = before_all new.marks new.places new.steps new.starts [] (cut.keeps [] h.trail) in
    let same : before old.marks old.places levels ≡ marked new.marks
    = ap (before old.marks old.places) (sym end) ∙ sym (cut.same (length new.steps) (omega arith)) ∙ all in
    subst (λ x. IsIncluded x s) same (forced s closed)

pub whole_root : (t : TrailState) (levels : ℕ) (clauses : List (List Literal)) → length t.starts ≤ levels → levels ≤ length t.starts → IsLoose t → IsForced t levels clauses → IsRoot t clauses
whole_root t levels clauses a b h forced s closed =
    let size = h.size in
    let is : levels ≡ length t.steps = omega arith in
    let all : before t.marks t.places levels ≡ marked t.marks = ap (before t.marks t.places) is ∙ before_all t.marks t.places t.steps t.starts [] h.trail in
    subst (λ x. IsIncluded x s) all (forced s closed)
