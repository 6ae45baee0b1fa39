-- Propagation along the trail.
use Rattle.std.proofs.Common.{◌≡◌, ℕ, ◌+◌, ◌<◌, List, [], ◌∷◌, ◌++◌, length, get_or, refl, sym, ◌∙◌, ap, ap₂, subst, inl, inr, arith, Bool, not}
use Rattle.std.specs.Prelude.{IsTrue, All, Option, None, Some}
use Rattle.std.proofs.Math.ListN.{set, length-set}
use Rattle.std.proofs.lemmas.List.{get_or-set_same, get_or_append_left, length_push}
use Rattle.std.proofs.lemmas.List.Elements.{All-contains, Contains-push}
use Rattle.std.proofs.Math.Bool.{not-not}
use Rattle.civl_cnf.specs.Literal.{Literal, opposite}
use Rattle.civl_cnf.specs.ClauseSet.{IsBelow}
use Rattle.civl_units.specs.Propagation.{Holds, Fails, IsFalsified, IsUnit}
use Rattle.civl_units.specs.Marks.{is_marked, marked, IsQuiet, IsIncluded}
use Rattle.civl_units.specs.Trail.{IsOpen, open_count}
use Rattle.civl_units.proofs.MarkLemmas.{same_self, lt_or_eq, mark_absent}
use Rattle.civl_units.proofs.Propagating.{marks_stay, same_is}
use Rattle.civl_units.proofs.Trails.{open_set}
use Rattle.civl_propagation.specs.Trail.{TrailState, before, IsAt, IsStep, ReasonSays, IsTrail, IsTrailOver, IsPushed, IsDecided}
use Rattle.civl_propagation.specs.Propagation.{IsServed, Goes, Grows}
use Rattle.civl_propagation.specs.declared.trail.Step.{Step}
use Rattle.civl_propagation.proofs.Trails.{some_step, before_place, before_by, before_marked, before_push, before_all, trail_push, trail_start, trail_same}

pub falsified_grows : (a b : ℕ → Bool → Bool) (clause : List Literal) → IsIncluded a b → IsFalsified a clause → IsFalsified b clause
falsified_grows a b clause within f = λ k d low. within (get_or clause k d).variable (not (get_or clause k d).positive) (f k d low)

pub served_quiet : (set : ℕ → Bool → Bool) (clause : List Literal) → IsQuiet set clause → IsServed set set clause
served_quiet set clause q = record { forced = q.0; quiet = q.1 }

pub open_fails : (marks : List (Option Bool)) (l : Literal) → IsOpen marks l → Fails (marked marks) l → ⊥
open_fails marks l free p = mark_absent (get_or marks l.variable None) (not l.positive) free p

-- a clause that forces a literal is served once this is true
served_forced : (marks : List (Option Bool)) (large : ℕ → Bool → Bool) (clause : List Literal) (l : Literal) → IsUnit (marked marks) clause l → IsOpen marks l → Holds large l → IsServed (marked marks) large clause
served_forced marks large clause l unit free holds =
    let fails : Fails (marked marks) (get_or clause unit.0.0 l) → ⊥ = λ f. open_fails marks l free (subst (λ x. Fails (marked marks) x) unit.0.2 f) in
    record {
      forced = λ m other. elim (other.1 unit.0.0 l unit.0.1) [
        | inl e ↦ subst (λ x. Holds large x) (sym unit.0.2 ∙ e) holds
        | inr f ↦ absurd (fails f)
      ];
      quiet = λ all. fails (all unit.0.0 l unit.0.1);
    }

-- the mark of a variable is of one sign
pub mark_is : (marks : List (Option Bool)) (v : ℕ) (a b : Bool) → get_or marks v None ≡ Some a → IsTrue (marked marks v b) → a ≡ b
mark_is marks v a b e h = same_is a b (ap (λ m. is_marked m b) (sym e) ∙ h)

-- a mark with the place of a step is the step's
pub step_one : (marks : List (Option Bool)) (places : List ℕ) (steps : List Step) (starts : List ℕ) (clauses : List (List Literal)) (n : ℕ) (l : Literal) (v : ℕ) (b : Bool) → IsTrail marks places steps starts clauses → n < length steps → ((d : Step) → (get_or steps n d).lit ≡ l) → IsTrue (marked marks v b) → get_or places v 0 ≡ n → v ≡ l.variable
step_one marks places steps starts clauses n l v b t low is held place =
    sym (t.marks_are v b some_step held).1 ∙ ap (λ i. (get_or steps i some_step).lit.variable) place ∙ ap (λ (m : Literal). m.variable) (is some_step)

-- a literal that is false by a step is its opposite
opposite_is : (marks : List (Option Bool)) (places : List ℕ) (n : ℕ) (l m : Literal) → IsStep marks places n l → m.variable ≡ l.variable → Fails (marked marks) m → m ≡ opposite l
opposite_is marks places n l m step e fails =
    let sign : l.positive ≡ not m.positive = same_is l.positive (not m.positive) (ap (λ o. is_marked o (not m.positive)) (sym (ap (λ u. get_or marks u None) e ∙ step.mark)) ∙ fails) in
    ap₂ (λ (v : ℕ) (b : Bool). record { variable = v; positive = b }) e (sym (not-not m.positive) ∙ ap not (sym sign))

-- a literal that fails before the place behind a step, and isn't the opposite of its literal, fails before the step
pub fails_older : (marks : List (Option Bool)) (places : List ℕ) (steps : List Step) (starts : List ℕ) (clauses : List (List Literal)) (n : ℕ) (l m : Literal) → IsTrail marks places steps starts clauses → n < length steps → ((d : Step) → (get_or steps n d).lit ≡ l) → IsStep marks places n l → (m ≡ opposite l → ⊥) → Fails (before marks places (n + 1)) m → Fails (before marks places n) m
fails_older marks places steps starts clauses n l m t low is step other f =
    let held = before_marked marks places (n + 1) m.variable (not m.positive) f in
    let place : get_or places m.variable 0 < n + 1 = before_place marks places (n + 1) m.variable (not m.positive) f in
    elim (lt_or_eq (get_or places m.variable 0) n place) [
      | inl less ↦ before_by marks places n m.variable (not m.positive) less held
      | inr same ↦ absurd (other (opposite_is marks places n l m step (step_one marks places steps starts clauses n l m.variable (not m.positive) t low is held same) held))
    ]

fewer_set : (old new : List (Option Bool)) (l : Literal) → new ≡ set old l.variable (Some l.positive) → l.variable < length old → IsOpen old l → open_count new + 1 ≡ open_count old
fewer_set old new l is low free =
    subst (λ m. open_count m + 1 ≡ open_count old) (sym is) (open_set old l.variable l.positive low free)

pub grows_self : (t : TrailState) → Grows t t
grows_self t = record {
  size = refl;
  starts = refl;
  total = refl;
  longer = omega arith;
  steps = λ i d low. refl;
  stays = λ v b m. m;
  same = λ p low. refl;
}

pub grows_trans : (a b c : TrailState) → Grows a b → Grows b c → Grows a c
grows_trans a b c f g =
    let first = f.longer in
    let second = g.longer in
    record {
      size = g.size ∙ f.size;
      starts = g.starts ∙ f.starts;
      total = g.total ∙ f.total;
      longer = omega arith;
      steps = λ i d low. g.steps i d (omega arith) ∙ f.steps i d low;
      stays = λ v x m. g.stays v x (f.stays v x m);
      same = λ p low. g.same p (omega arith) ∙ f.same p low;
    }

-- a literal is made true at the end
pub grows_push : (old new : TrailState) (l : Literal) (r : Option ℕ) → length old.places ≡ length old.marks → IsPushed old new l r → l.variable < length old.marks → IsOpen old.marks l → Grows old new
grows_push old new l r size is low free =
    let s : Step = record { lit = l; reason = r } in
    let fewer : open_count new.marks + 1 ≡ open_count old.marks = fewer_set old.marks new.marks l is.marks low free in
    let longer : length new.steps ≡ length old.steps + 1 = ap length is.steps ∙ length_push old.steps s in
    record {
      size = ap length is.marks ∙ length-set old.marks l.variable (Some l.positive);
      starts = is.starts;
      total = omega arith;
      longer = omega arith;
      steps = λ i d below. ap (λ (x : List Step). get_or x i d) is.steps ∙ get_or_append_left old.steps (s ∷ []) d i below;
      stays = λ v b m. subst (λ x. IsTrue (marked x v b)) (sym is.marks) (marks_stay old.marks l free v b m);
      same = λ p below.
          ap (λ x. before x new.places p) is.marks
          ∙ ap (λ x. before (set old.marks l.variable (Some l.positive)) x p) is.places
          ∙ before_push old.marks old.places (length old.steps) p l.variable l.positive below low size free;
    }

-- a literal that a clause forces is made true
pub goes_push : (old new : TrailState) (clauses : List (List Literal)) (l : Literal) (r : ℕ) → IsTrailOver old clauses → IsPushed old new l (Some r) → IsAt clauses r (λ c. IsUnit (marked old.marks) c l) → IsOpen old.marks l → l.variable < length old.marks → Goes old new clauses
goes_push old new clauses l r t is found free low = record {
  grows = grows_push old new l (Some r) t.size is low free;
  trail =
      let all : before old.marks old.places (length old.steps) ≡ marked old.marks = before_all old.marks old.places old.steps old.starts clauses t in
      let reason : ReasonSays (before old.marks old.places (length old.steps)) clauses old.starts (length old.steps) l (Some r)
      = subst (λ f. IsAt clauses r (λ c. IsUnit f c l)) (sym all) found in
      trail_same _ _ _ _ _ _ _ _ clauses is.marks is.places is.steps is.starts
      (trail_push old.marks old.places old.steps old.starts clauses l (Some r) t low free reason);
}

pub goes_self : (t : TrailState) (clauses : List (List Literal)) → IsTrailOver t clauses → Goes t t clauses
goes_self t clauses h = record { grows = grows_self t; trail = h }

pub holds_push : (old new : TrailState) (l : Literal) (r : Option ℕ) → IsPushed old new l r → l.variable < length old.marks → Holds (marked new.marks) l
holds_push old new l r is low =
    ap (λ m. is_marked m l.positive) (ap (λ x. get_or x l.variable None) is.marks ∙ get_or-set_same old.marks l.variable (Some l.positive) None low) ∙ same_self l.positive

-- a literal of a clause has a known variable
pub unit_within : (n : ℕ) (set : ℕ → Bool → Bool) (clause : List Literal) (l : Literal) → IsUnit set clause l → IsBelow n clause → l.variable < n
unit_within n set clause l unit below = All-contains (λ (m : Literal). m.variable < n) clause l below unit.0

-- a clause that forces a literal was visited
pub visit_forces : (old new : TrailState) (clauses : List (List Literal)) (i : ℕ) → IsTrailOver old clauses → i < length clauses → (l : Literal) → IsUnit (marked old.marks) (get_or clauses i []) l → IsOpen old.marks l → l.variable < length old.marks → IsPushed old new l (Some i) → Goes old new clauses × IsAt clauses i (IsServed (marked old.marks) (marked new.marks))
visit_forces old new clauses i t low l unit free known pushed = (
  goes_push old new clauses l i t pushed (low, unit) free known,
  (low, served_forced old.marks (marked new.marks) (get_or clauses i []) l unit free (holds_push old new l (Some i) pushed known)),
)

pub visit_quiet : (old : TrailState) (clauses : List (List Literal)) (i : ℕ) → IsTrailOver old clauses → i < length clauses → IsQuiet (marked old.marks) (get_or clauses i []) → Goes old old clauses × IsAt clauses i (IsServed (marked old.marks) (marked old.marks))
visit_quiet old clauses i t low quiet = (goes_self old clauses t, (low, served_quiet (marked old.marks) (get_or clauses i []) quiet))

-- a level begins with a decision
pub trail_decides : (old new : TrailState) (clauses : List (List Literal)) (l : Literal) → IsTrailOver old clauses → All (IsQuiet (marked old.marks)) clauses → IsDecided old new l → l.variable < length old.marks → IsOpen old.marks l → IsTrailOver new clauses
trail_decides old new clauses l t quiet is below free =
    let all : before old.marks old.places (length old.steps) ≡ marked old.marks = before_all old.marks old.places old.steps old.starts clauses t in
    let t' = trail_start old.marks old.places old.steps old.starts clauses t (subst (λ f. All (IsQuiet f) clauses) (sym all) quiet) in
    let starts' = old.starts ++ length old.steps ∷ [] in
    trail_same _ _ _ _ _ _ _ _ clauses is.marks is.places is.steps is.starts
    (trail_push old.marks old.places old.steps starts' clauses l None t' below free (Contains-push old.starts (length old.steps)))

pub fewer_decide : (old new : TrailState) (l : Literal) → IsDecided old new l → l.variable < length old.marks → IsOpen old.marks l → open_count new.marks < open_count old.marks
fewer_decide old new l is below free = let fewer = fewer_set old.marks new.marks l is.marks below free in omega arith
