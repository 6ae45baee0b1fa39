-- Levels that are taken back.
use Rattle.std.proofs.Common.{◌≡◌, ℕ, ◌-◌, ◌<◌, ◌≤◌, List, length, get_or, take, refl, sym, ◌∙◌, ap, subst, arith}
use Rattle.std.specs.Prelude.{All, None}
use Rattle.std.proofs.Math.ListN.{set, length-set}
use Rattle.std.proofs.lemmas.List.{get_or_default, get_or-take, length-take-le, take-take}
use Rattle.civl_cnf.specs.Literal.{Literal}
use Rattle.civl_units.specs.Marks.{marked, IsQuiet}
use Rattle.civl_propagation.specs.Trail.{TrailState, before, IsStep, IsTrailOver, IsStanding, IsPopped, IsUnstarted, IsCut, AreDecided}
use Rattle.civl_propagation.specs.declared.trail.Step.{Step}
use Rattle.civl_propagation.proofs.Trails.{some_step, trail_same, trail_pop, trail_unstart, before_all, before_pop}

-- what stays of a trail while its last level is taken back
pub record Cutting (first now : TrailState) : Type 0 where
  pub size : length now.marks ≡ length first.marks
  pub starts : now.starts ≡ first.starts
  pub fewer : length now.steps ≤ length first.steps
  pub steps : (i : ℕ) (d : Step) → i < length now.steps → get_or now.steps i d ≡ get_or first.steps i d
  pub same : (p : ℕ) → p ≤ length now.steps → before now.marks now.places p ≡ before first.marks first.places p
  pub keeps : (clauses : List (List Literal)) → IsTrailOver first clauses → IsTrailOver now clauses

pub cutting_none : (first : TrailState) → Cutting first first
cutting_none first = record {
  size = refl;
  starts = refl;
  fewer = omega arith;
  steps = λ i d low. refl;
  same = λ p low. refl;
  keeps = λ clauses h. h;
}

pub cutting_pop : (first old new : TrailState) → IsStanding first → Cutting first old → IsPopped old new → 0 < length old.starts → get_or old.starts (length old.starts - 1) 0 < length old.steps → Cutting first new
cutting_pop first old new standing g is some more =
    let n = length old.steps - 1 in
    let s = get_or old.steps n some_step in
    let shorter : length new.steps ≡ n = ap length is.steps ∙ length-take-le n old.steps (omega arith) in
    let older : (i : ℕ) (d : Step) → i < n → get_or new.steps i d ≡ get_or old.steps i d = λ i d low. ap (λ (x : List Step). get_or x i d) is.steps ∙ get_or-take n old.steps i d low in
    let fewer = g.fewer in
    let top : IsStep old.marks old.places n s.lit = (g.keeps standing.0 standing.1).steps_are n some_step (omega arith) in
    let place = top.place in
    record {
      size = ap length (is.marks some_step) ∙ length-set old.marks s.lit.variable None ∙ g.size;
      starts = is.starts ∙ g.starts;
      fewer = omega arith;
      steps = λ i d low. older i d (omega arith) ∙ g.steps i d (omega arith);
      same = λ p low.
          ap (λ x. before x new.places p) (is.marks some_step)
          ∙ ap (λ x. before (set old.marks s.lit.variable None) x p) is.places
          ∙ before_pop old.marks old.places p s.lit.variable (omega arith)
          ∙ g.same p (omega arith);
      keeps = λ clauses h.
          let t = g.keeps clauses h in
          trail_same _ _ _ _ _ _ _ _ clauses (is.marks some_step) is.places is.steps is.starts
          (trail_pop old.marks old.places old.steps old.starts clauses n s t (omega arith)
          (λ e. get_or_default old.steps n e some_step (omega arith))
          (λ k low. let r = t.rise k (length old.starts - 1) (omega arith) (omega arith) in omega arith));
    }

-- the last literal can be taken back
pub pops : (first now : TrailState) → IsStanding first → Cutting first now → 0 < length now.steps → (d : Step) → (get_or now.steps (length now.steps - 1) d).lit.variable < length now.marks
pops first now standing g some d = ((g.keeps standing.0 standing.1).steps_are (length now.steps - 1) d (omega arith)).within

-- the trail is cut at the start of its last level
pub cut_by : (first now new : TrailState) → 0 < length first.starts → Cutting first now → get_or first.starts (length first.starts - 1) 0 ≡ length now.steps → IsUnstarted now new → IsCut first new (length first.starts - 1)
cut_by first now new some g top is =
    let n = length first.starts - 1 in
    let size : length now.starts ≡ length first.starts = ap length g.starts in
    let kept : (d : ℕ) → get_or now.starts n d ≡ length now.steps = λ d. ap (λ (x : List ℕ). get_or x n d) g.starts ∙ get_or_default first.starts n d 0 (omega arith) ∙ top in
    let count : length new.steps ≡ length now.steps = ap length is.steps in
    record {
      size = ap length is.marks ∙ g.size;
      starts = is.starts ∙ ap (λ (x : List ℕ). take (length x - 1) x) g.starts;
      end = count ∙ sym top;
      steps = λ i d low. ap (λ (x : List Step). get_or x i d) is.steps ∙ g.steps i d (omega arith);
      same = λ p low. ap (λ x. before x new.places p) is.marks ∙ ap (λ x. before now.marks x p) is.places ∙ g.same p (omega arith);
      keeps = λ clauses h.
          trail_same _ _ _ _ _ _ _ _ clauses is.marks is.places is.steps (is.starts ∙ ap (λ (k : ℕ). take (k - 1) now.starts) size)
          (trail_unstart now.marks now.places now.steps now.starts clauses n (g.keeps clauses h) (omega arith) kept);
    }

-- one level more was taken back
pub cut_more : (first old new : TrailState) → IsStanding first → length old.starts < length first.starts → 0 < length old.starts → IsCut first old (length old.starts) → IsCut old new (length old.starts - 1) → IsCut first new (length old.starts - 1)
cut_more first old new standing fewer some f g =
    let m = length old.starts in
    let t = f.keeps standing.0 standing.1 in
    let low = t.low (m - 1) (omega arith) in
    let end = g.end in
    record {
      size = g.size ∙ f.size;
      starts = g.starts ∙ ap (take (m - 1)) f.starts ∙ take-take (m - 1) m first.starts (omega arith);
      end = g.end ∙ ap (λ (x : List ℕ). get_or x (m - 1) 0) f.starts ∙ get_or-take m first.starts (m - 1) 0 (omega arith);
      steps = λ i d below. g.steps i d below ∙ f.steps i d (omega arith);
      same = λ p below. g.same p below ∙ f.same p (omega arith);
      keeps = λ clauses h. g.keeps clauses (f.keeps clauses h);
    }

pub cut_standing : (first now : TrailState) (n : ℕ) → IsStanding first → IsCut first now n → IsStanding now
cut_standing first now n standing cut = (standing.0, cut.keeps standing.0 standing.1)

pub cut_count : (first now : TrailState) (n : ℕ) → n ≤ length first.starts → IsCut first now n → length now.starts ≡ n
cut_count first now n fits cut = ap length cut.starts ∙ length-take-le n first.starts fits

-- what is left is quiet, since propagation was complete there
pub cut_quiet : (old new : TrailState) (levels : ℕ) (clauses : List (List Literal)) → levels < length old.starts → IsTrailOver old clauses → IsCut old new levels → All (IsQuiet (marked new.marks)) clauses
cut_quiet old new levels clauses fits t cut =
    let all : before new.marks new.places (length new.steps) ≡ marked new.marks = before_all new.marks new.places new.steps new.starts clauses (cut.keeps clauses t) in
    let same : before old.marks old.places (get_or old.starts levels 0) ≡ marked new.marks = ap (before old.marks old.places) (sym cut.end) ∙ sym (cut.same (length new.steps) (omega arith)) ∙ all in
    subst (λ f. All (IsQuiet f) clauses) same (t.closed levels fits)

-- the decisions that are left
pub cut_decided : (old new : TrailState) (levels : ℕ) (decisions : List Literal) → levels < length old.starts → IsCut old new levels → AreDecided old decisions → AreDecided new (take levels decisions)
cut_decided old new levels decisions fits cut d =
    let size = d.size in
    let count : length new.starts ≡ levels = cut_count old new levels (omega arith) cut in
    let left : length (take levels decisions) ≡ levels = length-take-le levels decisions (omega arith) in
    let older : (k : ℕ) → k < levels → get_or new.starts k 0 ≡ get_or old.starts k 0 = λ k low. ap (λ (x : List ℕ). get_or x k 0) cut.starts ∙ get_or-take levels old.starts k 0 low in
    let end = cut.end in
    let low : (k : ℕ) → k < levels → get_or new.starts k 0 < length new.steps = λ k below.
    let a = older k below in
    let r = d.rise k levels below fits in
    omega arith in
    record {
      size = count ∙ sym left;
      rise = λ i j less below.
          let a = older i (omega arith) in
          let b = older j (omega arith) in
          let r = d.rise i j less (omega arith) in
          omega arith;
      low = λ k below. low k (omega arith);
      each = λ k s e below.
          let here : k < levels = omega arith in
          ap (λ (x : Step). x.lit) (cut.steps (get_or new.starts k 0) s (low k here) ∙ ap (λ i. get_or old.steps i s) (older k here))
          ∙ d.each k s e (omega arith)
          ∙ sym (get_or-take levels decisions k e here);
    }
