-- What leads to a conflict.
use Rattle.std.proofs.Common.{◌≡◌, ◌⊎◌, ℕ, suc, zero, ◌+◌, ◌-◌, ◌<◌, ◌≤◌, List, [], ◌∷◌, ◌++◌, length, get_or, refl, sym, ◌∙◌, ap, subst, inl, inr, arith, Bool, true, false, not}
use Rattle.std.specs.Prelude.{IsTrue, All, Contains, Option, None, Some}
use Rattle.std.proofs.Math.ListN.{set, length-set}
use Rattle.std.proofs.lemmas.Bool.Decides.{eqb_tells}
use Rattle.std.proofs.lemmas.List.{get_or-set_same, get_or-set_other, get_or_default, get_or_append_left, get_or_push, length_push}
use Rattle.std.proofs.lemmas.Bool.{and_from, and_parts, cases_lt}
use Rattle.civl_cnf.specs.Literal.{Literal}
use Rattle.civl_cnf.specs.ClauseSet.{IsBelow, AreBelow}
use Rattle.civl_units.specs.Propagation.{Holds, Fails, IsFalsified, IsUnit, IsClosedAt, IsClosed, HasConflict}
use Rattle.civl_units.specs.Marks.{is_marked, marked, IsQuiet, IsIncluded}
use Rattle.civl_units.proofs.MarkLemmas.{same_self, lt_or_eq}
use Rattle.civl_units.proofs.Propagating.{unit_grows}
use Rattle.civl_propagation.specs.Trail.{TrailState, before, IsAt, IsStep, ReasonSays, IsTrailOver}
use Rattle.civl_propagation.specs.declared.trail.Step.{Step}
use Rattle.civl_propagation.proofs.Trails.{some_step, before_place, before_by, before_marked}
use Rattle.civl_propagation.proofs.Serving.{mark_is}
use Rattle.civl_cdcl.specs.inner.Levels.{FirstSays, LastSays}
use Rattle.civl_cdcl.specs.inner.Analysis.{sees, seen_before, HasVariable, AreFound, SeesOne, Sees, Analyses, HasOne, IsUnseen}

-- an element read with another default
pub at_same : {X : Type 0} (xs : List X) (n k : ℕ) (x d : X) → n < length xs → k ≡ n → get_or xs n x ≡ get_or xs k d
at_same xs n k x d below same = get_or_default xs n x d below ∙ ap (λ i. get_or xs i d) (sym same)

-- a clause that is falsified, by its number
pub conflict_at : (s : ℕ → Bool → Bool) (clauses : List (List Literal)) (i : ℕ) → IsAt clauses i (IsFalsified s) → HasConflict s clauses
conflict_at s clauses i at = (i, get_or clauses i [], at.0, get_or_default clauses i (get_or clauses i []) [] at.0, at.1)

pub quiet_unfalsified : (set : ℕ → Bool → Bool) (clauses : List (List Literal)) → All (IsQuiet set) clauses → HasConflict set clauses → ⊥
quiet_unfalsified set clauses quiet found = (subst (IsQuiet set) found.3 (quiet found.0 found.1 found.2)).1 found.4

-- what is seen before a place
pub seen_by : (marks : List (Option Bool)) (places : List ℕ) (seen : List Bool) (p v : ℕ) (b : Bool) → IsTrue (sees seen v) → IsTrue (before marks places p v b) → IsTrue (seen_before marks places seen p v b)
seen_by marks places seen p v b here low = and_from (sees seen v) (before marks places p v b) here low

pub seen_sees : (marks : List (Option Bool)) (places : List ℕ) (seen : List Bool) (p v : ℕ) (b : Bool) → IsTrue (seen_before marks places seen p v b) → IsTrue (sees seen v)
seen_sees marks places seen p v b h = (and_parts (sees seen v) (before marks places p v b) h).0

pub seen_low : (marks : List (Option Bool)) (places : List ℕ) (seen : List Bool) (p v : ℕ) (b : Bool) → IsTrue (seen_before marks places seen p v b) → IsTrue (before marks places p v b)
seen_low marks places seen p v b h = (and_parts (sees seen v) (before marks places p v b) h).1

pub seen_place : (marks : List (Option Bool)) (places : List ℕ) (seen : List Bool) (p v : ℕ) (b : Bool) → IsTrue (seen_before marks places seen p v b) → get_or places v 0 < p
seen_place marks places seen p v b h = before_place marks places p v b (seen_low marks places seen p v b h)

pub seen_marked : (marks : List (Option Bool)) (places : List ℕ) (seen : List Bool) (p v : ℕ) (b : Bool) → IsTrue (seen_before marks places seen p v b) → IsTrue (marked marks v b)
seen_marked marks places seen p v b h = before_marked marks places p v b (seen_low marks places seen p v b h)

-- a variable that isn't seen yet is listed
pub found_more : (old : List Bool) (found : List ℕ) (v : ℕ) → v < length old → get_or old v false ≡ false → AreFound old found → AreFound (set old v true) (found ++ v ∷ [])
found_more old found v low unseen f =
    let longer = length_push found v in
    let here : get_or (set old v true) v false ≡ true = get_or-set_same old v true false low in
    let older : (k : ℕ) → k < length found → get_or (found ++ v ∷ []) k 0 ≡ get_or found k 0 = λ k below. get_or_append_left found (v ∷ []) 0 k below in
    let newest : (k : ℕ) → k ≡ length found → get_or (found ++ v ∷ []) k 0 ≡ v = λ k e. get_or_push found v 0 k (sym e) in
    let stays : (u : ℕ) → IsTrue (sees old u) → IsTrue (sees (set old v true) u) = λ u h. elim (eqb_tells u v) [
      | inl is ↦ ap (λ i. get_or (set old v true) i false) is.1 ∙ here
      | inr other ↦ get_or-set_other old v u true false other.1 ∙ h
    ] in
    record {
      once = λ i j less below e. elim (lt_or_eq j (length found) (omega arith)) [
        | inl earlier ↦ f.once i j less earlier (sym (older i (omega arith)) ∙ e ∙ older j earlier)
        | inr is ↦
            let same : get_or found i 0 ≡ v = sym (older i (omega arith)) ∙ e ∙ newest j is in
            let seen : IsTrue (sees old v) = subst (λ u. IsTrue (sees old u)) same (f.only i (omega arith)) in
            let clash : false ≡ true = sym unseen ∙ seen in
            cc
      ];
      only = λ k below. elim (lt_or_eq k (length found) (omega arith)) [
        | inl earlier ↦ subst (λ u. IsTrue (sees (set old v true) u)) (sym (older k earlier)) (stays (get_or found k 0) (f.only k earlier))
        | inr is ↦ subst (λ u. IsTrue (sees (set old v true) u)) (sym (newest k is)) here
      ];
      every = λ u h. elim (eqb_tells u v) [
        | inl is ↦ (length found, omega arith, newest (length found) refl ∙ sym is.1)
        | inr other ↦
            let at = f.every u (sym (get_or-set_other old v u true false other.1) ∙ h) in
            let below : at.0 < length found = at.1 in
            (at.0, omega arith, older at.0 below ∙ at.2)
      ];
    }

pub sees_more : (place root : ℕ) (old : List Bool) (v : ℕ) → v < length old → SeesOne place root old (set old v true) v
sees_more place root old v low =
    let here : get_or (set old v true) v false ≡ true = get_or-set_same old v true false low in
    record {
      size = length-set old v true;
      keeps = λ u h. elim (eqb_tells u v) [
        | inl is ↦ ap (λ i. get_or (set old v true) i false) is.1 ∙ here
        | inr other ↦ get_or-set_other old v u true false other.1 ∙ h
      ];
      here = inr here;
      only = λ u h. elim (eqb_tells u v) [
        | inl is ↦ inr (sym is.1)
        | inr other ↦ inl (sym (get_or-set_other old v u true false other.1) ∙ h)
      ];
    }

-- the first n literals are seen
pub record SeesSome (places : List ℕ) (root : ℕ) (old new : List Bool) (clause : List Literal) (n : ℕ) : Type 0 where
  pub size : length new ≡ length old
  pub keeps : (v : ℕ) → IsTrue (sees old v) → IsTrue (sees new v)
  pub every : (k : ℕ) (d : Literal) → k < n → (get_or places (get_or clause k d).variable 0 < root) ⊎ IsTrue (sees new (get_or clause k d).variable)
  pub only : (v : ℕ) → IsTrue (sees new v) → IsTrue (sees old v) ⊎ HasVariable clause v

pub sees_none : (places : List ℕ) (root : ℕ) (old : List Bool) (clause : List Literal) → SeesSome places root old old clause 0
sees_none places root old clause = record { size = refl; keeps = λ v h. h; every = λ k d low. absurd (omega arith); only = λ v h. inl h }

pub sees_next : (places : List ℕ) (root place v : ℕ) (old mid new : List Bool) (clause : List Literal) (n : ℕ) (e : Literal) → n < length clause → v ≡ (get_or clause n e).variable → place ≡ get_or places v 0 → SeesSome places root old mid clause n → SeesOne place root mid new v → SeesSome places root old new clause (n + 1)
sees_next places root place v old mid new clause n e below is at s o =
    let same : (k : ℕ) (d : Literal) → k ≡ n → (get_or clause k d).variable ≡ v = λ k d last. ap (λ (m : Literal). m.variable) (sym (at_same clause n k e d below last)) ∙ sym is in
    record {
      size = o.size ∙ s.size;
      keeps = λ u h. o.keeps u (s.keeps u h);
      every = λ k d low. elim (lt_or_eq k n low) [
        | inl less ↦ elim (s.every k d less) [
          | inl early ↦ inl early
          | inr seen ↦ inr (o.keeps (get_or clause k d).variable seen)
        ]
        | inr last ↦ elim o.here [
          | inl early ↦
              let p : get_or places (get_or clause k d).variable 0 ≡ place = ap (λ u. get_or places u 0) (same k d last) ∙ sym at in
              inl (omega arith)
          | inr seen ↦ inr (subst (λ u. IsTrue (sees new u)) (sym (same k d last)) seen)
        ]
      ];
      only = λ u h. elim (o.only u h) [
        | inl old_one ↦ s.only u old_one
        | inr new_one ↦ inr (n, below, λ d. same n d refl ∙ new_one)
      ];
    }

pub sees_all : (places : List ℕ) (root : ℕ) (old new : List Bool) (clause : List Literal) (n : ℕ) → length clause ≤ n → SeesSome places root old new clause n → Sees places root old new clause
sees_all places root old new clause n whole s = record { size = s.size; keeps = s.keeps; every = λ k d low. s.every k d (omega arith); only = s.only }

-- what holds of the literals below the first level
forced_root : (t : TrailState) (clauses : List (List Literal)) (n : ℕ) (l : Literal) (r : Option ℕ) (set : ℕ → Bool → Bool) → IsClosed set clauses → ((k : ℕ) → k < length t.starts → n < get_or t.starts k 0) → IsIncluded (before t.marks t.places n) set → ReasonSays (before t.marks t.places n) clauses t.starts n l r → Holds set l
forced_root t clauses n l None set closed none within h =
    let low : h.0 < length t.starts = h.1 in
    let is : get_or t.starts h.0 0 ≡ n = get_or_default t.starts h.0 0 n low ∙ h.2 in
    let late = none h.0 low in
    absurd (omega arith)
forced_root t clauses n l (Some r) set closed none within h = closed r [] h.0 l (unit_grows (before t.marks t.places n) set (get_or clauses r []) l within h.1)

before_first : (t : TrailState) (clauses : List (List Literal)) (set : ℕ → Bool → Bool) → IsTrailOver t clauses → IsClosed set clauses → (n : ℕ) → n ≤ length t.steps → ((k : ℕ) → k < length t.starts → n ≤ get_or t.starts k 0) → IsIncluded (before t.marks t.places n) set
before_first t clauses set h closed zero low none v b m = let p = before_place t.marks t.places 0 v b m in absurd (omega arith)
before_first t clauses set h closed (suc n) low none v b m =
    let p : get_or t.places v 0 < suc n = before_place t.marks t.places (suc n) v b m in
    let held = before_marked t.marks t.places (suc n) v b m in
    let late : (k : ℕ) → k < length t.starts → n < get_or t.starts k 0 = λ k few. let r = none k few in omega arith in
    let rest = before_first t clauses set h closed n (omega arith) (λ k few. let r = none k few in omega arith) in
    elim (lt_or_eq (get_or t.places v 0) n (omega arith)) [
      | inl less ↦ rest v b (before_by t.marks t.places n v b less held)
      | inr is ↦
          let s = get_or t.steps n some_step in
          let step = h.steps_are n some_step (omega arith) in
          let holds = forced_root t clauses n s.lit s.reason set closed late rest (h.reasons n some_step (omega arith)) in
          let variable : s.lit.variable ≡ v = ap (λ i. (get_or t.steps i some_step).lit.variable) (sym is) ∙ (h.marks_are v b some_step held).1 in
          let sign : s.lit.positive ≡ b = mark_is t.marks s.lit.variable s.lit.positive b step.mark (subst (λ u. IsTrue (marked t.marks u b)) (sym variable) held) in
          subst (λ u. IsTrue (set u b)) variable (subst (λ x. IsTrue (set s.lit.variable x)) sign holds)
    ]

-- what was made true before the first level lies in each closed set
pub root_closed : (t : TrailState) (clauses : List (List Literal)) (root : ℕ) (set : ℕ → Bool → Bool) → IsTrailOver t clauses → FirstSays t.starts root → IsClosed set clauses → IsIncluded (before t.marks t.places root) set
root_closed t clauses root set h first closed =
    let is = first.1 in
    let some = first.0 in
    let low = h.low 0 some in
    before_first t clauses set h closed root (omega arith) (λ k few. let r = h.rise 0 k (omega arith) few in omega arith)

-- a clause that is falsified leads to a conflict
pub analyses_first : (t : TrailState) (clauses : List (List Literal)) (root r : ℕ) (clause : List Literal) (old seen : List Bool) → IsTrailOver t clauses → FirstSays t.starts root → length old ≡ length t.marks → clause ≡ get_or clauses r [] → IsAt clauses r (IsFalsified (marked t.marks)) → Sees t.places root old seen clause → Analyses t.marks t.places clauses (length t.steps) seen
analyses_first t clauses root r clause old seen h first size is at s =
    let falsified : IsFalsified (marked t.marks) clause = subst (IsFalsified (marked t.marks)) (sym is) at.1 in
    record {
      size = s.size ∙ size;
      conflict = λ set within closed.
          let fails : IsFalsified set clause = λ k e low.
          let v = (get_or clause k e).variable in
          let b = not (get_or clause k e).positive in
          let held : IsTrue (marked t.marks v b) = falsified k e low in
          elim (s.every k e low) [
            | inl early ↦ root_closed t clauses root set h first closed v b (before_by t.marks t.places root v b early held)
            | inr here ↦ within v b (seen_by t.marks t.places seen (length t.steps) v b here (before_by t.marks t.places (length t.steps) v b (h.marks_are v b some_step held).0 held))
          ] in
          conflict_at set clauses r (at.0, subst (IsFalsified set) is fails);
    }

-- one variable stands at a place
pub step_one : (t : TrailState) (clauses : List (List Literal)) (at : ℕ) (l : Literal) (v : ℕ) (b : Bool) → IsTrailOver t clauses → IsStep t.marks t.places at l → IsTrue (marked t.marks v b) → get_or t.places v 0 ≡ at → v ≡ l.variable
step_one t clauses at l v b h step held same =
    let d : Step = record { lit = l; reason = None } in
    let one = h.marks_are v b d held in
    let two = h.marks_are l.variable l.positive d (ap (λ m. is_marked m l.positive) step.mark ∙ same_self l.positive) in
    let place : get_or t.places v 0 ≡ get_or t.places l.variable 0 = same ∙ sym step.place in
    sym one.1 ∙ ap (λ i. (get_or t.steps i d).lit.variable) place ∙ two.1

-- a step that isn't seen is passed
pub analyses_skip : (t : TrailState) (clauses : List (List Literal)) (at : ℕ) (l : Literal) (seen : List Bool) → IsTrailOver t clauses → IsStep t.marks t.places at l → (IsTrue (sees seen l.variable) → ⊥) → Analyses t.marks t.places clauses (at + 1) seen → Analyses t.marks t.places clauses at seen
analyses_skip t clauses at l seen h step unseen a = record {
  size = a.size;
  conflict = λ set within closed. a.conflict set (λ v b m.
      let here = seen_sees t.marks t.places seen (at + 1) v b m in
      let held = seen_marked t.marks t.places seen (at + 1) v b m in
      let place : get_or t.places v 0 < at + 1 = seen_place t.marks t.places seen (at + 1) v b m in
      elim (lt_or_eq (get_or t.places v 0) at place) [
        | inl less ↦ within v b (seen_by t.marks t.places seen at v b here (before_by t.marks t.places at v b less held))
        | inr same ↦ absurd (unseen (subst (λ u. IsTrue (sees seen u)) (step_one t clauses at l v b h step held same) here))
      ]) closed;
}

-- a literal that is marked with the sign of a step's is the step's
step_holds : (t : TrailState) (clauses : List (List Literal)) (at : ℕ) (l : Literal) (set : ℕ → Bool → Bool) (v : ℕ) (b : Bool) → IsTrailOver t clauses → IsStep t.marks t.places at l → IsTrue (marked t.marks v b) → get_or t.places v 0 ≡ at → Holds set l → IsTrue (set v b)
step_holds t clauses at l set v b h step held same holds =
    let e : v ≡ l.variable = step_one t clauses at l v b h step held same in
    let sign : l.positive ≡ b = mark_is t.marks l.variable l.positive b step.mark (subst (λ u. IsTrue (marked t.marks u b)) e held) in
    subst (λ u. IsTrue (set u b)) (sym e) (subst (λ x. IsTrue (set l.variable x)) sign holds)

closed_at : (s : ℕ → Bool → Bool) (clauses : List (List Literal)) (r : ℕ) (clause : List Literal) → r < length clauses → clause ≡ get_or clauses r [] → IsClosed s clauses → IsClosedAt s clause
closed_at s clauses r clause low is closed = subst (IsClosedAt s) (sym is) (closed r [] low)

-- what a reason forces, where its other literals are seen or were made true before the first level
pub forced_by : (t : TrailState) (clauses : List (List Literal)) (root at r : ℕ) (l : Literal) (clause : List Literal) (seen : List Bool) (set : ℕ → Bool → Bool) → IsTrailOver t clauses → FirstSays t.starts root → IsAt clauses r (λ c. IsUnit (before t.marks t.places at) c l) → clause ≡ get_or clauses r [] → ((k : ℕ) (d : Literal) → k < length clause → Fails (before t.marks t.places at) (get_or clause k d) → (get_or t.places (get_or clause k d).variable 0 < root) ⊎ IsTrue (sees seen (get_or clause k d).variable)) → IsIncluded (seen_before t.marks t.places seen at) set → IsClosed set clauses → Holds set l
forced_by t clauses root at r l clause seen set h first reason is every within closed =
    let unit : IsUnit (before t.marks t.places at) clause l = subst (λ c. IsUnit (before t.marks t.places at) c l) (sym is) reason.1 in
    closed_at set clauses r clause reason.0 is closed l (
      unit.0,
      λ k d low. elim (unit.1 k d low) [
        | inl e ↦ inl e
        | inr f ↦
            let v = (get_or clause k d).variable in
            let b = not (get_or clause k d).positive in
            let held = before_marked t.marks t.places at v b f in
            elim (every k d low f) [
              | inl early ↦ inr (root_closed t clauses root set h first closed v b (before_by t.marks t.places root v b early held))
              | inr here ↦ inr (within v b (seen_by t.marks t.places seen at v b here f))
            ]
      ],
    )

-- a step that is seen is resolved with its reason
pub analyses_resolve : (t : TrailState) (clauses : List (List Literal)) (root at r : ℕ) (l : Literal) (clause : List Literal) (seen new : List Bool) → IsTrailOver t clauses → FirstSays t.starts root → IsStep t.marks t.places at l → IsAt clauses r (λ c. IsUnit (before t.marks t.places at) c l) → clause ≡ get_or clauses r [] → Sees t.places root seen new clause → Analyses t.marks t.places clauses (at + 1) seen → Analyses t.marks t.places clauses at new
analyses_resolve t clauses root at r l clause seen new h first step reason is s a = record {
  size = s.size ∙ a.size;
  conflict = λ set within closed.
      let holds : Holds set l = forced_by t clauses root at r l clause new set h first reason is (λ k d low f. s.every k d low) within closed in
      a.conflict set (λ v b m.
      let here = seen_sees t.marks t.places seen (at + 1) v b m in
      let held = seen_marked t.marks t.places seen (at + 1) v b m in
      let place : get_or t.places v 0 < at + 1 = seen_place t.marks t.places seen (at + 1) v b m in
      elim (lt_or_eq (get_or t.places v 0) at place) [
        | inl less ↦ within v b (seen_by t.marks t.places new at v b (s.keeps v here) (before_by t.marks t.places at v b less held))
        | inr same ↦ step_holds t clauses at l set v b h step held same holds
      ]) closed;
}

-- with one literal of the level left
pub one_left : (t : TrailState) (clauses : List (List Literal)) (start at : ℕ) (l : Literal) (seen : List Bool) → IsTrailOver t clauses → IsStep t.marks t.places at l → start ≤ at → IsUnseen t.steps seen start at → Analyses t.marks t.places clauses (at + 1) seen → HasOne t.marks t.places clauses start l seen
one_left t clauses start at l seen h step level unseen a = record {
  size = a.size;
  held = ap (λ m. is_marked m l.positive) step.mark ∙ same_self l.positive;
  within = step.within;
  level = omega (arith, step.place);
  conflict = λ set within holds closed. a.conflict set (λ v b m.
      let here = seen_sees t.marks t.places seen (at + 1) v b m in
      let held = seen_marked t.marks t.places seen (at + 1) v b m in
      let place : get_or t.places v 0 < at + 1 = seen_place t.marks t.places seen (at + 1) v b m in
      elim (lt_or_eq (get_or t.places v 0) at place) [
        | inl less ↦ elim (cases_lt (get_or t.places v 0) start) [
          | inl early ↦ within v b (seen_by t.marks t.places seen start v b here (before_by t.marks t.places start v b early held))
          | inr late ↦ absurd (unseen (get_or t.places v 0) some_step late less (subst (λ u. IsTrue (sees seen u)) (sym (h.marks_are v b some_step held).1) here))
        ]
        | inr same ↦ step_holds t clauses at l set v b h step held same holds
      ]) closed;
}

-- below the start of the last level nothing is forced, and no clause is falsified
pub start_quiet : (t : TrailState) (clauses : List (List Literal)) (start : ℕ) → IsTrailOver t clauses → LastSays t.starts (Some start) → All (IsQuiet (before t.marks t.places start)) clauses
start_quiet t clauses start h last =
    let some : 0 < length t.starts = last.0 in
    subst (λ p. All (IsQuiet (before t.marks t.places p)) clauses) last.1 (h.closed (length t.starts - 1) (omega arith))

-- some literal of the level is seen, since no clause is falsified below it
pub level_seen : (t : TrailState) (clauses : List (List Literal)) (start at : ℕ) (seen : List Bool) → IsTrailOver t clauses → LastSays t.starts (Some start) → Analyses t.marks t.places clauses at seen → start < at
level_seen t clauses start at seen h last a = elim (cases_lt start at) [
  | inl less ↦ less
  | inr above ↦
      let set = before t.marks t.places start in
      let quiet = start_quiet t clauses start h last in
      let found = a.conflict set (λ v b m.
      let place : get_or t.places v 0 < at = seen_place t.marks t.places seen at v b m in
      before_by t.marks t.places start v b (omega arith) (seen_marked t.marks t.places seen at v b m)) (λ k d low. (quiet k d low).0) in
      absurd (quiet_unfalsified set clauses quiet found)
]

-- a literal that was decided begins the last level
pub decided_last : (t : TrailState) (clauses : List (List Literal)) (start at : ℕ) → IsTrailOver t clauses → LastSays t.starts (Some start) → Contains t.starts at → at ≤ start
decided_last t clauses start at h last there =
    let some : 0 < length t.starts = last.0 in
    let low : there.0 < length t.starts = there.1 in
    let r = h.rise there.0 (length t.starts - 1) (omega arith) (omega arith) in
    let a : get_or t.starts there.0 0 ≡ at = get_or_default t.starts there.0 0 at low ∙ there.2 in
    omega (arith, last.1)

-- where the walk stands
pub at_walk : (t : TrailState) (clauses : List (List Literal)) (start at : ℕ) (seen : List Bool) → IsTrailOver t clauses → LastSays t.starts (Some start) → Analyses t.marks t.places clauses at seen → (start < at) × Analyses t.marks t.places clauses (at - 1 + 1) seen
at_walk t clauses start at seen h last a =
    let level = level_seen t clauses start at seen h last a in
    let e : at - 1 + 1 ≡ at = omega arith in
    (level, subst (λ n. Analyses t.marks t.places clauses n seen) (sym e) a)

pub step_at : (t : TrailState) (clauses : List (List Literal)) (at : ℕ) (s : Step) → IsTrailOver t clauses → at < length t.steps → ((d : Step) → s ≡ get_or t.steps at d) → IsStep t.marks t.places at s.lit
step_at t clauses at s h low is = subst (λ (x : Step). IsStep t.marks t.places at x.lit) (sym (is s)) (h.steps_are at s low)

pub reason_at : (t : TrailState) (clauses : List (List Literal)) (at : ℕ) (s : Step) → IsTrailOver t clauses → at < length t.steps → ((d : Step) → s ≡ get_or t.steps at d) → ReasonSays (before t.marks t.places at) clauses t.starts at s.lit s.reason
reason_at t clauses at s h low is = subst (λ (x : Step). ReasonSays (before t.marks t.places at) clauses t.starts at x.lit x.reason) (sym (is s)) (h.reasons at s low)

pub steps_within : (t : TrailState) (clauses : List (List Literal)) (n : ℕ) → IsTrailOver t clauses → n ≡ length t.marks → (k : ℕ) (d : Step) → k < length t.steps → (get_or t.steps k d).lit.variable < n
steps_within t clauses n h size k d low = let within = (h.steps_are k d low).within in omega arith

-- a clause has known variables
pub clause_within : (n m : ℕ) (clauses : List (List Literal)) (r : ℕ) (clause : List Literal) → n ≡ m → AreBelow m clauses → r < length clauses → clause ≡ get_or clauses r [] → IsBelow n clause
clause_within n m clauses r clause same below low is =
    subst (λ (k : ℕ). IsBelow k clause) (sym same) (subst (IsBelow m) (sym is) (below r [] low))
